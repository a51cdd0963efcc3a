-- Filling a store's part and trimming what it then holds: each call's needs from what the part was ready for, and the two results as one.
use Prim.Native.Nat.{ℕ, ◌+◌, ◌*◌, ◌≤◌, ◌<◌}
use mathlib.Core.Bool.{Bool}
use mathlib.Core.Path.{◌≡◌, sym, ap, subst, ◌∙◌}
use mathlib.Core.List.{List}
use native.Mathlib.Nat.{le_refl}
use native.Mathlib.Omega.{arith}
use lib.ListN.{length}
use lib.Ieee.{Float}
use Rattle.model.specs.State.{Ranges, Range, Pin}
use Rattle.model.specs.Store.{ranges, pins, lay_ranges, total}
use Rattle.model.specs.Bring.{fill}
use Rattle.model.specs.Trim.{Trimmed, trim}
use Rattle.model.specs.Refusals.{OutList}
use Rattle.model.proofs.Conserved.{fill-total}
use Rattle.theory_bring.proofs.Fill.{fill_length}
use Rattle.theory_lay.proofs.Rows.{ranges_length}
use Rattle.rule_resolve.specs.Span.{only_depth}
use Rattle.shape_state.specs.Lent.{pins_of}
use Rattle.pool_part.specs.Parts.{mid, back, mid_ranges, back_ranges, mid_pins}
use Rattle.pool_part.proofs.Parts.{ranges-part, ranges-back, pins-part, marks-back}
use Rattle.rule_fill.specs.declared.Gaps.{Gaps}
use Rattle.rule_fill.specs.Gaps.{gaps_of}
use Rattle.rule_fill.proofs.Missing.{gaps_length}
use Rattle.rule_fill.proofs.Part.{sized-laid, ranges-laid, laid_twice}
use Rattle.rule_evict.specs.Given.{Ready, GivenOut}
use Rattle.rule_bring.specs.Part.{PartReady}
use Rattle.rule_bring.specs.Pool.{PoolReady, GivenOutAt}

-- ---- a store's part

module _ {depth bytes : List ℕ} {n h : ℕ} {c : Ranges} {ms : List ℕ} {l : OutList} {nd : ℕ} {g : Gaps} {top next : ℕ} {time : Float} {w : ℕ}
    (p : PartReady depth bytes n h c ms l nd g top next time w) where
  abbrev filled_with : List Range
  filled_with = fill nd (gaps_of g) top next time w (ranges c 0 n)

  long : length filled_with ≡ n + length (gaps_of g)
  long = fill_length nd time w (gaps_of g) top next (ranges c 0 n) ∙ ap (λ (x : ℕ). x + length (gaps_of g)) (ranges_length c 0 n)

  few : n + length (gaps_of g) ≤ 128
  few = omega (arith, gaps_length g.list g.n, p.room.records)

  held-filled : h ≡ total filled_with
  held-filled = p.held ∙ sym (fill-total nd (gaps_of g) top next time w (ranges c 0 n))

  -- after the fill
  module _ {k : ℕ} {c₁ : Ranges} (count : k ≡ n + length (gaps_of g)) (laid : c₁ ≡ lay_ranges 0 (n + length (gaps_of g)) filled_with c) where
    read : ranges c₁ 0 k ≡ filled_with
    read = rw (laid, count) (ranges-laid (n + length (gaps_of g)) filled_with c p.ready.cols long few)

    pub part-ready : Ready depth bytes k h c₁ ms l
    part-ready =
        record {
          few = omega (arith, count, few);
          cols = rw laid (sized-laid (n + length (gaps_of g)) filled_with c p.ready.cols (omega (arith, long)) few);
          tables = p.ready.tables;
          reach = rw read p.reach;
          held = rw read held-filled;
          fits = p.ready.fits;
        }

    -- after the trim
    pub part-given : (ps : List Pin) (capacity : ℕ) {c₂ : Ranges} {ms₂ : List ℕ} {l₂ : OutList} {v₀ j q o v : ℕ} {s : Bool}
        → GivenOut (trim (only_depth depth) bytes ps capacity (ranges c₁ 0 k) ms) k v₀ c₁ l c₂ ms₂ l₂ j q o v s
        → GivenOut (trim (only_depth depth) bytes ps capacity filled_with ms) (n + length (gaps_of g)) v₀ c l c₂ ms₂ l₂ j q o v s
    part-given ps capacity {c₂} {ms₂} {l₂} {v₀} {j} {q} {o} {v} {s} y =
        relaid (subst (λ (x : List Range). GivenOut (trim (only_depth depth) bytes ps capacity x ms) k v₀ c₁ l c₂ ms₂ l₂ j q o v s) read y)
      where
        relaid : {t : Trimmed} → GivenOut t k v₀ c₁ l c₂ ms₂ l₂ j q o v s → GivenOut t (n + length (gaps_of g)) v₀ c l c₂ ms₂ l₂ j q o v s
        relaid {t} u =
            record {
              cols =
                  u.cols ∙ (λ i. lay_ranges 0 (count i) t.ranges (laid i))
                  ∙ laid_twice (n + length (gaps_of g)) (n + length (gaps_of g)) filled_with t.ranges c p.ready.cols (le_refl (n + length (gaps_of g)))
                  (omega (arith, long)) few;
              marks = u.marks;
              lists = u.lists;
              records = u.records;
              held = u.held;
              outs = u.outs;
              version = u.version;
              stalled = u.stalled;
            }

-- the lent columns are the lender's again
pub came_back : {w : Trimmed} {n v₀ k h o v : ℕ} {c₀ c cʹ : Ranges} {ms : List ℕ} {l₀ l : OutList} {b : Bool} → c ≡ cʹ → GivenOut w n v₀ c₀ l₀ c ms l k h o v b
    → GivenOut w n v₀ c₀ l₀ cʹ ms l k h o v b
came_back e g = rw (← e) g

-- ---- the parts of store s

-- what goes out of the part, given back
pub given-at : {s n v₀ j k o v : ℕ} {c q : Ranges} {ms ms₂ : List ℕ} {l l₂ : OutList} {t : Bool} (x : Trimmed) → s < 8 → n ≤ 128 → 2048 ≤ length ms
    → length ms₂ ≡ length (mid (256 * s) 256 ms) → GivenOut x n v₀ (mid_ranges (128 * s) 128 c) l q ms₂ l₂ j k o v t
    → GivenOutAt s x n v₀ c ms l (back_ranges (128 * s) 128 q c) (back (256 * s) 256 ms₂ ms) l₂ j k o v t
given-at {s} {n} {c = c} {ms = ms} x store room many kept u =
    record {
      cols = ap (λ (y : Ranges). back_ranges (128 * s) 128 y c) u.cols ∙ ranges-back (128 * s) 128 n x.ranges c room;
      marks = marks-back store ms many kept u.marks;
      lists = u.lists;
      records = u.records;
      held = u.held;
      outs = u.outs;
      version = u.version;
      stalled = u.stalled;
    }

module _ {depth bytes : List ℕ} {s n m h : ℕ} {c : Ranges} {ms : List ℕ} {l : OutList} {pn ps pe : List ℕ} {nd : ℕ} {g : Gaps} {top next : ℕ} {time : Float} {w : ℕ}
    (p : PoolReady depth bytes s n m h c ms l pn ps pe nd g top next time w) where
  pub pool_part : (a b : ℕ) → a ≡ 128 → b ≡ 256 → PartReady depth bytes n h (mid_ranges (128 * s) a c) (mid (256 * s) b ms) l nd g top next time w
  pool_part a b ea eb = rw (ea, eb) p.part

  module _ {q : Ranges} {ms₂ : List ℕ} {l₂ : OutList} {v₀ j k o v : ℕ} {t : Bool} where
    pub pool_given : (count : List ℕ) (capacity a b d : ℕ) → a ≡ 128 → b ≡ 256 → d ≡ 32 → length ms₂ ≡ length (mid (256 * s) b ms)
        → GivenOut (trim (only_depth depth) bytes (pins (mid_pins (32 * s) d (pins_of pn ps pe count)) 0 m) capacity (fill nd (gaps_of g) top next time w (ranges (mid_ranges (128 * s) a c) 0 n)) (mid (256 * s) b ms)) (n + length (gaps_of g)) v₀ (mid_ranges (128 * s) a c) l q ms₂ l₂ j k o v t
        → GivenOutAt s (trim (only_depth depth) bytes (pins (pins_of pn ps pe count) (32 * s) m) capacity (fill nd (gaps_of g) top next time w (ranges c (128 * s) n)) (mid (256 * s) 256 ms)) (n + length (gaps_of g)) v₀ c ms l (back_ranges (128 * s) a q c) (back (256 * s) b ms₂ ms) l₂ j k o v t
    pool_given count capacity a b d ea eb ed kept u =
        let long : length ms₂ ≡ length (mid (256 * s) 256 ms) = rw eb at kept in
        let e = pins-part (pins_of pn ps pe count) (32 * s) 32 m p.entries in
        let f = ranges-part c (128 * s) 128 n p.part.ready.few in
        rw (ea, eb) (given-at _ p.store (few p.part) p.marks long (rw (e, f) at (rw (ea, eb, ed) at u)))
