-- A callee's result on a store's part is one on the pool, and a loop over the stores.
use mathlib.Core.Path.{◌≡◌, refl, sym, ap, ap₂, ◌∙◌}
use mathlib.Core.Bool.{Bool, true, false, ◌||◌}
use mathlib.Core.Logic.{⊎_elim}
use mathlib.Core.List.{List, [], ◌∷◌, ◌++◌}
use Prim.Native.Nat.{ℕ, zero, suc, ◌+◌, ◌*◌, ◌≤◌, ◌<◌}
use native.Mathlib.Nat.{eq-or-lt_of_le}
use native.Mathlib.Numerals.{add-one}
use native.Mathlib.Omega.{arith}
use lib.Dec.{ltb}
use borrow.Author.Tests.{lt-ltb, le-ltb}
use lib.ListN.{length, length-set}
use Rattle.model.specs.Sizes.{max_stamp, max_pinned}
use Rattle.model.specs.Words.{any}
use Rattle.model.specs.State.{Ranges, Range, Pins, Pin, at}
use Rattle.model.specs.Sound.{RangesLent, PinsLent}
use Rattle.model.specs.Store.{lay, ranges, lay_ranges, pins, lay_pins, plus}
use Rattle.model.specs.Insert.{across, heads, tails, ranges_across, cut_marks, cut_pins, pin_across, pins_across}
use Rattle.pool_range.specs.Part.{Sized}
use Rattle.pool_part.specs.Parts.{mid, back, mid_ranges, back_ranges, mid_pins, back_pins}
use Rattle.pool_part.proofs.Parts.{ranges-part, ranges-back, ranges-sized, mid-long, pins-part, pins-back, marks-back}
use Rattle.theory_lay.proofs.Rows.{ranges_length, pins_length}
use Rattle.rule_cut_pins.specs.Entries.{PinsSized, counts, pins_across_in, cut_entries}
use Rattle.rule_cut.specs.Cutting.{across_in, cut_ranges}
use Rattle.call_cut.specs.Needs.{across_of, ids_below}

-- what the callee asks of the part
pub asked : (s w n j k next : ℕ) (c : Ranges) → w ≡ 128 → s < 8 → n + ranges_across j k (ranges c (128 * s) n) ≤ 128 → next ≤ max_stamp → RangesLent c
    → (n + across_in j k n (mid_ranges (128 * s) w c) ≤ 128) × (next ≤ max_stamp) × Sized 128 (mid_ranges (128 * s) w c)
asked s w n j k next c e h room top l =
    rw (e, ranges-part c (128 * s) 128 n (omega arith)) (room, top, ranges-sized (128 * s) c l (omega arith))

-- what it gives back, on the pool
pub given_back : (s w n j k m next : ℕ) (c q : Ranges) → w ≡ 128 → n + ranges_across j k (ranges c (128 * s) n) ≤ 128
    → q ≡ cut_ranges j k m next n (mid_ranges (128 * s) w c)
    → back_ranges (128 * s) w q c
    ≡ lay_ranges (128 * s) (n + ranges_across j k (ranges c (128 * s) n)) (heads j k (ranges c (128 * s) n) ++ tails j k m next (ranges c (128 * s) n)) c
given_back s w n j k m next c q e room h =
    rw (h, e, ranges-part c (128 * s) 128 n (omega arith))
    (ranges-back (128 * s) 128 _ _ c room)

pub counted : (s w n j k : ℕ) (c : Ranges) (r base : ℕ) → w ≡ 128 → n + ranges_across j k (ranges c (128 * s) n) ≤ 128 → r ≡ base + across_in j k n (mid_ranges (128 * s) w c)
    → r ≡ base + ranges_across j k (ranges c (128 * s) n)
counted s w n j k c r base e h g = rw (e, ranges-part c (128 * s) 128 n (omega arith)) at g

-- ---- the number across, and marks

across-same : (s w n j k : ℕ) (c : Ranges) → w ≡ 128 → n ≤ 128 → across_in j k n (mid_ranges (128 * s) w c) ≡ ranges_across j k (ranges c (128 * s) n)
across-same s w n j k c e h = rw (e, ranges-part c (128 * s) 128 n h)

-- a callee that was lent the part of each column counts in the pool
pub across-part : (s w n j k r : ℕ) (c : Ranges) (node start end : List ℕ) → w ≡ 128 → n ≤ 128
    → ((q : Ranges) → q.node ≡ mid (128 * s) w node → q.start ≡ mid (128 * s) w start → q.end ≡ mid (128 * s) w end → r ≡ across_in j k n q)
    → c.node ≡ node → c.start ≡ start → c.end ≡ end → r ≡ ranges_across j k (ranges c (128 * s) n)
unfolding mid_ranges
across-part s w n j k r c node start end e h f a b d =
    f (mid_ranges (128 * s) w c) (ap (mid (128 * s) w) a) (ap (mid (128 * s) w) b) (ap (mid (128 * s) w) d) ∙ across-same s w n j k c e h

cut-marks-long : (j k m : ℕ) (rs : List Range) (ms : List ℕ) → length (cut_marks j k m rs ms) ≡ length ms
unfolding cut_marks
cut-marks-long j k m rs ms = simp length-set

pub marks-part : (s w v n j k m : ℕ) (c : Ranges) (node marks last : List ℕ) → w ≡ 128 → v ≡ 256 → s < 8 → n ≤ 128 → 2048 ≤ length marks
    → ((q : Ranges) → q.node ≡ mid (128 * s) w node → last ≡ cut_marks j k m (ranges q 0 n) (mid (256 * s) v marks))
    → c.node ≡ node → back (256 * s) v last marks ≡ lay 0 (256 * s) 256 (cut_marks j k m (ranges c (128 * s) n) (mid (256 * s) 256 marks)) marks
unfolding mid_ranges
marks-part s w v n j k m c node marks last e g l h big f a =
    let is : last ≡ cut_marks j k m (ranges c (128 * s) n) (mid (256 * s) 256 marks) =
    f (mid_ranges (128 * s) w c) (ap (mid (128 * s) w) a)
    ∙ ap (λ t. cut_marks j k m t (mid (256 * s) v marks)) (part_same s w n c e h)
    ∙ ap (λ t. cut_marks j k m (ranges c (128 * s) n) (mid (256 * s) t marks)) g in
    ap (λ t. back (256 * s) t last marks) g
    ∙ marks-back l marks big (ap length is ∙ cut-marks-long j k m (ranges c (128 * s) n) (mid (256 * s) 256 marks)) is
  where
    part_same : (s w n : ℕ) (c : Ranges) → w ≡ 128 → n ≤ 128 → ranges (mid_ranges (128 * s) w c) 0 n ≡ ranges c (128 * s) n
    part_same s w n c e h = rw (e, ranges-part c (128 * s) 128 n h)

plus-less : (b : Bool) (m n : ℕ) → m ≤ n → plus b m ≤ suc n
plus-less true m n h = omega arith
plus-less false m n h = omega arith

few-across : (j k : ℕ) (rs : List Range) → ranges_across j k rs ≤ length rs
unfolding ranges_across
few-across j k [] = omega arith
few-across j k (r ∷ rs) = plus-less (across j k r) (ranges_across j k rs) (length rs) (few-across j k rs)

-- no more are across than there are
pub across-few : (s n j k r : ℕ) (c : Ranges) → r ≡ ranges_across j k (ranges c (128 * s) n) → r ≤ n
across-few s n j k r c e = omega (arith, few-across j k (ranges c (128 * s) n), ranges_length c (128 * s) n)

-- ---- over the stores

any_found : (n i : ℕ) (t : ℕ → Bool) → i < n → t i ≡ true → any n t ≡ true
unfolding any
any_found zero i t h e = absurd (omega arith)
any_found (suc n) i t h e = ⊎_elim (λ (q : i ≡ n). rw (sym (ap t q) ∙ e)) (λ (q : i < n). rw (any_found n i t q e) (or_true (t n))) (let g : i ≤ n = omega arith in eq-or-lt_of_le g)
  where
    or_true : (b : Bool) → (b || true) ≡ true
    or_true true = refl
    or_true false = refl

any_suc : (i : ℕ) (t : ℕ → Bool) → any i t ≡ false → t i ≡ false → any (suc i) t ≡ false
unfolding any
any_suc i t a b = rw (b, a)

any-more : (i : ℕ) (t : ℕ → Bool) → any i t ≡ false → t i ≡ false → any (i + 1) t ≡ false
any-more i t a b = rw add-one (any_suc i t a b)

-- columns of this node, start and end
abbrev pub RangesAre : List ℕ → List ℕ → List ℕ → Ranges → Type 0
RangesAre node start end c = (c.node ≡ node) × (c.start ≡ start) × (c.end ≡ end)

abbrev pub PinsAre : List ℕ → List ℕ → List ℕ → Pins → Type 0
PinsAre node start end c = (c.node ≡ node) × (c.start ≡ start) × (c.end ≡ end)

-- the loop's invariant: of none of the stores below s the test t holds, whatever columns c are meant
pub record NoneOver {X : Type 0} (Ok : X → Type 0) (t : X → ℕ → Bool) (s : ℕ) : Type 0 where
  pub none : (c : X) → Ok c → any s (t c) ≡ false

module _ {X : Type 0} (Ok : X → Type 0) (t : X → ℕ → Bool) where
  pub over-start : NoneOver Ok t 0
  unfolding any
  over-start = record { none = λ c a. refl }

  pub over-end : (stores s : ℕ) → NoneOver Ok t s → s ≡ stores → (c : X) → Ok c → false ≡ any stores (t c)
  over-end stores s w e c a = sym (rw e at (w.none c a))

  pub over-found : (stores s : ℕ) → s < stores → ((c : X) → Ok c → t c s ≡ true) → (c : X) → Ok c → true ≡ any stores (t c)
  over-found stores s h f c a = sym (any_found stores s (t c) h (f c a))

  pub over-turn : (s : ℕ) → NoneOver Ok t s → ((c : X) → Ok c → t c s ≡ false) → NoneOver Ok t (s + 1)
  over-turn s w f = record { none = λ c a. any-more s (t c) (w.none c a) (f c a) }

-- more than the limit, with the number that a callee gave
pub is-over : (limit n r x : ℕ) → r ≡ x → limit < n + r → ltb limit (n + x) ≡ true
is-over limit n r x e h = rw (← e) (lt-ltb limit (n + r) h)

pub not_over : (limit n r x : ℕ) → r ≡ x → n + r ≤ limit → ltb limit (n + x) ≡ false
not_over limit n r x e h = rw (← e) (le-ltb limit (n + r) h)

-- the loop's invariant: the ids of the stores below s
pub record Summed (node start end : List ℕ) (j k : ℕ) (records : List ℕ) (sum s : ℕ) : Type 0 where
  pub most : sum ≤ 128 * s
  pub is : (c : Ranges) → c.node ≡ node → c.start ≡ start → c.end ≡ end → sum ≡ ids_below j k c records s

module _ (node start end : List ℕ) (j k : ℕ) (records : List ℕ) where
  pub sum-start : Summed node start end j k records 0 0
  unfolding ids_below
  sum-start = record { most = omega arith; is = λ c a b d. refl }

  ids_suc : (c : Ranges) (s : ℕ) → ids_below j k c records (s + 1) ≡ ids_below j k c records s + across_of j k c records s
  unfolding ids_below
  ids_suc c s = rw add-one

  pub sum-turn : (sum s r : ℕ) → Summed node start end j k records sum s → at records s ≤ 128 → r ≤ at records s
      → ((c : Ranges) → c.node ≡ node → c.start ≡ start → c.end ≡ end → r ≡ ranges_across j k (ranges c (128 * s) (at records s)))
      → Summed node start end j k records (sum + r) (s + 1)
  sum-turn sum s r w few less is =
      record {
        most = omega (arith, w.most);
        is = λ c a b d. ap₂ (λ x y. x + y) (w.is c a b d) (is c a b d) ∙ sym (ids_suc c s);
      }

  pub sum-end : (sum s stores : ℕ) → Summed node start end j k records sum s → s ≡ stores
      → (sum ≤ 128 * stores) × ((c : Ranges) → c.node ≡ node → c.start ≡ start → c.end ≡ end → sum ≡ ids_below j k c records stores)
  sum-end sum s stores w e = (omega (arith, w.most), λ c a b d. rw e at (w.is c a b d))

-- ---- pins

pub pins-sized : (a : ℕ) (c : Pins) → PinsLent c → a + 32 ≤ 256 → PinsSized 32 (mid_pins a 32 c)
unfolding mid_pins
pins-sized a c l h =
    record {
      node = mid-long a 32 c.node (omega (arith, l.node));
      start = mid-long a 32 c.start (omega (arith, l.start));
      end = mid-long a 32 c.end (omega (arith, l.end));
      count = mid-long a 32 c.count (omega (arith, l.count));
    }

pin-part-same : (s w n : ℕ) (c : Pins) → w ≡ 32 → n ≤ 32 → pins (mid_pins (32 * s) w c) 0 n ≡ pins c (32 * s) n
pin-part-same s w n c e h = rw (e, pins-part c (32 * s) 32 n h)

pins-laid : (s w n j k m : ℕ) (c q : Pins) → w ≡ 32 → n + pins_across j k (pins c (32 * s) n) ≤ 32 → q ≡ cut_entries j k m n (mid_pins (32 * s) w c)
    → back_pins (32 * s) w q c ≡ lay_pins (32 * s) (n + pins_across j k (pins c (32 * s) n)) (cut_pins j k m (pins c (32 * s) n)) c
pins-laid s w n j k m c q e room h =
    rw (h, e, pins-part c (32 * s) 32 n (omega arith))
    (pins-back (32 * s) 32 _ _ c room)

-- what the callee asks of the part, and what it gives back on the pool
pub pins-asked : (s w n j k : ℕ) (c : Pins) → w ≡ 32 → s < 8 → n + pins_across j k (pins c (32 * s) n) ≤ 32 → counts (pins c (32 * s) n) ≤ max_pinned → PinsLent c
    → (n + pins_across_in j k n (mid_pins (32 * s) w c) ≤ 32) × (counts (pins (mid_pins (32 * s) w c) 0 n) ≤ max_pinned) × PinsSized 32 (mid_pins (32 * s) w c)
pins-asked s w n j k c e h room top l =
    rw (e, pins-part c (32 * s) 32 n (omega arith)) (room, top, pins-sized (32 * s) c l (omega arith))

pub pins-given : (s w n j k m r : ℕ) (c q : Pins) → w ≡ 32 → n + pins_across j k (pins c (32 * s) n) ≤ 32
    → (q ≡ cut_entries j k m n (mid_pins (32 * s) w c)) × (r ≡ length (cut_pins j k m (pins (mid_pins (32 * s) w c) 0 n)))
    → (back_pins (32 * s) w q c ≡ lay_pins (32 * s) (n + pins_across j k (pins c (32 * s) n)) (cut_pins j k m (pins c (32 * s) n)) c)
    × (r ≡ length (cut_pins j k m (pins c (32 * s) n)))
pins-given s w n j k m r c q e room h =
    let part : pins (mid_pins (32 * s) w c) 0 n ≡ pins c (32 * s) n = pin-part-same s w n c e (omega arith) in (
      pins-laid s w n j k m c q e room h.0,
      h.1 ∙ ap (λ t. length (cut_pins j k m t)) part,
    )

few-pins : (j k : ℕ) (ps : List Pin) → pins_across j k ps ≤ length ps
unfolding pins_across
few-pins j k [] = omega arith
few-pins j k (p ∷ ps) = plus-less (pin_across j k p) (pins_across j k ps) (length ps) (few-pins j k ps)

pub pins-few : (s n j k r : ℕ) (c : Pins) → r ≡ pins_across j k (pins c (32 * s) n) → r ≤ n
pins-few s n j k r c e = omega (arith, few-pins j k (pins c (32 * s) n), pins_length c (32 * s) n)

pub pins-across-part : (s w n j k r : ℕ) (c : Pins) (node start end : List ℕ) → w ≡ 32 → n ≤ 32
    → ((q : Pins) → q.node ≡ mid (32 * s) w node → q.start ≡ mid (32 * s) w start → q.end ≡ mid (32 * s) w end → r ≡ pins_across_in j k n q)
    → c.node ≡ node → c.start ≡ start → c.end ≡ end → r ≡ pins_across j k (pins c (32 * s) n)
unfolding mid_pins
pins-across-part s w n j k r c node start end e h f a b d =
    f (mid_pins (32 * s) w c) (ap (mid (32 * s) w) a) (ap (mid (32 * s) w) b) (ap (mid (32 * s) w) d)
    ∙ ap (λ t. pins_across j k t) (pin-part-same s w n c e h)
