-- A removal on a sound state: each test gives the refusal's number, the store's part is ready where none holds, and what the removal leaves of the pools and
-- the small numbers is the state that the definition has. Assumes nothing.
use Prim.Native.Nat.{ℕ, zero, suc, ◌+◌, ◌-◌, ◌*◌, ◌≤◌, ◌<◌, zero-le}
use mathlib.Core.Bool.{Bool, true, false, not}
use mathlib.Core.Logic.{inl, inr}
use mathlib.Core.Path.{◌≡◌, refl, sym, ap, subst, ◌∙◌}
use mathlib.Core.List.{List, [], ◌∷◌}
use native.Mathlib.Omega.{arith}
use lib.ListN.{length}
use lib.Dec.{ltb}
use borrow.Author.Tests.{ltb-true, ltb-false}
use mir.Val.{Fits}
use mir.Syntax.{w64}
use Rattle.model.specs.declared.Span.{Span}
use Rattle.model.specs.declared.Book.{Book}
use Rattle.model.specs.declared.RemoveAnswer.{RemoveAnswer}
use Rattle.model.specs.Sizes.{max_stores, max_numbers, max_stamp, out_places, store_records}
use Rattle.model.specs.Words.{pick}
use Rattle.model.specs.State.{Tree, Ranges, Pins, State, at, nodes_in, used_in, next_id_in, stalls_in, book_in, stores_of, next_id_of, stalls_of, book_of, records_of, held_of, version_of}
use Rattle.model.specs.Sound.{Sound, EndsWithin, RangesLent}
use Rattle.model.specs.Store.{Store, ranges, store_of, lay_book, lay_next, ranged, with_ranges, with_next}
use Rattle.model.specs.Remove.{version_past, Removed, remove}
use Rattle.model.specs.Refusals.{First, first_of, SpanIn, span_in, no_store, bad_span, few_records, late_id, store_remove_refusals}
use Rattle.model.specs.Calls.{refused, done, store_remove}
use Rattle.theory_refuse.proofs.Says.{says_true, says_false}
use Rattle.test_arguments.specs.Need.{need_number}
use Rattle.theory_refuse.proofs.Refusals.{first-is, store_remove_exact}
use Rattle.theory_refuse.proofs.Refused.{store_remove-kept}
use Rattle.theory_refuse.proofs.Unless.{unless-none, unless-some}
use Rattle.theory_sound.specs.StoreSound.{RangesSound, StoreSound}
use Rattle.theory_bring.proofs.Facts.{Steady}
use Rattle.theory_touch.proofs.Remove.{remove-steady, remove-stamp, remove-version, remove-blocks, remove-sound}
use Rattle.theory_lay.proofs.Store.{records_length}
use Rattle.theory_calls.proofs.Accepted.{NoneHolds, span_in_lem, none_where}
use Rattle.theory_calls.proofs.Stores.{store-sound, removed_by}
use Rattle.shape_state.specs.Lent.{state_of}
use Rattle.pool_part.specs.Parts.{mid, back, mid_ranges, back_ranges}
use Rattle.pool_part.proofs.Parts.{marks-back, mid-long, ranges-part, ranges-back, ranges-sized}
use Rattle.pool_range.specs.Part.{Sized}
use Rattle.rule_overlap.specs.Overlap.{Ordered, RemoveNeeds, RemoveFits}
use Rattle.rule_overlap.proofs.Places.{sound_ordered}
use Rattle.rule_remove.specs.declared.Removing.{Removing}
use Rattle.rule_remove.specs.Remove.{Freed}
use Rattle.shape_answer.specs.Answers.{outcome}
use Rattle.call_remove.specs.Pool.{Seen, Placed, NeedsAt, FitsAt, PoolReady, FreedAt}

-- ---- the part of store s, w places long

module _ (s n : ℕ) (node start end : List ℕ) (w : ℕ) (e : w ≡ 128) where
  pub ordered_part : Placed s n node start end → Ordered (mid (128 * s) w node) (mid (128 * s) w start) (mid (128 * s) w end) n
  ordered_part p = rw e p.order

  pub needs-part : (sp : Span) (r : ℕ) → RemoveNeeds (mid (128 * s) w node) (mid (128 * s) w start) (mid (128 * s) w end) n sp r
      → NeedsAt s n node start end sp r
  needs-part sp r h = rw e at h

-- ---- what a sound state gives

module _ (st : State) (s : ℕ) (h : Sound st) (less : s < stores_of st) where
  own : StoreSound st.tree (next_id_of st) (store_of st s)
  own = store-sound st s h less

  in_stores : s < max_stores
  in_stores = omega (arith, h.counts.stores)

  pub asked : (s < max_stores) × (max_numbers ≤ length st.books)
  asked = (in_stores, h.lent.books)

  few : records_of st s ≤ 128
  few = (h.counts.each s (omega arith) less).records

  -- the store's ranges stand at the front of its part
  read : ranges (mid_ranges (128 * s) 128 st.ranges) 0 (records_of st s) ≡ (store_of st s).ranges
  unfolding store_of
  read = ranges-part st.ranges (128 * s) 128 (records_of st s) few

  placed : Placed s (records_of st s) st.ranges.node st.ranges.start st.ranges.end
  unfolding mid_ranges
  placed =
      record {
        store = in_stores;
        nodes = h.lent.ranges.node;
        starts = h.lent.ranges.start;
        ends = h.lent.ranges.end;
        order =
            sound_ordered st.tree (next_id_of st) (store_of st s).book.stamp (records_of st s) (mid_ranges (128 * s) 128 st.ranges)
            (ranges-sized (128 * s) st.ranges h.lent.ranges (omega (arith, in_stores))) few
            (subst (λ rs. RangesSound st.tree (next_id_of st) (store_of st s).book.stamp rs) (sym read) own.ranges);
      }

  needed : (sp : Span) (r : ℕ) → NeedsAt s (records_of st s) st.ranges.node st.ranges.start st.ranges.end sp r
      → r ≡ (removed_by st s sp).need
  unfolding mid_ranges
  needed sp r f =
      f (mid (128 * s) 128 st.ranges.id) (mid (128 * s) 128 st.ranges.stamp) (mid (128 * s) 128 st.ranges.write)
      (mid (128 * s) 128 st.ranges.touched) (store_of st s) (next_id_of st) (sym read)

  -- a node ends at 1,024 or before
  low : (sp : Span) → SpanIn st.tree sp → sp.end ≤ 1024
  unfolding EndsWithin
  low sp inside = go sp.node refl
    where
      go : (k : ℕ) → sp.node ≡ k → sp.end ≤ 1024
      go zero e = absurd (omega (arith, inside.filled, inside.ends, h.root.len, ap (λ (i : ℕ). at st.tree.len i) e))
      go (suc k) e = omega (arith, inside.ends, h.ends sp.node (omega arith) inside.node)

-- ---- the refusals

pub none-zero : {P : Type 0} {n : ℕ} → 0 < n → n ≡ 0 → P
none-zero l e = absurd (omega arith)

module _ (st : State) (l : List ℕ) (s : ℕ) (sp : Span) (h : Sound st) (long : out_places ≤ length l) where
  number : (n : ℕ) → First (no_store st s ∷ bad_span st sp ∷ few_records st s (removed_by st s sp).need ∷ late_id st (removed_by st s sp).need ∷ []) n
      → n ≡ first_of (store_remove_refusals st l s sp)
  number n f =
      sym (first-is (store_remove_refusals st l s sp) (store_remove_exact st l s sp) n (inr (λ g. g h, inr (λ (k : length l < out_places). omega arith, f))))

  pub refused-store : stores_of st ≤ s → 2 ≡ first_of (store_remove_refusals st l s sp)
  refused-store k = number 2 (inl (k, refl))

pub seen : (st : State) (s : ℕ) → Sound st → s < stores_of st → (b : Book) → b ≡ book_of st s
    → Seen st.tree.len st.ranges st.tree.nodes (next_id_of st) s b.records st
seen st s h less b is =
    record {
      sound = h;
      lens = refl;
      count = refl;
      ranges = refl;
      next_id = refl;
      store = less;
      records = sym (ap (λ (k : Book). k.records) is);
    }

module _ {len : List ℕ} {c : Ranges} {k i s n : ℕ} {st : State} (v : Seen len c k i s n st) where
  pub nodes_fit : k ≤ length len
  nodes_fit = omega (arith, v.sound.counts.nodes, v.sound.lent.tree.len, v.count, ap (λ (q : List ℕ). length q) v.lens)

  pub placed_in : Placed s n c.node c.start c.end × RangesLent c
  placed_in = (rw (v.records, v.ranges) at (placed st s v.sound v.store), rw v.ranges at v.sound.lent.ranges)

  pub need-asked : (n ≤ store_records) × (0 ≤ max_stamp) × (i ≤ max_stamp)
  need-asked = (omega (arith, few st s v.sound v.store, v.records), zero-le, omega (arith, v.sound.counts.next_id, v.next_id))

  module _ (sp : Span) where
    needs_in : (r : ℕ) → NeedsAt s n c.node c.start c.end sp r → NeedsAt s (records_of st s) st.ranges.node st.ranges.start st.ranges.end sp r
    needs_in r f = rw (v.records, v.ranges) f

    -- the need is the definition's
    need-is : (r : ℕ) → NeedsAt s n c.node c.start c.end sp r → r ≡ (removed_by st s sp).need
    need-is r f = needed st s v.sound v.store sp r (needs_in r f)

    -- what the test of 4 tells
    module _ {b : Bool} (f : (t : Tree) → t.len ≡ len → t.nodes ≡ k → b ≡ span_in t sp) where
      span-bad : not b ≡ true → SpanIn st.tree sp → ⊥
      span-bad e = says_true (ap not (sym (f st.tree v.lens v.count)) ∙ e) (store_remove_exact st [] s sp).1.1.1.0

      pub span_good : not b ≡ false → SpanIn st.tree sp
      span_good e = span_in_lem st.tree sp (says_false (ap not (sym (f st.tree v.lens v.count)) ∙ e) (store_remove_exact st [] s sp).1.1.1.0)

    module _ (l : List ℕ) (long : out_places ≤ length l) where
      used : stores_of st ≤ s → ⊥
      used e = omega (arith, v.store)

      pub refused-span : {b : Bool} → ((t : Tree) → t.len ≡ len → t.nodes ≡ k → b ≡ span_in t sp) → not b ≡ true
          → 4 ≡ first_of (store_remove_refusals st l s sp)
      refused-span f e = number st l s sp v.sound long 4 (inr (used, inl (span-bad f e, refl)))

      module _ (inside : SpanIn st.tree sp) (r : ℕ) (needs : NeedsAt s n c.node c.start c.end sp r) where
        inside_in : (SpanIn st.tree sp → ⊥) → ⊥
        inside_in g = g inside

        room : ltb store_records (n + r) ≡ false → store_records < records_of st s + (removed_by st s sp).need → ⊥
        room p e = omega (arith, ltb-false store_records (n + r) p, need-is r needs, v.records)

        -- what the test of 8 and 11 tells: a removal gives no stamp
        pub need-refused : {q : ℕ} → q ≡ need_number n r 0 0 i → q ≡ first_of (store_remove_refusals st l s sp)
        need-refused e = e ∙ go (ltb store_records (n + r)) (ltb max_stamp (i + r)) refl refl
          where
            go : (a b : Bool) → ltb store_records (n + r) ≡ a → ltb max_stamp (i + r) ≡ b → pick a 8 (pick b 11 0) ≡ first_of (store_remove_refusals st l s sp)
            go true b p q =
                number st l s sp v.sound long 8
                (inr (used, inr (inside_in, inl (omega (arith, ltb-true store_records (n + r) p, need-is r needs, v.records), refl))))
            go false true p q =
                number st l s sp v.sound long 11
                (inr (used, inr (inside_in, inr (room p, inl (omega (arith, ltb-true max_stamp (i + r) q, need-is r needs, v.next_id), refl)))))
            go false false p q =
                number st l s sp v.sound long 0
                (inr (
                  used,
                  inr (
                    inside_in,
                    inr (
                      room p,
                      inr (
                        λ (e : max_stamp < next_id_of st + (removed_by st s sp).need). omega (arith, ltb-false max_stamp (i + r) q, need-is r needs, v.next_id),
                        refl,
                      ),
                    ),
                  ),
                ))

-- ---- the parts of store s

module _ {s n : ℕ} {sp : Span} {c : Ranges} {ms ls : List ℕ} (p : PoolReady s n sp c ms ls) where
  pub pool_sized : (a : ℕ) → a ≡ 128 → (n ≤ 128) × Sized 128 (mid_ranges (128 * s) a c) × Ordered (mid (128 * s) a c.node) (mid (128 * s) a c.start) (mid (128 * s) a c.end) n
  pool_sized a e = rw e (p.few, ranges-sized (128 * s) c p.lent (omega (arith, p.placed.store)), p.placed.order)

  pub pool_span : (b : ℕ) → b ≡ 256 → (sp.start < sp.end) × (sp.end ≤ 1024) × (sp.node < length (mid (256 * s) b ms)) × (128 ≤ length ls)
  pool_span b e = rw e (p.filled, p.ends, omega (arith, mid-long (256 * s) 256 ms (omega (arith, p.marks, p.placed.store)), p.node), p.list)

  pub pool_fits : (a : ℕ) → a ≡ 128 → RemoveFits (mid (128 * s) a c.node) (mid (128 * s) a c.start) (mid (128 * s) a c.end) n sp
  pool_fits a e = rw e p.fits

  module _ (next : ℕ) (x : Store) where
    -- what is laid in the part has room there
    room_at : x.ranges ≡ ranges (mid_ranges (128 * s) 128 c) 0 n → n + (remove x next sp).need ≤ 128
    unfolding mid_ranges
    room_at e =
        let f : p.fits.need ≡ (remove x next sp).need = p.fits.are (mid (128 * s) 128 c.id) (mid (128 * s) 128 c.stamp) (mid (128 * s) 128 c.write) (mid (128 * s) 128 c.touched) x next e in
        omega (arith, p.fits.records)

    freed_at : {q : Ranges} {ms₂ ls₂ : List ℕ} {r : Removing} (w : Removed) → n + w.need ≤ 128 → length ms₂ ≡ length (mid (256 * s) 256 ms) → x.ranges ≡ ranges (mid_ranges (128 * s) 128 c) 0 n
        → Freed w (mid_ranges (128 * s) 128 c) q ms₂ ls ls₂ n r → FreedAt s n w c ms ls (back_ranges (128 * s) 128 q c) (back (256 * s) 256 ms₂ ms) ls₂ r
    freed_at w room long e u =
        record {
          cols = ap (λ (y : Ranges). back_ranges (128 * s) 128 y c) u.columns ∙ ranges-back (128 * s) 128 (n + w.need) w.store.ranges c room;
          marks = marks-back p.placed.store ms p.marks long u.marks;
          list = u.list;
          records = u.records;
          need = u.need;
          writes = u.writes;
          blocks = u.blocks;
        }

    pub pool_freed : {q : Ranges} {ms₂ ls₂ : List ℕ} {r : Removing} (a b : ℕ) → a ≡ 128 → b ≡ 256 → length ms₂ ≡ length (mid (256 * s) b ms)
        → ((y : Store) → y.ranges ≡ ranges (mid_ranges (128 * s) a c) 0 n → y.marks ≡ mid (256 * s) b ms → Freed (remove y next sp) (mid_ranges (128 * s) a c) q ms₂ ls ls₂ n r)
        → x.ranges ≡ ranges c (128 * s) n → x.marks ≡ mid (256 * s) 256 ms
        → FreedAt s n (remove x next sp) c ms ls (back_ranges (128 * s) a q c) (back (256 * s) b ms₂ ms) ls₂ r
    pool_freed {q} {ms₂} {ls₂} {r} a b ea eb kept f e d =
        let long : length ms₂ ≡ length (mid (256 * s) 256 ms) = rw eb at kept in
        let g : x.ranges ≡ ranges (mid_ranges (128 * s) 128 c) 0 n = e ∙ sym (ranges-part c (128 * s) 128 n p.few) in
        let u : Freed (remove x next sp) (mid_ranges (128 * s) 128 c) q ms₂ ls ls₂ n r = subst (λ (y : ℕ). Freed (remove x next sp) (mid_ranges (128 * s) y c) q ms₂ ls ls₂ n r) ea
        (f x (subst (λ (y : ℕ). x.ranges ≡ ranges (mid_ranges (128 * s) y c) 0 n) (sym ea) g) (subst (λ (y : ℕ). x.marks ≡ mid (256 * s) y ms) (sym eb) d)) in
        rw (ea, eb) (freed_at (remove x next sp) (room_at g) long g u)

-- ---- the small numbers

-- the numbers of a store of which a removal leaves y, by what it answers
book-left : {x y : Store} {n k v : ℕ} → Steady x y → y.book.stamp ≡ x.book.stamp → n ≡ y.book.records → k ≡ y.book.held → v ≡ y.book.version
    → ranged x.book n k x.book.stamp v ≡ y.book
book-left {x} f stamp records held version =
    (λ j. ranged x.book (records j) (held j) (sym stamp j) (version j)) ∙ sym f.book

-- ---- the call

-- the answer of n listed writes and k blocks that went
abbrev answer : ℕ → ℕ → RemoveAnswer
answer n k = record { writes = n; blocks = k }

module _ (st : State) (l : List ℕ) (s : ℕ) (sp : Span) where
  pub call-refused : (n : ℕ) → n ≡ first_of (store_remove_refusals st l s sp) → (n ≡ 0 → ⊥) → outcome st l (refused n) ≡ store_remove st l s sp
  unfolding store_remove
  call-refused n e d = sym (unless-some st l _ (first_of (store_remove_refusals st l s sp)) n (sym e) d)

  module _ (h : Sound st) (long : out_places ≤ length l) (n : ℕ) (number : n ≡ first_of (store_remove_refusals st l s sp)) (zero : n ≡ 0) where
    none : first_of (store_remove_refusals st l s sp) ≡ 0
    none = sym number ∙ zero

    none-holds : NoneHolds (store_remove_refusals st l s sp)
    unfolding store_remove
    none-holds = none_where _ _ _ (store_remove-kept st l s sp) none

    less : s < stores_of st
    less = let f = none-holds.1.1.0 in omega arith

    inside : SpanIn st.tree sp
    inside = span_in_lem st.tree sp none-holds.1.1.1.0

    ready : FitsAt s (records_of st s) st.ranges.node st.ranges.start st.ranges.end sp → PoolReady s (records_of st s) sp st.ranges st.marks l
    ready f =
        record {
          few = few st s h less;
          lent = h.lent.ranges;
          marks = h.lent.marks;
          list = long;
          placed = placed st s h less;
          filled = inside.filled;
          ends = low st s h less sp inside;
          node = omega (arith, inside.node, h.counts.nodes);
          fits = f;
        }

    blocks-gone : (removed_by st s sp).store.book.held + (removed_by st s sp).blocks ≡ held_of st s
    unfolding store_of
    blocks-gone = remove-blocks (store_of st s) (next_id_of st) sp (own st s h less) inside h.counts.first_id

    module _ (b : Book) (is : b ≡ book_of st s) where
      pub pool_in : FitsAt s b.records st.ranges.node st.ranges.start st.ranges.end sp → PoolReady s b.records sp st.ranges st.marks l
      pool_in f = rw is (ready (rw is at f))

      module _ {c : Ranges} {ms ls : List ℕ} {r : Removing} where
        -- what the removal says of any such store, it says of store s
        pub freed_in :
            ((x : Store) → x.ranges ≡ ranges st.ranges (128 * s) b.records → x.marks ≡ mid (256 * s) 256 st.marks → FreedAt s b.records (remove x (next_id_of st) sp) st.ranges st.marks l c ms ls r)
            → FreedAt s (records_of st s) (removed_by st s sp) st.ranges st.marks l c ms ls r
        unfolding store_of
        freed_in f =
            subst (λ (k : Book). FreedAt s k.records (removed_by st s sp) st.ranges st.marks l c ms ls r) is
            (f (store_of st s) (ap (λ (k : Book). ranges st.ranges (128 * s) k.records) (sym is)) refl)

        module _ (u : FreedAt s (records_of st s) (removed_by st s sp) st.ranges st.marks l c ms ls r) where
          pub held-most : r.removed ≤ b.held
          held-most = omega (arith, u.blocks, blocks-gone, ap (λ (k : Book). k.held) is)

          pub next_fits : Fits w64 (next_id_of st + r.need)
          next_fits = let f = none-holds.1.1.1.1.1.0 in omega (arith, u.need)

          left : StoreSound st.tree (next_id_of st + (removed_by st s sp).need) (removed_by st s sp).store
          left =
              let f = none-holds.1.1.1.1.0 in
              remove-sound (store_of st s) (next_id_of st) sp (own st s h less) inside h.counts.first_id (omega (arith, records_length st s))

          held-left : held_of st s - r.removed ≡ (removed_by st s sp).store.book.held
          held-left = omega (arith, u.blocks, blocks-gone)

          version-left : version_past r.removed (version_of st s) ≡ (removed_by st s sp).store.book.version
          unfolding store_of
          version-left =
              ap (λ (k : ℕ). version_past k (version_of st s)) u.blocks ∙ sym (remove-version (store_of st s) (next_id_of st) sp)

          numbers-left : (v : ℕ) → v ≡ version_past r.removed b.version
              → ranged b r.n (b.held - r.removed) b.stamp v ≡ (removed_by st s sp).store.book
          unfolding store_of
          numbers-left v e =
              ap (λ (k : Book). ranged k r.n (k.held - r.removed) k.stamp v) is
              ∙ book-left {x = store_of st s} (remove-steady (store_of st s) (next_id_of st) sp) (remove-stamp (store_of st s) (next_id_of st) sp)
              (u.records ∙ sym left.records) held-left (e ∙ ap (λ (k : Book). version_past r.removed k.version) is ∙ version-left)

          call-laid : (v : ℕ) → v ≡ version_past r.removed b.version
              → outcome (state_of st.tree c st.pins ms st.bytes (lay_next (next_id_of st + r.need) (stalls_of st) (lay_book s (ranged b r.n (b.held - r.removed) b.stamp v) st.books))) ls (done (answer r.writes r.removed)) ≡ store_remove st l s sp
          unfolding store_remove with_next with_ranges
          call-laid v e =
              let new = numbers-left v e in
              (λ j. outcome (state_of st.tree (u.cols j) st.pins (u.marks j) st.bytes (lay_next (next_id_of st + u.need j) (stalls_of st) (lay_book s (new j) st.books))) (u.list j) (done (answer (u.writes j) (u.blocks j))))
              ∙ sym (unless-none st l _ (first_of (store_remove_refusals st l s sp)) none)

-- The same of the columns: rs, ps, ms and table are the pools at entry, ns the small numbers, T the tree with so many nodes and hash words
module _ (T : ℕ → ℕ → Tree) (rs : Ranges) (ps : Pins) (ms table ns : List ℕ) (l : List ℕ) (s : ℕ) (sp : Span) where
  abbrev here : State
  here = state_of (T (nodes_in ns) (used_in ns)) rs ps ms table ns

  module _ (h : Sound here) (long : out_places ≤ length l) (n : ℕ) (number : n ≡ first_of (store_remove_refusals here l s sp)) (zero : n ≡ 0) (b : Book) (is : b ≡ book_in ns s) where
    pub call-done : {c : Ranges} {ks ls : List ℕ} {r : Removing}
        → FreedAt s (book_in ns s).records (removed_by here s sp) rs ms l c ks ls r
        → (v : ℕ) → v ≡ version_past r.removed b.version
        → (mid-way new : List ℕ) → mid-way ≡ lay_book s (ranged b r.n (b.held - r.removed) b.stamp v) ns
        → new ≡ lay_next (next_id_in ns + r.need) (stalls_in ns) mid-way
        → outcome (state_of (T (nodes_in new) (used_in new)) c ps ks table new) ls (done (answer r.writes r.removed)) ≡ store_remove here l s sp
    unfolding lay_book lay_next
    call-done {c} {ks} {ls} {r} u v e mid-way new d f =
        let g = f ∙ ap (lay_next (next_id_in ns + r.need) (stalls_in ns)) d in
        (λ j. outcome (state_of (T (nodes_in (g j)) (used_in (g j))) c ps ks table (g j)) ls (done (answer r.writes r.removed)))
        ∙ call-laid here l s sp h long n number zero b is u v e
