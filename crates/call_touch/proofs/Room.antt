-- A turn needs two records and ids and one stamp at most: on a node only one range can have a head before the span, and only one a tail behind it. So where there is room
-- for all spans, no turn is refused. Assumes nothing.
use Prim.Native.Nat.{ℕ, suc, ◌+◌, ◌≤◌, ◌<◌}
use mathlib.Core.Path.{◌≡◌, refl, sym, ap, ◌∙◌}
use mathlib.Core.Bool.{Bool, true, false, ◌&&◌}
use mathlib.Core.List.{List, [], ◌∷◌}
use native.Mathlib.Omega.{arith}
use lib.ListN.{length, get_or}
use lib.Dec.{ltb, eqb}
use lib.Ieee.{Float}
use borrow.Author.Tests.{ltb-true, eqb-true}
use Rattle.model.specs.declared.Span.{Span}
use Rattle.model.specs.declared.Book.{Book}
use Rattle.model.specs.Sizes.{max_stamp}
use Rattle.model.specs.State.{Tree, State, Range, stores_of, next_id_of, stalls_of, book_of, records_of, stamp_of, refreshes}
use Rattle.model.specs.Sound.{Sound, Before, Finite}
use Rattle.model.specs.Store.{Store, store_of, lay_book, meets, plus, with_ranges, with_next}
use Rattle.model.specs.Touch.{Touched, overlapped, one_inside, mark_read, bytes_read, has_head, has_tail, new_pieces, renew, split, refresh, touch_hits, touch}
use Rattle.model.specs.Refusals.{first_of, SpanIn, no_span, touched_by, touch_span, turn_refusals}
use Rattle.theory_sound.specs.Facts.{All, InOrder, Sorted}
use Rattle.theory_bring.proofs.Facts.{all_map}
use Rattle.theory_touch.proofs.Bools.{and_true}
use Rattle.theory_touch.proofs.Touch.{touch_length, touch-counted, touch-stamp}
use Rattle.theory_calls.proofs.Stores.{store-sound, touch_span-sound}
use Rattle.theory_lay.proofs.Books.{book-read, next-book}
use Rattle.theory_lay.proofs.Store.{records_length}
use Rattle.test_arguments.specs.Need.{need_number}
use Rattle.test_arguments.specs.Room.{Roomy}
use Rattle.test_arguments.proofs.Need.{number_0}
use Rattle.call_touch.proofs.Laws.{next-none, turn-first, touched-tree, touched-stores}

-- ---- the new pieces of sorted ranges

module _ (v a z : ℕ) where
  -- on the node, the range starts at p or later
  abbrev From : ℕ → Range → Type 0
  From p r = r.node ≡ v → p ≤ r.start

  head-on : (r : Range) → has_head v a z r ≡ true → (r.node ≡ v) × (r.start < a) × (a < r.end)
  head-on r e =
      let h = and_true (meets v a z r) (ltb r.start a) e in
      let m = and_true (eqb r.node v) (ltb r.start z && ltb a r.end) h.0 in
      (eqb-true r.node v m.0, ltb-true r.start a h.1, ltb-true a r.end (and_true (ltb r.start z) (ltb a r.end) m.1).1)

  tail-on : (r : Range) → has_tail v a z r ≡ true → (r.node ≡ v) × (r.start < z) × (z < r.end)
  tail-on r e =
      let h = and_true (meets v a z r) (ltb z r.end) e in
      let m = and_true (eqb r.node v) (ltb r.start z && ltb a r.end) h.0 in
      (eqb-true r.node v m.0, ltb-true r.start z (and_true (ltb r.start z) (ltb a r.end) m.1).0, ltb-true z r.end h.1)

  -- behind a range of the node, those of the node start where it ends
  later : (p : ℕ) (r : Range) (rs : List Range) → r.node ≡ v → p ≤ r.end → All (Before r) rs → All (From p) rs
  later p r rs e l = all_map {Q = From p} (λ q (b : Before r q) (f : q.node ≡ v). omega (arith, b.apart (e ∙ sym f))) rs

  none-new : a < z → (rs : List Range) → All (From z) rs → new_pieces v a z rs ≡ 0
  unfolding new_pieces All
  none-new l [] h = refl
  none-new l (r ∷ rs) h = go (none-new l rs h.1) (has_tail v a z r) (has_head v a z r) refl refl
    where
      go : new_pieces v a z rs ≡ 0 → (t d : Bool) → has_tail v a z r ≡ t → has_head v a z r ≡ d → plus t (plus d (new_pieces v a z rs)) ≡ 0
      go n true d e f = let k = tail-on r e in absurd (omega (arith, h.0 k.0, k.1))
      go n false true e f = let k = head-on r f in absurd (omega (arith, h.0 k.0, k.1))
      go n false false e f = n

  one-new : a < z → (rs : List Range) → Sorted rs → All (From a) rs → new_pieces v a z rs ≤ 1
  unfolding new_pieces All InOrder
  one-new l [] o h = omega arith
  one-new l (r ∷ rs) o h = go (one-new l rs o.1 h.1) (has_tail v a z r) (has_head v a z r) refl refl
    where
      go : new_pieces v a z rs ≤ 1 → (t d : Bool) → has_tail v a z r ≡ t → has_head v a z r ≡ d → plus t (plus d (new_pieces v a z rs)) ≤ 1
      go n t true e f = let k = head-on r f in absurd (omega (arith, h.0 k.0, k.1))
      go n true false e f = let k = tail-on r e in omega (arith, none-new l rs (later z r rs k.0 (omega (arith, k.2)) o.0))
      go n false false e f = n

  two-new : a < z → (rs : List Range) → Sorted rs → new_pieces v a z rs ≤ 2
  unfolding new_pieces All InOrder
  two-new l [] o = omega arith
  two-new l (r ∷ rs) o = go (two-new l rs o.1) (has_tail v a z r) (has_head v a z r) refl refl
    where
      go : new_pieces v a z rs ≤ 2 → (t d : Bool) → has_tail v a z r ≡ t → has_head v a z r ≡ d → plus t (plus d (new_pieces v a z rs)) ≤ 2
      go n true true e f = let k = tail-on r e in omega (arith, none-new l rs (later z r rs k.0 (omega (arith, k.2)) o.0))
      go n true false e f = let k = tail-on r e in omega (arith, none-new l rs (later z r rs k.0 (omega (arith, k.2)) o.0))
      go n false true e f = let k = head-on r f in omega (arith, one-new l rs o.1 (later a r rs k.0 (omega (arith, k.2)) o.0))
      go n false false e f = n

-- ---- one turn

module _ (x : Store) (i : ℕ) (sp : Span) (time : Float) (filled : sp.start < sp.end) (o : Sorted x.ranges) where
  refresh-few : (on one : Bool) (ms : List ℕ) (read : ℕ) → ((refresh on one x i sp time ms read).need ≤ 2) × ((refresh on one x i sp time ms read).stamps ≤ 1)
  unfolding renew split
  refresh-few false one ms read = (omega arith, omega arith)
  refresh-few true true ms read = (omega arith, omega arith)
  refresh-few true false ms read = (two-new sp.node sp.start sp.end filled x.ranges o, omega arith)

  touch-few : (t : Tree) (table : List ℕ) (counted : Bool) → ((touch t table x i sp time counted).need ≤ 2) × ((touch t table x i sp time counted).stamps ≤ 1)
  unfolding touch
  touch-few t table counted = go (overlapped sp.node sp.start sp.end x.ranges)
    where
      go : (hits : List Range) → ((touch_hits hits t table x i sp time counted).need ≤ 2) × ((touch_hits hits t table x i sp time counted).stamps ≤ 1)
      go [] = (omega arith, omega arith)
      go (r ∷ rs) = refresh-few (refreshes x.book) (one_inside sp.start sp.end (r ∷ rs)) (mark_read counted sp x.marks) (bytes_read counted t table sp (r ∷ rs))

module _ (st : State) (s : ℕ) (sp : Span) (time : Float) (counted : Bool) (h : Sound st) (less : s < stores_of st) where
  abbrev w : Touched
  w = touched_by st s sp time counted

  book_then : book_of (touch_span st s sp time counted) s ≡ w.store.book
  unfolding touch_span with_ranges with_next
  book_then =
      next-book (next_id_of st + w.need) (stalls_of st) (lay_book s w.store.book st.books) s
      ∙ book-read s st.books (omega (arith, h.counts.stores)) h.lent.books w.store.book

  records_then : records_of (touch_span st s sp time counted) s ≡ length w.store.ranges
  records_then =
      ap (λ (b : Book). b.records) book_then ∙ touch-counted st.tree st.bytes (store_of st s) (next_id_of st) sp time counted

  stamp_then : stamp_of (touch_span st s sp time counted) s ≡ w.store.book.stamp
  stamp_then = ap (λ (b : Book). b.stamp) book_then

  next_then : next_id_of (touch_span st s sp time counted) ≡ next_id_of st + w.need
  unfolding touch_span with_ranges with_next
  next_then = refl

  stamp-now : (store_of st s).book.stamp ≡ stamp_of st s
  unfolding store_of
  stamp-now = refl

-- ---- all of them

pub turns_fine : (st : State) (s : ℕ) (sps : List Span) (time : Float) (counted : Bool) → Sound st → s < stores_of st
    → ((k : ℕ) → k < length sps → SpanIn st.tree (get_or sps k no_span)) → Finite time
    → Roomy (records_of st s) (stamp_of st s) (next_id_of st) (length sps)
    → first_of (turn_refusals st s sps time counted) ≡ 0
turns_fine st s [] time counted h less inside f room = refl
turns_fine st s (sp ∷ sps) time counted h less inside f room =
    turn-first st s sp sps time counted
    ∙ sym (next-none (need_number (records_of st s) (touched_by st s sp time counted).need (stamp_of st s) (touched_by st s sp time counted).stamps (next_id_of st)) _
    (sym (number_0 (records_of st s) (touched_by st s sp time counted).need (stamp_of st s) (touched_by st s sp time counted).stamps (next_id_of st) rec stp ids)))
    ∙ turns_fine (touch_span st s sp time counted) s sps time counted
    (touch_span-sound st s h less sp time counted here f rec stp ids)
    (rw (touched-stores st s sp time counted) less)
    (λ j l. rw (touched-tree st s sp time counted) (inside (suc j) (omega arith))) f then
  where
    here : SpanIn st.tree sp
    here = inside 0 (omega arith)

    few : ((touched_by st s sp time counted).need ≤ 2) × ((touched_by st s sp time counted).stamps ≤ 1)
    few =
        touch-few (store_of st s) (next_id_of st) sp time here.filled (store-sound st s h less).ranges.sorted st.tree st.bytes counted

    rec : records_of st s + (touched_by st s sp time counted).need ≤ 128
    rec = omega (arith, few.0, room.records)

    stp : stamp_of st s + (touched_by st s sp time counted).stamps ≤ max_stamp
    stp = omega (arith, few.1, room.stamps)

    ids : next_id_of st + (touched_by st s sp time counted).need ≤ max_stamp
    ids = omega (arith, few.0, room.ids)

    then : Roomy (records_of (touch_span st s sp time counted) s) (stamp_of (touch_span st s sp time counted) s) (next_id_of (touch_span st s sp time counted)) (length sps)
    then =
        let l = touch_length st.tree st.bytes (store_of st s) (next_id_of st) sp time counted (store-sound st s h less) here f h.counts.first_id in
        let m = touch-stamp st.tree st.bytes (store_of st s) (next_id_of st) sp time counted in
        record {
          records = omega (arith, few.0, room.records, l, records_length st s, records_then st s sp time counted h less);
          stamps = omega (arith, few.1, room.stamps, m, stamp_then st s sp time counted h less, stamp-now st s sp time counted h less);
          ids = omega (arith, few.0, room.ids, next_then st s sp time counted h less);
        }
