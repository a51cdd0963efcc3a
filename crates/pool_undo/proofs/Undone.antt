-- A part put back over what was laid there is the part put back over what was there before; so a store's part, its own numbers and the given-out lists, put
-- back after a call, are what they were. Assumes nothing.
use Prim.Native.Nat.{ℕ, ◌+◌, ◌-◌, ◌*◌, ◌≤◌, ◌<◌}
use mathlib.Core.Path.{◌≡◌, refl, sym, ap, ◌∙◌}
use mathlib.Core.List.{List, ◌++◌, map}
use native.Mathlib.Nat.{le_refl}
use native.Mathlib.Omega.{arith}
use lib.ListN.{length, take, drop, replicate, length-take, length-drop, length-replicate, length-map, take-append-drop}
use lib.Seq.{drop-drop, take_at}
use Rattle.model.specs.declared.Book.{Book}
use Rattle.model.specs.Sizes.{max_stores, max_numbers, store_numbers, out_places}
use Rattle.model.specs.State.{Ranges, Range, State, nodes_in, used_in, stores_in, next_id_in, stalls_in, parts_in, numbers, book_in, next_id_of, stalls_of, records_of, whole}
use Rattle.model.specs.Sound.{RangesLent, Lent}
use Rattle.model.specs.Store.{Store, lay, lay_ranges, lay_book, lay_next, with_ranges, with_next, no_time}
use Rattle.model.specs.Trim.{Out}
use Rattle.model.specs.Refusals.{OutList}
use Rattle.model.specs.Calls.{front, lay_outs}
use Rattle.theory_lay.proofs.Lay.{drop_past, lay-lay}
use Rattle.theory_lay.proofs.Books.{book-back, next-same}
use Rattle.theory_lay.proofs.Store.{RangesFit}
use Rattle.shape_answer.specs.Lists.{out_list}
use Rattle.pool_range.proofs.Records.{ranges_eq}
use Rattle.pool_part.specs.Parts.{mid, back, back_ranges}
use Rattle.pool_undo.specs.Old.{old_ranges, old_from, old_outs, outs_back, Undoes}

module _ {A : Type 0} where
  pub back-mid : (a w : ℕ) (l : List A) → back a w (mid a w l) l ≡ l
  back-mid a w l = ap (λ (t : List A). take a l ++ t) (take-append-drop w (drop a l)) ∙ take-append-drop a l

  module _ (blank : A) (a w k : ℕ) (xs q l : List A) (long : a + w ≤ length l) (few : length xs ≤ k) (room : k ≤ w) where
    head-long : length (take a l) ≡ a
    head-long = length-take a l ∙ omega arith

    laid-head : take a (lay blank a k xs l) ≡ take a l
    unfolding lay
    laid-head = take_at (take a l) _ a head-long

    laid-tail : drop w (drop a (lay blank a k xs l)) ≡ drop w (drop a l)
    unfolding lay
    laid-tail =
        let r = length-replicate (k - length xs) blank in
        let e : (a + w) - length (take a l) ≡ w = omega (arith, head-long) in
        let f : (w - length xs) - length (replicate (k - length xs) blank) ≡ w - k = omega (arith, r) in
        let g : (a + k) + (w - k) ≡ a + w = omega arith in
        drop-drop w a (lay blank a k xs l)
        ∙ drop_past (a + w) (take a l) (xs ++ (replicate (k - length xs) blank ++ drop (a + k) l)) (omega (arith, head-long))
        ∙ ap (λ (n : ℕ). drop n (xs ++ (replicate (k - length xs) blank ++ drop (a + k) l))) e
        ∙ drop_past w xs (replicate (k - length xs) blank ++ drop (a + k) l) (omega arith)
        ∙ drop_past (w - length xs) (replicate (k - length xs) blank) (drop (a + k) l) (omega (arith, r))
        ∙ ap (λ (n : ℕ). drop n (drop (a + k) l)) f
        ∙ drop-drop (w - k) (a + k) l
        ∙ ap (λ (n : ℕ). drop n l) g
        ∙ sym (drop-drop w a l)

    pub back-over : back a w q (lay blank a k xs l) ≡ back a w q l
    back-over = (λ i. laid-head i ++ (q ++ laid-tail i))

module _ (a k : ℕ) (rs : List Range) (q c : Ranges) (long : RangesLent c) (low : a + 128 ≤ 1024) (few : length rs ≤ k) (room : k ≤ 128) where
  col_few : {A : Type 0} (f : Range → A) → length (map f rs) ≤ k
  col_few f = omega (arith, length-map rs f)

  pub ranges-over : back_ranges a 128 q (lay_ranges a k rs c) ≡ back_ranges a 128 q c
  unfolding back_ranges lay_ranges
  ranges-over =
      ranges_eq
      (back-over 0 a 128 k (map (λ r. r.node) rs) q.node c.node (omega (arith, long.node)) (col_few (λ r. r.node)) room)
      (back-over 0 a 128 k (map (λ r. r.start) rs) q.start c.start (omega (arith, long.start)) (col_few (λ r. r.start)) room)
      (back-over 0 a 128 k (map (λ r. r.end) rs) q.end c.end (omega (arith, long.end)) (col_few (λ r. r.end)) room)
      (back-over 0 a 128 k (map (λ r. r.id) rs) q.id c.id (omega (arith, long.id)) (col_few (λ r. r.id)) room)
      (back-over 0 a 128 k (map (λ r. r.stamp) rs) q.stamp c.stamp (omega (arith, long.stamp)) (col_few (λ r. r.stamp)) room)
      (back-over no_time a 128 k (map (λ r. r.touched) rs) q.touched c.touched (omega (arith, long.touched)) (col_few (λ r. r.touched)) room)
      (back-over 0 a 128 k (map (λ r. r.write) rs) q.write c.write (omega (arith, long.write)) (col_few (λ r. r.write)) room)

pub ranges-mid : (s : ℕ) (c : Ranges) (ms : List ℕ) → back_ranges (128 * s) 128 (old_ranges (old_from s c ms)) c ≡ c
unfolding back_ranges
ranges-mid s c ms =
    ranges_eq (back-mid (128 * s) 128 c.node) (back-mid (128 * s) 128 c.start) (back-mid (128 * s) 128 c.end) (back-mid (128 * s) 128 c.id)
    (back-mid (128 * s) 128 c.stamp) (back-mid (128 * s) 128 c.touched) (back-mid (128 * s) 128 c.write)

-- ---- the small numbers

module _ (s : ℕ) (x : List ℕ) (less : s < max_stores) (long : max_numbers ≤ length x) where
  part_in : store_numbers * s + store_numbers ≤ length (parts_in x)
  part_in = rw length-drop (omega arith)

  -- a book and the two numbers laid over others
  pub book-over : (next stalls next₀ stalls₀ : ℕ) (b d : Book)
      → lay_next next stalls (lay_book s b (lay_next next₀ stalls₀ (lay_book s d x))) ≡ lay_next next stalls (lay_book s b x)
  unfolding lay_next lay_book
  book-over next stalls next₀ stalls₀ b d =
      ap (λ (xs : List ℕ). whole (nodes_in x) (used_in x) (stores_in x) next stalls xs)
      (lay-lay 0 (store_numbers * s) store_numbers store_numbers (numbers d) (numbers b) (parts_in x) (le_refl store_numbers) (le_refl store_numbers) part_in)

  own_back : lay_next (next_id_in x) (stalls_in x) (lay_book s (book_in x s) x) ≡ x
  own_back = ap (lay_next (next_id_in x) (stalls_in x)) (book-back s x less long) ∙ next-same x long

-- ---- a store's change

module _ (st : State) (s need : ℕ) (y : Store) (l : Lent st) (less : s < max_stores) (fit : RangesFit st s need y) where
  laid-ranges : back_ranges (128 * s) 128 (old_ranges (old_from s st.ranges st.marks))
      (lay_ranges (128 * s) (records_of st s + need) y.ranges st.ranges) ≡ st.ranges
  laid-ranges =
      ranges-over (128 * s) (records_of st s + need) y.ranges (old_ranges (old_from s st.ranges st.marks)) st.ranges l.ranges (omega (arith, less))
      fit.ranges fit.room
      ∙ ranges-mid s st.ranges st.marks

  laid-marks : back (256 * s) 256 (mid (256 * s) 256 st.marks) (lay 0 (256 * s) 256 y.marks st.marks) ≡ st.marks
  laid-marks =
      back-over 0 (256 * s) 256 256 y.marks (mid (256 * s) 256 st.marks) st.marks (omega (arith, less, l.marks)) (omega (arith, fit.marks))
      (omega arith)
      ∙ back-mid (256 * s) 256 st.marks

  pub undoes_laid : (next stalls : ℕ) → Undoes s st (with_next next stalls (with_ranges s need y st))
  unfolding with_next with_ranges
  undoes_laid next stalls =
      record {
        ranges = laid-ranges;
        marks = laid-marks;
        books = book-over s st.books less l.books (next_id_of st) (stalls_of st) next stalls (book_in st.books s) y.book ∙ own_back s st.books
            less l.books;
      }

-- nothing changed
pub undoes_same : (st : State) (s : ℕ) → Lent st → s < max_stores → Undoes s st st
undoes_same st s l less =
    record {
      ranges = ranges-mid s st.ranges st.marks;
      marks = back-mid (256 * s) 256 st.marks;
      books = own_back s st.books less l.books;
    }

-- no new id, no stall
pub next-kept : (st : State) (s need : ℕ) (y : Store) → with_next (next_id_of st) (stalls_of st) (with_ranges s need y st) ≡ with_ranges s need y st
unfolding with_next with_ranges lay_next lay_book
next-kept st s need y = refl

-- ---- an answer list

pub front-back : {A : Type 0} (xs l : List A) → length xs ≤ out_places → back 0 out_places (mid 0 out_places l) (front xs l) ≡ l
front-back xs l few =
    let f : length xs + (out_places - length xs) ≡ out_places = omega arith in
    ap (λ t. take out_places l ++ t)
    (drop_past out_places xs (drop (length xs) l) few ∙ drop-drop (out_places - length xs) (length xs) l ∙ ap (λ (k : ℕ). drop k l) f)
    ∙ take-append-drop out_places l

list-few : {A : Type 0} (os : List Out) (f : Out → A) → length os ≤ out_places → length (map f os) ≤ out_places
list-few os f few = omega (arith, length-map os f)

pub outs_back_lem : (os : List Out) (l : OutList) → length os ≤ out_places → outs_back (old_outs l) (lay_outs os l) ≡ l
outs_back_lem os l few =
    (λ i.
    out_list (front-back (map (λ o. o.node) os) l.node (list-few os (λ o. o.node) few) i)
    (front-back (map (λ o. o.start) os) l.start (list-few os (λ o. o.start) few) i)
    (front-back (map (λ o. o.end) os) l.end (list-few os (λ o. o.end) few) i)
    (front-back (map (λ o. o.write) os) l.write (list-few os (λ o. o.write) few) i)
    (front-back (map (λ o. o.bytes) os) l.bytes (list-few os (λ o. o.bytes) few) i)
    (front-back (map (λ o. o.dead) os) l.dead (list-few os (λ o. o.dead) few) i))
