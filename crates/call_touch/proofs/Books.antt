-- The small numbers with those of a run: those that stand already, read back, and laid over others. Assumes nothing.
use Prim.Native.Nat.{ℕ, ◌≤◌, ◌<◌}
use mathlib.Core.Path.{◌≡◌, refl, sym, ap, ◌∙◌}
use mathlib.Core.Bool.{Bool}
use mathlib.Core.List.{List}
use lib.ListN.{length}
use lib.Dec.{eqb}
use Rattle.model.specs.declared.Book.{Book}
use Rattle.model.specs.Sizes.{max_stores, max_numbers}
use Rattle.model.specs.State.{next_id_in, stalls_in, book_in}
use Rattle.model.specs.Store.{lay_book, lay_next}
use Rattle.theory_lay.proofs.Books.{book-read, book-back, next-book, next-same}
use Rattle.pool_undo.proofs.Undone.{book-over}
use Rattle.call_touch_span.specs.declared.Run.{Run}
use Rattle.call_touch_span.specs.Turn.{renumbered, books_with, Stands}

next-is : (next stalls : ℕ) (l : List ℕ) → next_id_in (lay_next next stalls l) ≡ next
unfolding lay_next
next-is next stalls l = refl

module _ (s : ℕ) (x : List ℕ) (less : s < max_stores) (long : max_numbers ≤ length x) where
  abbrev own : Book
  own = book_in x s

  stalls-is : (next stalls : ℕ) (b : Book) → stalls_in (lay_next next stalls (lay_book s b x)) ≡ stalls
  unfolding lay_next
  stalls-is next stalls b = refl

  pub books-same : (refreshes : Bool) (z : Run) → Stands s refreshes x z → books_with s z x ≡ x
  books-same refreshes z e =
      let b : renumbered own z.n z.top ≡ own = (λ j. renumbered own (e.records j) (e.stamp j)) in
      (λ j. lay_next (e.next j) (stalls_in x) (lay_book s (b j) x))
      ∙ ap (lay_next (next_id_in x) (stalls_in x)) (book-back s x less long)
      ∙ next-same x long

  book-run : (z : Run) → book_in (books_with s z x) s ≡ renumbered own z.n z.top
  book-run z =
      next-book z.next (stalls_in x) (lay_book s (renumbered own z.n z.top) x) s
      ∙ book-read s x less long (renumbered own z.n z.top)

  pub books-over : (z r : Run) → books_with s r (books_with s z x) ≡ books_with s r x
  books-over z r =
      let d = renumbered own z.n z.top in
      (λ j. lay_next r.next ((stalls-is z.next (stalls_in x) d) j) (lay_book s (renumbered ((book-run z) j) r.n r.top) (books_with s z x)))
      ∙ book-over s x less long r.next (stalls_in x) z.next (stalls_in x) (renumbered own r.n r.top) d

  -- the policy is as it was, so the numbers of a later run stand too
  pub stands_on : (refreshes : Bool) (z r : Run) → Stands s refreshes (books_with s z x) z → Stands s refreshes (books_with s r x) r
  stands_on refreshes z r v =
      let e = book-run r in
      record {
        records = sym (ap (λ (b : Book). b.records) e);
        on = v.on ∙ ap (λ (b : Book). eqb b.policy 1) (book-run z) ∙ sym (ap (λ (b : Book). eqb b.policy 1) e);
        stamp = sym (ap (λ (b : Book). b.stamp) e);
        next = sym (next-is r.next _ _);
      }
