-- The small numbers: what is laid for a store is read back from its part, another store's is as it was, and to lay back what was read changes nothing.
-- Assumes nothing.
use Prim.Native.Nat.{ℕ, zero, suc, ◌+◌, ◌-◌, ◌*◌, ◌≤◌, ◌<◌}
use mathlib.Core.Path.{◌≡◌, refl, ap, ◌∙◌}
use mathlib.Core.Logic.{◌≢◌}
use mathlib.Core.List.{List, [], ◌∷◌}
use native.Mathlib.Omega.{arith}
use native.Mathlib.Nat.{le_refl}
use lib.ListN.{length, take, drop, length-take, length-drop}
use Rattle.model.specs.declared.Book.{Book}
use Rattle.model.specs.Sizes.{max_stores, max_numbers, store_numbers}
use Rattle.model.specs.State.{at, whole, parts_in, numbers, book_from, book_in}
use Rattle.model.specs.Store.{lay, lay_book, lay_next, lay_counts}
use Rattle.theory_lay.proofs.Lay.{apart-stores, lay_length, lay-read, lay_window, lay-same}

-- the five of a list, in front of its rest
five-front : (l : List ℕ) → 5 ≤ length l → whole (at l 0) (at l 1) (at l 2) (at l 3) (at l 4) (parts_in l) ≡ l
five-front [] h = absurd (omega arith)
five-front (a ∷ []) h = absurd (omega arith)
five-front (a ∷ b ∷ []) h = absurd (omega arith)
five-front (a ∷ b ∷ c ∷ []) h = absurd (omega arith)
five-front (a ∷ b ∷ c ∷ d ∷ []) h = absurd (omega arith)
five-front (a ∷ b ∷ c ∷ d ∷ e ∷ l) h = refl

-- n numbers of a list from place i on, spelt out
abbrev spell : ℕ → ℕ → List ℕ → List ℕ
spell i zero l = []
spell i (suc n) l = at l i ∷ spell (suc i) n l

spell-tail : (x : ℕ) (l : List ℕ) (i n : ℕ) → spell (suc i) n (x ∷ l) ≡ spell i n l
spell-tail x l i zero = refl
spell-tail x l i (suc n) = ap (λ (xs : List ℕ). at l i ∷ xs) (spell-tail x l (suc i) n)

spelt : (l : List ℕ) (n : ℕ) → length l ≡ n → spell 0 n l ≡ l
spelt [] zero e = refl
spelt [] (suc n) e = absurd (omega arith)
spelt (x ∷ l) zero e = absurd (omega arith)
spelt (x ∷ l) (suc n) e = ap (λ (xs : List ℕ). x ∷ xs) (spell-tail x l 0 n ∙ spelt l n (omega arith))

-- so many numbers make a book
numbers-from : (l : List ℕ) → length l ≡ store_numbers → numbers (book_from l) ≡ l
numbers-from l e = spelt l store_numbers e

-- ---- a store's numbers

module _ (s : ℕ) (l : List ℕ) (less : s < max_stores) (long : max_numbers ≤ length l) where
  part_in : store_numbers * s + store_numbers ≤ length (parts_in l)
  part_in = rw length-drop (omega arith)

  part-long : length (take store_numbers (drop (store_numbers * s) (parts_in l))) ≡ store_numbers
  part-long = rw (length-take, length-drop) (omega (arith, part_in))

  pub book-back : lay_book s (book_in l s) l ≡ l
  unfolding lay_book book_in
  book-back =
      let e = numbers-from (take store_numbers (drop (store_numbers * s) (parts_in l))) part-long in
      ap (λ (xs : List ℕ). whole (at l 0) (at l 1) (at l 2) (at l 3) (at l 4) (lay 0 (store_numbers * s) store_numbers xs (parts_in l))) e
      ∙ ap (λ (xs : List ℕ). whole (at l 0) (at l 1) (at l 2) (at l 3) (at l 4) xs)
      (lay-same 0 (store_numbers * s) store_numbers (take store_numbers (drop (store_numbers * s) (parts_in l))) (parts_in l) part-long refl)
      ∙ five-front l (omega arith)

  module _ (b : Book) where
    pub book-read : book_in (lay_book s b l) s ≡ b
    unfolding lay_book book_in
    book-read = ap book_from (lay-read 0 (store_numbers * s) store_numbers (numbers b) (parts_in l) (le_refl store_numbers) part_in)

    pub book-other : (q : ℕ) → q ≢ s → book_in (lay_book s b l) q ≡ book_in l q
    unfolding lay_book book_in
    book-other q other =
        ap book_from
        (lay_window 0 (store_numbers * s) store_numbers (numbers b) (parts_in l) (le_refl store_numbers) part_in (store_numbers * q) store_numbers
        (apart-stores store_numbers q s store_numbers store_numbers other (le_refl store_numbers) (le_refl store_numbers)))

    pub book_length : length (lay_book s b l) ≡ length l
    unfolding lay_book
    book_length =
        let e = lay_length 0 (store_numbers * s) store_numbers (numbers b) (parts_in l) (le_refl store_numbers) part_in in
        let f : length (parts_in l) ≡ length l - 5 = length-drop 5 l in
        omega (arith, e, f)

-- ---- the five of the whole

module _ (a b : ℕ) (l : List ℕ) (s : ℕ) where
  pub next-book : book_in (lay_next a b l) s ≡ book_in l s
  unfolding lay_next book_in
  next-book = refl

module _ (l : List ℕ) (long : max_numbers ≤ length l) where
  pub next_length : (a b : ℕ) → length (lay_next a b l) ≡ length l
  unfolding lay_next
  next_length a b = let f : length (parts_in l) ≡ length l - 5 = length-drop 5 l in omega arith

  pub counts_length : (a b : ℕ) → length (lay_counts a b l) ≡ length l
  unfolding lay_counts
  counts_length a b = let f : length (parts_in l) ≡ length l - 5 = length-drop 5 l in omega arith

  pub next-same : lay_next (at l 3) (at l 4) l ≡ l
  unfolding lay_next
  next-same = five-front l (omega arith)
