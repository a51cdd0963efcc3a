-- What the small numbers are after a write, and what stands in a store's row. Assumes nothing.
use Rattle.std.proofs.Common.{◌≡◌, ℕ, zero, suc, ◌+◌, ◌*◌, ◌<◌, ◌≤◌, List, [], ◌∷◌, ◌++◌, length, take, drop, set, sym, refl, ap, ◌∙◌, append_assoc, arith, drop-drop}
use lib.Seq.{paste}
use Rattle.model.specs.declared.Book.{Book}
use Rattle.model.specs.Sizes.{max_stores, max_numbers, store_numbers}
use Rattle.model.specs.State.{at, whole, numbers, book_from, book_in, nodes_in, used_in, stores_in, next_id_in, stalls_in, parts_in}
use Rattle.model.specs.Store.{lay, lay_book, lay_next, lay_counts}
use Rattle.pool_book.specs.Books.{each_store, records_in, entries_in}

-- ---- the numbers of the whole

-- a list of that length is the five numbers of the whole and the stores' parts
whole-is : (l : List ℕ) → max_numbers ≤ length l → l ≡ whole (nodes_in l) (used_in l) (stores_in l) (next_id_in l) (stalls_in l) (parts_in l)
whole-is [] long = absurd (omega arith)
whole-is (x ∷ []) long = absurd (omega arith)
whole-is (x ∷ y ∷ []) long = absurd (omega arith)
whole-is (x ∷ y ∷ z ∷ []) long = absurd (omega arith)
whole-is (x ∷ y ∷ z ∷ v ∷ []) long = absurd (omega arith)
whole-is (x ∷ y ∷ z ∷ v ∷ w ∷ l) long = refl

pub next-laid : (n k : ℕ) (l : List ℕ) → max_numbers ≤ length l → set (set l 3 n) 4 k ≡ lay_next n k l
unfolding lay_next
next-laid n k l long = ap (λ (m : List ℕ). set (set m 3 n) 4 k) (whole-is l long)

pub counts-laid : (n u : ℕ) (l : List ℕ) → max_numbers ≤ length l → set (set l 0 n) 1 u ≡ lay_counts n u l
unfolding lay_counts
counts-laid n u l long = ap (λ (m : List ℕ). set (set m 0 n) 1 u) (whole-is l long)

-- ---- a row out of the list and into it

-- the book of store s is what stands in its row
pub book-at : (l : List ℕ) (s : ℕ) → book_from (take store_numbers (drop (5 + store_numbers * s) l)) ≡ book_in l s
unfolding book_in
book-at l s = ap (λ (m : List ℕ). book_from (take store_numbers m)) (sym (drop-drop (store_numbers * s) 5 l))

pub book-laid : (s : ℕ) (b : Book) (l : List ℕ) → max_numbers ≤ length l → paste l (5 + store_numbers * s) (numbers b) store_numbers ≡ lay_book s b l
unfolding lay_book lay
book-laid s b l long =
    let k : ℕ = store_numbers * s in
    let five : 5 + k ≡ suc (suc (suc (suc (suc k)))) = omega arith in
    let past : suc (suc (suc (suc (suc k)))) + store_numbers ≡ suc (suc (suc (suc (suc (k + store_numbers))))) = omega arith in
    let m : List ℕ = whole (nodes_in l) (used_in l) (stores_in l) (next_id_in l) (stalls_in l) (parts_in l) in
    (λ i. paste (whole-is l long i) (five i) (numbers b) store_numbers)
    ∙ ap (λ (j : ℕ). (take (suc (suc (suc (suc (suc k))))) m ++ numbers b) ++ drop j m) past
    ∙ ap (λ (r : List ℕ). whole (nodes_in l) (used_in l) (stores_in l) (next_id_in l) (stalls_in l) r)
    (append_assoc (take k (parts_in l)) (numbers b) (drop (k + store_numbers) (parts_in l)))

-- ---- a number of each store

-- that of store s stands at place s
store_at : (f : ℕ → ℕ) (s : ℕ) → s < max_stores → at (each_store f) s ≡ f s
store_at f zero h = refl
store_at f (suc zero) h = refl
store_at f (suc (suc zero)) h = refl
store_at f (suc (suc (suc zero))) h = refl
store_at f (suc (suc (suc (suc zero)))) h = refl
store_at f (suc (suc (suc (suc (suc zero))))) h = refl
store_at f (suc (suc (suc (suc (suc (suc zero)))))) h = refl
store_at f (suc (suc (suc (suc (suc (suc (suc zero))))))) h = refl
store_at f (suc (suc (suc (suc (suc (suc (suc (suc s)))))))) h = absurd (omega arith)

pub records-at : (l : List ℕ) (s : ℕ) → s < max_stores → at (records_in l) s ≡ (book_in l s).records
records-at l s h = store_at (λ i. (book_in l i).records) s h

pub entries_at : (l : List ℕ) (s : ℕ) → s < max_stores → at (entries_in l) s ≡ (book_in l s).entries
entries_at l s h = store_at (λ i. (book_in l i).entries) s h
