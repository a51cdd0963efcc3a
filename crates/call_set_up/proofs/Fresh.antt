-- The small numbers as set-up writes them, store by store: those of the first s stores, then what was lent. Assumes nothing.
use Prim.Native.Nat.{ℕ, zero, suc, ◌+◌, ◌*◌, ◌≤◌, ◌<◌}
use mathlib.Core.Path.{◌≡◌, refl, sym, ap, ◌∙◌}
use mathlib.Core.Bool.{Bool}
use mathlib.Core.List.{List, ◌++◌, append_assoc}
use native.Mathlib.Omega.{arith}
use native.Mathlib.Nat.{add-zero, zero-add}
use lib.ListN.{length, set, take, drop, length-append}
use lib.Seq.{take_at, drop_at, drop-drop}
use Rattle.model.specs.declared.Book.{Book}
use Rattle.model.specs.Sizes.{max_stores, store_numbers}
use Rattle.model.specs.State.{whole, parts_in, numbers}
use Rattle.model.specs.Store.{lay, lay_book, lay_counts, lay_next}
use Rattle.model.specs.SetUp.{new_book, new_numbers}
use Rattle.call_set_up.specs.Fresh.{fresh_books}

-- d is the list that was lent, l has the numbers of the first s stores in it
pub record Filled (capacity : List ℕ) (refreshes : List Bool) (d : List ℕ) (s : ℕ) (l : List ℕ) : Type 0 where
  pub within : s ≤ max_stores
  pub long : length l ≡ length d
  pub first : length (new_numbers capacity refreshes 0 s) ≡ store_numbers * s
  pub so : parts_in l ≡ new_numbers capacity refreshes 0 s ++ drop (store_numbers * s) (parts_in d)

module _ (capacity : List ℕ) (refreshes : List Bool) where
  new-last : (n r : ℕ) → new_numbers capacity refreshes r (n + 1) ≡ new_numbers capacity refreshes r n ++ numbers (new_book capacity refreshes (r + n))
  unfolding new_numbers
  new-last zero r = rw add-zero
  new-last (suc n) r =
      let e : suc n + 1 ≡ suc (n + 1) = omega arith in
      let f : r + suc n ≡ suc r + n = omega arith in
      rw (e, f) (ap (λ (l : List ℕ). numbers (new_book capacity refreshes r) ++ l) (new-last n (suc r)))

  new-next : (s : ℕ) → new_numbers capacity refreshes 0 (s + 1) ≡ new_numbers capacity refreshes 0 s ++ numbers (new_book capacity refreshes s)
  new-next s = new-last s 0 ∙ ap (λ (k : ℕ). new_numbers capacity refreshes 0 s ++ numbers (new_book capacity refreshes k)) (zero-add s)

  pub filled_none : (d : List ℕ) → Filled capacity refreshes d 0 d
  unfolding new_numbers
  filled_none d = record { within = omega arith; long = refl; first = refl; so = refl }

  -- store s written after the first s
  next-filled : (s : ℕ) (p : List ℕ) → length (new_numbers capacity refreshes 0 s) ≡ store_numbers * s
      → lay 0 (store_numbers * s) store_numbers (numbers (new_book capacity refreshes s)) (new_numbers capacity refreshes 0 s ++ drop (store_numbers * s) p)
      ≡ new_numbers capacity refreshes 0 (s + 1) ++ drop (store_numbers * (s + 1)) p
  unfolding lay
  next-filled s p e =
      (λ i. front i ++ (own ++ rest i))
      ∙ sym (append_assoc before own (drop (store_numbers * (s + 1)) p))
      ∙ ap (λ (l : List ℕ). l ++ drop (store_numbers * (s + 1)) p) (sym (new-next s))
    where
      before : List ℕ
      before = new_numbers capacity refreshes 0 s

      own : List ℕ
      own = numbers (new_book capacity refreshes s)

      past : List ℕ
      past = drop (store_numbers * s) p

      front : take (store_numbers * s) (before ++ past) ≡ before
      front = take_at before past (store_numbers * s) e

      ends : store_numbers * s + store_numbers ≡ store_numbers * (s + 1)
      ends = omega arith

      rest : drop (store_numbers * s + store_numbers) (before ++ past) ≡ drop (store_numbers * (s + 1)) p
      rest =
          sym (drop-drop store_numbers (store_numbers * s) (before ++ past))
          ∙ ap (λ (l : List ℕ). drop store_numbers l) (drop_at before past (store_numbers * s) e)
          ∙ drop-drop store_numbers (store_numbers * s) p
          ∙ ap (λ (j : ℕ). drop j p) ends

  pub filled_more : {d : List ℕ} {s : ℕ} {l l' : List ℕ} {b : Book} → Filled capacity refreshes d s l → s < max_stores
      → b ≡ new_book capacity refreshes s → l' ≡ lay_book s b l → length l' ≡ length l → Filled capacity refreshes d (s + 1) l'
  unfolding lay_book
  filled_more {d} {s} f less e e' kept =
      record {
        within = omega arith;
        long = kept ∙ f.long;
        first =
            let n : length (new_numbers capacity refreshes 0 (s + 1)) ≡ length (new_numbers capacity refreshes 0 s) + store_numbers =
            ap (λ (x : List ℕ). length x) (new-next s) ∙ length-append (new_numbers capacity refreshes 0 s) (numbers (new_book capacity refreshes s)) in
            omega (arith, f.first);
        so =
            ap (λ (x : List ℕ). parts_in x) e'
            ∙ (λ i. lay 0 (store_numbers * s) store_numbers (numbers (e i)) (f.so i))
            ∙ next-filled s (parts_in d) f.first;
      }

  -- the five of the whole come last
  pub filled-all : {d : List ℕ} {s : ℕ} {l l' l'' : List ℕ} → Filled capacity refreshes d s l → max_stores ≤ s → l' ≡ lay_counts 1 0 l
      → l'' ≡ lay_next 1 0 (set l' 2 (length capacity)) → l'' ≡ fresh_books capacity refreshes d
  unfolding lay_counts lay_next
  filled-all {d} {s} f all e e' =
      e'
      ∙ ap (λ (x : List ℕ). lay_next 1 0 (set x 2 (length capacity))) e
      ∙ ap (λ (x : List ℕ). whole 1 0 (length capacity) 1 0 x) f.so
      ∙ ap (λ (k : ℕ). whole 1 0 (length capacity) 1 0 (new_numbers capacity refreshes 0 k ++ drop (store_numbers * k) (parts_in d))) last
    where
      last : s ≡ max_stores
      last = omega (arith, f.within)
