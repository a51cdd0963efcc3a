-- A column with an element put in or cut out, and the same of a list. Assumes nothing.
use Rattle.std.specs.Prelude.{List, ◌∷◌, ◌++◌, ℕ, ◌+◌, ◌-◌, take, drop}

module _ {A : Type 0} where
  -- of n elements in use: x before the one at `at`, those from there one up, and what lies past n + 1 as it was
  unfoldable pub put_at : ℕ → A → ℕ → List A → List A
  put_at at x n l = take at l ++ (x ∷ (take (n - at) (drop at l) ++ drop (n + 1) l))

  -- the element at `at` taken out of n, those after it one down, and the place that is free then left blank
  unfoldable pub cut_at : A → ℕ → ℕ → List A → List A
  cut_at blank at n l = take at l ++ (take (n - (at + 1)) (drop (at + 1) l) ++ (blank ∷ drop n l))

  -- of a list: x before the element at `at`; the element at `at` taken out
  unfoldable pub insert_at : ℕ → A → List A → List A
  insert_at at x xs = take at xs ++ (x ∷ drop at xs)

  unfoldable pub remove_at : ℕ → List A → List A
  remove_at at xs = take at xs ++ drop (at + 1) xs
