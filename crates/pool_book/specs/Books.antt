-- A number of each store. Assumes nothing.
use Rattle.std.specs.Prelude.{ℕ, List, [], ◌∷◌}
use Rattle.model.specs.State.{book_in}

-- one for each of the eight stores
abbrev pub each_store : {A : Type 0} → (ℕ → A) → List A
each_store f = f 0 ∷ f 1 ∷ f 2 ∷ f 3 ∷ f 4 ∷ f 5 ∷ f 6 ∷ f 7 ∷ []

-- each store's used records, and its used pin entries
abbrev pub records_in : List ℕ → List ℕ
records_in l = each_store (λ s. (book_in l s).records)

abbrev pub entries_in : List ℕ → List ℕ
entries_in l = each_store (λ s. (book_in l s).entries)
