-- The small numbers that set-up leaves. Assumes nothing.
use Rattle.std.specs.Prelude.{ℕ, ◌*◌, Bool, List, ◌++◌, length, drop}
use Rattle.model.specs.Sizes.{max_stores, store_numbers}
use Rattle.model.specs.State.{whole, parts_in}
use Rattle.model.specs.SetUp.{new_numbers}

-- "the root only, next id 1, .. stalls .. 0", one store for each capacity; what stands past the stores' parts stays
abbrev pub fresh_books : List ℕ → List Bool → List ℕ → List ℕ
fresh_books capacity refreshes l =
    whole 1 0 (length capacity) 1 0 (new_numbers capacity refreshes 0 max_stores ++ drop (store_numbers * max_stores) (parts_in l))
