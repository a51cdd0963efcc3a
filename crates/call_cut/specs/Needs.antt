-- What a cut of node j at k needs of the stores: records, pin entries, and ids over the stores below n. Assumes nothing.
use Rattle.std.specs.Prelude.{ℕ, zero, suc, ◌+◌, ◌*◌, Bool, List, ltb}
use Rattle.model.specs.Sizes.{store_records, store_pins}
use Rattle.model.specs.State.{Ranges, Pins, at}
use Rattle.model.specs.Store.{ranges, pins}
use Rattle.model.specs.Insert.{ranges_across, pins_across}

-- the ranges of store s that are across; `records` has each store's count
abbrev pub across_of : ℕ → ℕ → Ranges → List ℕ → ℕ → ℕ
across_of j k c records s = ranges_across j k (ranges c (store_records * s) (at records s))

-- the store has too few records left
abbrev pub overfull : ℕ → ℕ → Ranges → List ℕ → ℕ → Bool
overfull j k c records s = ltb store_records (at records s + across_of j k c records s)

-- the store has too few pin entries left; `entries` has each store's count
abbrev pub overpinned : ℕ → ℕ → Pins → List ℕ → ℕ → Bool
overpinned j k c entries s = ltb store_pins (at entries s + pins_across j k (pins c (store_pins * s) (at entries s)))

unfoldable pub ids_below : ℕ → ℕ → Ranges → List ℕ → ℕ → ℕ
ids_below j k c records zero = 0
ids_below j k c records (suc s) = ids_below j k c records s + across_of j k c records s
