-- A store's part of each pool: w places from a on, and the pool with another list in their place. Assumes nothing.
use Rattle.std.specs.Prelude.{ℕ, List, ◌++◌, take, drop}
use Rattle.model.specs.State.{Ranges, Pins}
use Rattle.shape_state.specs.Lent.{ranges_of, pins_of}

abbrev pub mid : {A : Type 0} → ℕ → ℕ → List A → List A
mid a w l = take w (drop a l)

abbrev pub back : {A : Type 0} → ℕ → ℕ → List A → List A → List A
back a w x l = take a l ++ (x ++ drop w (drop a l))

-- the same of each column
unfoldable pub mid_ranges : ℕ → ℕ → Ranges → Ranges
mid_ranges a w c =
    ranges_of (mid a w c.node) (mid a w c.start) (mid a w c.end) (mid a w c.id) (mid a w c.stamp) (mid a w c.touched) (mid a w c.write)

unfoldable pub back_ranges : ℕ → ℕ → Ranges → Ranges → Ranges
back_ranges a w q c =
    ranges_of (back a w q.node c.node) (back a w q.start c.start) (back a w q.end c.end) (back a w q.id c.id)
    (back a w q.stamp c.stamp) (back a w q.touched c.touched) (back a w q.write c.write)

unfoldable pub mid_pins : ℕ → ℕ → Pins → Pins
mid_pins a w c = pins_of (mid a w c.node) (mid a w c.start) (mid a w c.end) (mid a w c.count)

unfoldable pub back_pins : ℕ → ℕ → Pins → Pins → Pins
back_pins a w q c = pins_of (back a w q.node c.node) (back a w q.start c.start) (back a w q.end c.end) (back a w q.count c.count)
