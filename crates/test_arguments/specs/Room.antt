-- What a touch needs at most. Assumes nothing.
use Rattle.std.specs.Prelude.{ℕ, ◌+◌, ◌*◌, ◌≤◌}
use Rattle.model.specs.Sizes.{store_records, max_stamp}

-- count turns need at most two records and ids and one stamp each
pub record Roomy (n top next count : ℕ) : Type 0 where
  pub records : n + 2 * count ≤ store_records
  pub stamps : top + count ≤ max_stamp
  pub ids : next + 2 * count ≤ max_stamp
