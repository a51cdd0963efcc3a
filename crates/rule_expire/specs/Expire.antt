-- What an expiry gives out. Assumes nothing.
use Rattle.std.specs.Prelude.{ℕ, List, length, Float}
use Rattle.model.specs.State.{Tree, Range}
use Rattle.model.specs.Trim.{Trimmed}
use Rattle.model.specs.Expire.{oldest, expire_by}

-- `expire` on the ranges and marks of a store
unfoldable pub expired : Tree → List ℕ → Float → Float → List Range → List ℕ → Trimmed
expired t table now seconds rs ms = expire_by t table now seconds (length rs) (oldest now seconds rs) rs ms
