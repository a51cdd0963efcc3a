-- `pool_range::cut` meets its contract: the move closes the column, and its last place is left.
use Rattle.pool_range.proofs.Columns.{closed_blank}
use Rattle.pool_range.proofs.cut.Goals as goal

pub returns : goal.returns
returns g c = rw c.copy_within.ensures.after (closed_blank _ _ _ _ c.requires.0 c.requires.1)
