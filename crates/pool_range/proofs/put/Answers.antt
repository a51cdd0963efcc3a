-- `pool_range::put` meets its contract: the move leaves the column open at the place.
use Rattle.pool_range.proofs.Columns.{opened_put}
use Rattle.pool_range.proofs.put.Goals as goal

pub returns : goal.returns
returns g c = rw c.copy_within.ensures.after (opened_put _ _ _ _ c.requires.0 c.requires.1)
