-- `pool_sums::remove_passes` meets its contract: one place. Assumes nothing.
use Rattle.pool_sums.proofs.Adding.{pass_last}
use Rattle.pool_sums.proofs.remove_passes.Goals as goal

pub returns : goal.returns
returns c = pass_last _ _ c.args.sums.now c.past.ensures
