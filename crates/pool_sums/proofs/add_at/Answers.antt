-- `pool_sums::add_at` meets its contract: the place has what stood there and so much more. Assumes nothing.
use Rattle.pool_sums.proofs.Adding.{add-one}
use Rattle.pool_sums.proofs.add_at.Goals as goal

pub returns : goal.returns
returns c = add-one c.args.place c.args.amount c.args.sums.now
