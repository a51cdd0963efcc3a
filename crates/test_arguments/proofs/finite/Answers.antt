-- `test_arguments::finite` meets its contract. Assumes nothing.
use Rattle.test_arguments.proofs.Laws.{finite-says}
use Rattle.test_arguments.proofs.finite.Goals as goal

pub returns : goal.returns
returns c = rw c.is_finite.ensures.value (finite-says c.args.x)
