-- `pool_out::OutsMut::put` meets its contract: six stores, the write as its number.
use Rattle.pool_out.specs.Evicted.{set_out}
use Rattle.pool_out.proofs.OutsMut.put.Goals as goal

pub returns-clause-list : goal.returns-clause-list
unfolding set_out
returns-clause-list c = rw c.from.ensures
