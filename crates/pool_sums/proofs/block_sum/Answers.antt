-- `pool_sums::block_sum` meets its contract: the first i spans are counted, and the whole fits. Assumes nothing.
use native.Mathlib.Omega.{arith}
use Rattle.pool_sums.proofs.Listed.{sum-start, sum_room, sum-turn}
use Rattle.pool_sums.proofs.block_sum.Goals as goal

pub loop-i-init : goal.loop-i-init
loop-i-init c = sum-start _ _

pub overflow_add-sum : goal.overflow_add-sum
overflow_add-sum c = omega (arith, c.saturating_sub.ensures, sum_room c.loop-i.invariant c.loop-i-test.true c.requires.2)

pub loop-i-preserved : goal.loop-i-preserved
loop-i-preserved c = rw c.saturating_sub.ensures (sum-turn c.loop-i.invariant c.loop-i-test.true)
