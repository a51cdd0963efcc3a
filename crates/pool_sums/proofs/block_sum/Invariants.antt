use Rattle.std.specs.Prelude.{◌-◌}
use Rattle.model.specs.State.{at}
use Rattle.pool_sums.proofs.Listed.{Summing}
use Rattle.pool_sums.proofs.block_sum.Given as goal

abbrev pub invariant-loop-i : goal.invariant-loop-i
invariant-loop-i l = Summing (λ i. at l.end i - at l.start i) l.n l.sum l.i
