-- `pool_sums::out_sums` meets its contract: each figure by its own sum. Assumes nothing.
use native.Mathlib.Omega.{arith}
use mathlib.Core.Path.{sym, ◌∙◌}
use Rattle.pool_sums.proofs.Listed.{sum-is}
use Rattle.pool_sums.proofs.out_sums.Goals as goal

pub column_sum-requires : goal.column_sum-requires
column_sum-requires c = omega (arith, c.requires.bytes_fit, sum-is c.args.n c.args.out_bytes.now)

pub column_sum-requires-2 : goal.column_sum-requires-2
column_sum-requires-2 c = omega (arith, c.requires.dead_fit, sum-is c.args.n c.args.out_dead.now)

pub returns : goal.returns
returns c = λ i. record {
  blocks = c.block_sum.ensures i;
  bytes = (c.column_sum.ensures ∙ sym (sum-is c.args.n c.args.out_bytes.now)) i;
  dead = (c.column_sum-2.ensures ∙ sym (sum-is c.args.n c.args.out_dead.now)) i;
}
