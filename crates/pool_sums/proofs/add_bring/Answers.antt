-- `pool_sums::add_bring` meets its contract: the gaps' blocks, then the given-out spans at the place that the capacity says. Assumes nothing.
use native.Mathlib.Omega.{arith}
use Rattle.pool_sums.proofs.Adding.{bring-added, bring-first, bring-rest, gave_low}
use Rattle.pool_sums.proofs.add_bring.Goals as goal

pub add_at-requires : goal.add_at-requires
add_at-requires c = (
  omega (arith, c.requires.0, c.requires.1),
  bring-first c.args.capacity
      c.args.s c.args.blocks c.args.o c.args.sums.now
      c.requires.2,
)

pub add_outs-requires : goal.add_outs-requires
add_outs-requires c = (
  c.requires.0,
  let e = c.gave_at.ensures in omega (
    arith,
    gave_low c.args.capacity
        c.args.s c.requires.0,
  ),
  omega
      (arith, c.requires.1, c.add_at.auto.sums),
  bring-rest
      c.args.capacity c.args.s
      c.args.blocks c.args.o
      c.args.sums.now c.gave_at.result
      c.requires.0 c.gave_at.ensures
      c.requires.2 c.add_at.ensures,
)

pub returns : goal.returns
returns c = bring-added c.args.capacity c.args.s c.args.blocks c.args.o c.args.sums.now
    c.gave_at.result c.gave_at.ensures
    c.add_at.ensures c.add_outs.ensures
