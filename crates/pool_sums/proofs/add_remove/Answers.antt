-- `pool_sums::add_remove` meets its contract: one place. Assumes nothing.
use Prim.Native.Nat.{◌+◌}
use native.Mathlib.Omega.{arith}
use Rattle.pool_sums.proofs.Adding.{room-first}
use Rattle.pool_sums.proofs.add_remove.Goals as goal

pub add_at-requires : goal.add_at-requires
add_at-requires c = (
  omega (arith, c.requires.0, c.requires.1),
  room-first (32 + c.args.s)
      c.args.blocks _ c.args.sums.now c.requires.2,
)
