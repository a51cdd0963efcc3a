-- `pool_sums::add_outs` meets its contract: three places, one after another; they differ, so that there is room at each. Assumes nothing.
use Prim.Native.Nat.{◌+◌}
use native.Mathlib.Omega.{arith}
use Rattle.pool_sums.proofs.Adding.{room-first, second-room, third_room, three_added}
use Rattle.pool_sums.proofs.add_outs.Goals as goal

pub add_at-requires : goal.add_at-requires
add_at-requires c = (
  omega (arith, c.requires.1, c.requires.2),
  room-first c.args.place
      c.args.o.blocks _ c.args.sums.now c.requires.3,
)

pub add_at-requires-2 : goal.add_at-requires-2
add_at-requires-2 c = (
  omega (
    arith,
    c.requires.0,
    c.requires.2,
    c.add_at.auto.sums,
  ),
  second-room c.args.place
      (40 + c.args.s) (48 + c.args.s)
      c.args.o.blocks c.args.o.bytes
      c.args.o.dead c.args.sums.now
      c.add_at.new.sums c.requires.3 c.add_at.ensures
      (λ e. omega (arith, c.requires.1))
      (λ e. omega (arith, c.requires.1)),
)

pub add_at-requires-3 : goal.add_at-requires-3
add_at-requires-3 c = (
  omega (
    arith,
    c.requires.0,
    c.requires.2,
    c.add_at.auto.sums,
    c.add_at-2.auto.sums,
  ),
  third_room c.args.place (40 + c.args.s) (48 + c.args.s)
      c.args.o.blocks c.args.o.bytes c.args.o.dead c.args.sums.now
      c.add_at.new.sums c.add_at-2.new.sums c.requires.3
      c.add_at.ensures c.add_at-2.ensures
      (λ e. omega (arith, c.requires.1)) (λ e. omega (arith, c.requires.1)) (λ e. omega arith),
)

pub returns : goal.returns
returns c = three_added c.args.place (40 + c.args.s)
    (48 + c.args.s) c.args.o.blocks
    c.args.o.bytes c.args.o.dead
    c.args.sums.now c.add_at.new.sums
    c.add_at-2.new.sums c.add_at-3.new.sums c.add_at.ensures
    c.add_at-2.ensures c.add_at-3.ensures
