-- `pool_pin::place_of` meets its contract: each entry that is passed is ahead of the span. Assumes nothing.
use Rattle.std.proofs.Common.{rules}
use Rattle.shape_state.specs.Pins.{pinned}
use Rattle.pool_pin.specs.EntryPlace.{spans_from}
use Rattle.pool_pin.proofs.Placed.{pass-on}
use Rattle.pool_pin.proofs.place_of.Goals as goal

pub loop-i-preserved : goal.loop-i-preserved
loop-i-preserved c = let a = c.args in
    pass-on (spans_from (pinned a.pins) a.a) a.sp c.loop-i.i c.loop-i.invariant (search rules) (search rules)
