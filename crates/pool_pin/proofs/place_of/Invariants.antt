use Rattle.shape_state.specs.Pins.{pinned}
use Rattle.pool_pin.specs.EntryPlace.{Passed, spans_from}
use Rattle.pool_pin.proofs.place_of.Given as goal

abbrev pub invariant-loop-i : goal.invariant-loop-i
invariant-loop-i l = Passed (spans_from (pinned l.pins) l.a) l.sp l.i
