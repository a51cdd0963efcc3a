use Rattle.shape_state.specs.Pins.{pinned}
use Rattle.rule_cut_pins.proofs.Staying.{Staying}
use Rattle.rule_cut_pins.proofs.all_stay.Given as goal

abbrev pub invariant-loop-i : goal.invariant-loop-i
invariant-loop-i l = Staying l.j l.n (pinned l.part) l.i
