use Rattle.pool_pin.specs.EntryPlace.{Passed}
use Rattle.rule_cut_pins.specs.Entries.{spans_in}
use Rattle.rule_cut_pins.proofs.Entries.place_of.Given as goal

abbrev pub invariant-loop-i : goal.invariant-loop-i
invariant-loop-i l = Passed (spans_in l.self) l.sp l.i
