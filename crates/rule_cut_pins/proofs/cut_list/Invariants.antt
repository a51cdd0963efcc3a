use Prim.Native.Nat.{◌≤◌}
use Rattle.shape_state.specs.Pins.{pinned}
use Rattle.rule_cut_pins.specs.Entries.{pins_in}
use Rattle.rule_cut_pins.proofs.Fewer.{Cutting}
use Rattle.rule_cut_pins.proofs.cut_list.Given as goal

abbrev pub invariant-loop-i : goal.invariant-loop-i
invariant-loop-i l = record {
  few : l.cut.n ≤ 32;
  cutting : Cutting l.j l.k l.m (pinned l.part) l.n (pins_in l.cut) l.i;
}
