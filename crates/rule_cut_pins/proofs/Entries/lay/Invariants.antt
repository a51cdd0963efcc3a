use Rattle.pool_pin.specs.Columns.{SamePins}
use Rattle.rule_cut_pins.specs.Entries.{pins_in}
use Rattle.rule_cut_pins.proofs.Written.{Writing, column}
use Rattle.rule_cut_pins.proofs.Entries.lay.Given as goal

abbrev pub invariant-loop-i : goal.invariant-loop-i
invariant-loop-i l = record {
  same : SamePins l.initial.part l.part;
  node : Writing l.initial.part.node.now (column (λ p. p.node) (pins_in l.self)) l.k l.part.node.now l.i;
  start : Writing l.initial.part.start.now (column (λ p. p.start) (pins_in l.self)) l.k l.part.start.now l.i;
  end : Writing l.initial.part.end.now (column (λ p. p.end) (pins_in l.self)) l.k l.part.end.now l.i;
  count : Writing l.initial.part.count.now (column (λ p. p.count) (pins_in l.self)) l.k l.part.count.now l.i;
}
