use Rattle.std.proofs.Common.{◌≡◌}
use Rattle.model.specs.State.{Ranges}
use Rattle.rule_fill.proofs.Missing.{Passing}
use Rattle.rule_fill.proofs.place_for.Given as goal

abbrev pub invariant-loop-i : goal.invariant-loop-i
invariant-loop-i l = (d : Ranges) → d.node ≡ l.ranges.node.now → d.start ≡ l.ranges.start.now → Passing d l.n l.node l.start l.i
