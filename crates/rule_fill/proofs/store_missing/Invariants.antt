use Rattle.std.proofs.Common.{◌≡◌}
use Rattle.model.specs.State.{Ranges}
use Rattle.rule_fill.proofs.Missing.{Scan}
use Rattle.rule_fill.proofs.store_missing.Given as goal

abbrev pub invariant-loop-i : goal.invariant-loop-i
invariant-loop-i l = (d : Ranges) → d.node ≡ l.ranges.node.now → d.start ≡ l.ranges.start.now → d.end ≡ l.ranges.end.now
    → Scan d l.n l.span.node l.span.start l.span.end l.gaps l.from l.i
