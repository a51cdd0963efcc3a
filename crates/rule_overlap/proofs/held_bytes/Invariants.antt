use Rattle.std.proofs.Common.{◌≡◌}
use Rattle.model.specs.State.{Ranges}
use Rattle.rule_overlap.proofs.Laws.{Summing}
use Rattle.rule_overlap.proofs.held_bytes.Given as goal

abbrev pub invariant-loop-i : goal.invariant-loop-i
invariant-loop-i l = (d : Ranges) → d.start ≡ l.ranges.start.now → d.end ≡ l.ranges.end.now → Summing d l.depth l.bytes l.sp l.lo l.hi l.sum l.i
