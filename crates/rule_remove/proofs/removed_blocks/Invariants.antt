use Rattle.pool_range.specs.Lent.{seen}
use Rattle.rule_remove.proofs.Laws.{Counting}
use Rattle.rule_remove.proofs.removed_blocks.Given as goal

abbrev pub invariant-loop-i : goal.invariant-loop-i
invariant-loop-i l = Counting (seen l.ranges) l.sp l.lo l.hi l.sum l.i
