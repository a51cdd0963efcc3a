use Rattle.pool_range.specs.Lent.{lent, SameColumns}
use Rattle.rule_remove.proofs.Laws.{Cutting}
use Rattle.rule_remove.proofs.cut_ends.Given as goal

abbrev pub invariant-loop-j : goal.invariant-loop-j
invariant-loop-j l = SameColumns l.initial.ranges l.ranges × Cutting (lent l.initial.ranges) (lent l.ranges) l.n l.lo l.hi l.sp l.i l.j
