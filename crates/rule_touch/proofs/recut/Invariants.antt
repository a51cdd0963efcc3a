use Rattle.pool_range.specs.Lent.{lent, SameColumns}
use Rattle.rule_touch.proofs.Laws.{Recutting}
use Rattle.rule_touch.proofs.recut.Given as goal

abbrev pub invariant-loop-j : goal.invariant-loop-j
invariant-loop-j l = SameColumns l.initial.ranges l.ranges × Recutting (lent l.initial.ranges) (lent l.ranges) l.n l.lo l.hi l.sp l.top l.time l.next l.p l.j
