use Rattle.pool_range.specs.Lent.{lent, SameColumns}
use Rattle.rule_fill.proofs.Laws.{Filling}
use Rattle.rule_fill.proofs.fill.Given as goal

abbrev pub invariant-loop-i : goal.invariant-loop-i
invariant-loop-i l = SameColumns l.initial.ranges l.ranges
    × Filling (lent l.initial.ranges) l.n l.fresh.node l.gaps.list l.gaps.n l.fresh.stamp l.fresh.id l.fresh.time l.fresh.write (lent l.ranges) l.i
