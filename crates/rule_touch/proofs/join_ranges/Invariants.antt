use Prim.Native.Nat.{◌-◌}
use Rattle.pool_range.specs.Lent.{lent, SameColumns}
use Rattle.rule_touch.proofs.Laws.{Joining}
use Rattle.rule_touch.proofs.join_ranges.Given as goal

abbrev pub invariant-loop-i : goal.invariant-loop-i
invariant-loop-i l = SameColumns l.initial.ranges l.ranges × Joining (lent l.initial.ranges) (lent l.ranges) l.n l.v l.m l.i

abbrev pub decreases-loop-i : goal.decreases-loop-i
decreases-loop-i l = l.m - l.i
