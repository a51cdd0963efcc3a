use Prim.Native.Nat.{◌-◌}
use Rattle.pool_range.specs.Lent.{lent, SameColumns}
use Rattle.rule_cut.proofs.Steps.{Cutting}
use Rattle.rule_cut.proofs.cut_ranges.Given as goal

abbrev pub invariant-loop-s : goal.invariant-loop-s
invariant-loop-s l = record {
  same : SameColumns l.initial.ranges l.ranges;
  cutting : Cutting l.j l.k l.m l.next l.n (lent l.initial.ranges) (lent l.ranges) l.s;
}

abbrev pub decreases-loop-s : goal.decreases-loop-s
decreases-loop-s l = l.s.top - l.s.at
