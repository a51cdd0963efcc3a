use Prim.Native.Nat.{◌+◌}
use Rattle.pool_range.specs.Lent.{seen}
use Rattle.rule_remove.proofs.Laws.{Listing}
use Rattle.rule_remove.proofs.list_writes.Given as goal

abbrev pub invariant-loop-w : goal.invariant-loop-w
invariant-loop-w l = Listing (seen l.ranges) l.initial.list l.list l.lo l.hi l.k (l.lo + l.w-index)
