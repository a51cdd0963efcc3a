use Rattle.rule_choose.proofs.Laws.{Passed}
use Rattle.rule_choose.proofs.is_pinned.Given as goal

abbrev pub invariant-loop-k : goal.invariant-loop-k
invariant-loop-k l = Passed l.range l.pins l.m l.k
