use Rattle.rule_fill.proofs.Laws.{Summing}
use Rattle.rule_fill.proofs.Gaps.blocks.Given as goal

abbrev pub invariant-loop-i : goal.invariant-loop-i
invariant-loop-i l = Summing l.self.list l.sum l.i
