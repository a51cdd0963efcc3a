use Rattle.rule_cut.proofs.Counted.{Counting}
use Rattle.rule_cut.proofs.count_across.Given as goal

abbrev pub invariant-loop-i : goal.invariant-loop-i
invariant-loop-i l = Counting l.j l.k l.node l.start l.end l.across l.i
