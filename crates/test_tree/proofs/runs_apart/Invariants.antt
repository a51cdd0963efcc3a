use Rattle.test_tree.proofs.Runs.{Owned}
use Rattle.test_tree.proofs.runs_apart.Given as goal

abbrev pub invariant-loop-i : goal.invariant-loop-i
invariant-loop-i l = Owned l.run l.len l.own l.i
