use Rattle.rust_values.proofs.Front.{Reading}
use Rattle.rust_values.proofs.spans.first_64.Given as goal

abbrev pub invariant-loop-i : goal.invariant-loop-i
invariant-loop-i l = Reading 64 l.on l.from l.upto l.n l.spans l.i
