use Rattle.call_touch.proofs.Running.{Fine}
use Rattle.call_touch.proofs.first_refusal.Given as goal

abbrev pub invariant-loop-sp : goal.invariant-loop-sp
invariant-loop-sp l = Fine l.len l.nodes l.sp-items l.sp-index
