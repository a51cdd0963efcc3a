use Rattle.call_touch.specs.Looking.{Looks}
use Rattle.call_touch.proofs.look_spans.Given as goal

abbrev pub invariant-loop-sp : goal.invariant-loop-sp
invariant-loop-sp l = Looks l.spans l.len l.initial.y l.sp-index l.y
