use Rattle.shape_state.specs.Lent.{ranges_of}
use Rattle.call_touch.specs.Going.{Turns}
use Rattle.call_touch.proofs.touch_spans.Given as goal

abbrev pub invariant-loop-sp : goal.invariant-loop-sp
invariant-loop-sp l =
    Turns l.spans l.depth l.bytes
    (ranges_of l.initial.node l.initial.start l.initial.end l.initial.id l.initial.stamp l.initial.touched l.initial.write) l.initial.marks l.initial.y
    l.sp-index (ranges_of l.node l.start l.end l.id l.stamp l.touched l.write) l.marks l.y
