use Rattle.shape_state.specs.Lent.{ranges_of, pins_of}
use Rattle.call_cut.proofs.Laws.{Turning}
use Rattle.call_cut.proofs.cut_stores.Given as goal

abbrev pub invariant-loop-s : goal.invariant-loop-s
invariant-loop-s l = Turning l.j l.k l.m (ranges_of l.initial.node l.initial.start l.initial.end l.initial.id l.initial.stamp l.initial.touched l.initial.write)
    (pins_of l.initial.pin_node l.initial.pin_start l.initial.pin_end l.initial.pin_count) l.initial.marks l.initial.books l.s
    (ranges_of l.node l.start l.end l.id l.stamp l.touched l.write) (pins_of l.pin_node l.pin_start l.pin_end l.pin_count) l.marks l.books
