use Prim.Native.Nat.{ℕ}
use mathlib.Core.Path.{◌≡◌}
use mathlib.Core.List.{List}
use Rattle.shape_state.specs.Lent.{ranges_of}
use Rattle.call_touch_span.specs.Turn.{Others}
use Rattle.call_touch.specs.Running.{Starts}
use Rattle.call_touch.proofs.Running.{Running}
use Rattle.call_touch.proofs.take_turns.Given as goal

abbrev pub invariant-loop-sp : goal.invariant-loop-sp
invariant-loop-sp l = (l.z.number ≡ 0)
    × ((o : Others) (x : List ℕ)
    → Starts o x l.sp-items l.depth l.bytes (ranges_of l.initial.node l.initial.start l.initial.end l.initial.id l.initial.stamp l.initial.touched l.initial.write) l.initial.marks l.s l.refreshes l.time l.counted l.initial.z
    → Running o x l.sp-items l.depth l.bytes (ranges_of l.initial.node l.initial.start l.initial.end l.initial.id l.initial.stamp l.initial.touched l.initial.write) l.initial.marks l.s l.refreshes l.time l.counted
    l.sp-index (ranges_of l.node l.start l.end l.id l.stamp l.touched l.write) l.marks l.z)
