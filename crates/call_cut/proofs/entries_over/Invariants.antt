use Rattle.model.specs.State.{Pins}
use Rattle.call_cut.specs.Needs.{overpinned}
use Rattle.call_cut.proofs.Stores.{PinsAre, NoneOver}
use Rattle.call_cut.proofs.entries_over.Given as goal

abbrev pub invariant-loop-s : goal.invariant-loop-s
invariant-loop-s l = NoneOver (PinsAre l.node l.start l.end) (λ (c : Pins). overpinned l.j l.k c l.entries) l.s
