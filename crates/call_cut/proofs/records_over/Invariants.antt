use Rattle.model.specs.State.{Ranges}
use Rattle.call_cut.specs.Needs.{overfull}
use Rattle.call_cut.proofs.Stores.{RangesAre, NoneOver}
use Rattle.call_cut.proofs.records_over.Given as goal

abbrev pub invariant-loop-s : goal.invariant-loop-s
invariant-loop-s l = NoneOver (RangesAre l.node l.start l.end) (λ (c : Ranges). overfull l.j l.k c l.records) l.s
