use Rattle.call_cut.proofs.Stores.{Summed}
use Rattle.call_cut.proofs.ids_needed.Given as goal

abbrev pub invariant-loop-s : goal.invariant-loop-s
invariant-loop-s l = Summed l.node l.start l.end l.j l.k l.records l.sum l.s
