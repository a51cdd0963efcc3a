-- From line to line the state is sound and the sums are in balance with it.
use Rattle.shape_answer.specs.Answers.{state_from}
use Rattle.prog_report.specs.Kept.{InOrder}
use Rattle.report.proofs.main.Given as goal

abbrev pub invariant-loop : goal.invariant-loop
invariant-loop l = record {
  kept : InOrder
      (state_from l.parent l.depth l.len l.run l.words l.node l.start l.end l.id l.stamp l.touched l.write l.pin_node l.pin_start l.pin_end l.pin_count l.marks
      l.bytes l.books)
      l.sums;
}
