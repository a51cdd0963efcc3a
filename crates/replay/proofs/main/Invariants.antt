-- From line to line the state is sound once a set-up was accepted, and the answers that wait leave room for one more.
use Rattle.std.proofs.Common.{◌≤◌, length}
use Rattle.shape_answer.specs.Answers.{state_from}
use Rattle.prog_tree.specs.Between.{SoundIfSetUp}
use Rattle.replay.proofs.main.Given as goal

abbrev pub invariant-loop : goal.invariant-loop
invariant-loop l = record {
  sound : SoundIfSetUp
      (state_from l.parent l.depth l.len l.run l.words l.node l.start l.end l.id l.stamp l.touched l.write l.pin_node l.pin_start l.pin_end l.pin_count l.marks
      l.bytes l.books);
  low : length l.page ≤ 500000;
}
