-- `public_start::start_touch` meets its contract: the test says whether the state is sound, and nothing is written. Assumes nothing.
use mathlib.Core.Path.{refl}
use Rattle.shape_answer.specs.Answers.{state_from}
use Rattle.public_start.proofs.Laws.{begin_asks, started-begun, started-stopped}
use Rattle.public_start.proofs.start_touch.Goals as goal

pub begin-requires : goal.begin-requires
begin-requires c = begin_asks (state_from c.args.parent.now c.args.depth.now c.args.len.now c.args.run.now c.args.words.now c.args.node.now c.args.start.now c.args.end.now c.args.id.now c.args.stamp.now c.args.touched.now c.args.write.now c.args.pin_node.now c.args.pin_start.now c.args.pin_end.now c.args.pin_count.now c.args.marks.now c.args.bytes.now c.args.books.now) c.sound_state.ensures c.if-sound_state.true

pub returns-then-sound_state : goal.returns-then-sound_state
returns-then-sound_state c = (started-begun c.sound_state.ensures c.if-sound_state.true c.begin.ensures, refl, refl, refl, refl, refl, refl, refl, refl, refl)

pub returns : goal.returns
returns c = (started-stopped c.sound_state.ensures c.if-sound_state.false c.stop.ensures, refl, refl, refl, refl, refl, refl, refl, refl, refl)
