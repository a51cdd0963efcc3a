-- `rust_store::scorebeetle_counter` meets its contract: refused by 1, or the counter of the books, told as a number and a list. Assumes nothing.
use mathlib.Core.Path.{refl}
use Rattle.model.specs.Calls.{refused}
use Rattle.theory_refuse.proofs.Says.{says_yes, says_no}
use Rattle.shape_answer.specs.Answers.{state_from, count_of}
use Rattle.rust_values.specs.Told.{count_at, count_values}
use Rattle.rust_values.proofs.Telling.{telling, count-told}
use Rattle.rust_values.proofs.Counter.{counter_numbered, counter_whole, counter_unsound}
use Rattle.std.proofs.Common.{ap}
use mathlib.Core.Bool.{not}
use Rattle.rust_store.proofs.scorebeetle_counter.Goals as goal

pub state_is_sound-requires : goal.state_is_sound-requires
state_is_sound-requires c = c.requires.1

pub returns-then-not-state_is_sound : goal.returns-then-not-state_is_sound
returns-then-not-state_is_sound c = let e = counter_unsound c.args.which ((state_from c.args.parent.now c.args.depth.now c.args.len.now c.args.run.now c.args.words.now c.args.node.now c.args.start.now c.args.end.now c.args.id.now c.args.stamp.now c.args.touched.now c.args.write.now c.args.pin_node.now c.args.pin_start.now c.args.pin_end.now c.args.pin_count.now c.args.marks.now c.args.bytes.now c.args.books.now)) c.args.s (says_no c.state_is_sound.result (ap not c.if-not-state_is_sound.true) c.state_is_sound.ensures) in
    telling count_at count_values (refused 1) (count-told _) c.args.answer.now e (counter_numbered c.args.which ((state_from c.args.parent.now c.args.depth.now c.args.len.now c.args.run.now c.args.words.now c.args.node.now c.args.start.now c.args.end.now c.args.id.now c.args.stamp.now c.args.touched.now c.args.write.now c.args.pin_node.now c.args.pin_start.now c.args.pin_end.now c.args.pin_count.now c.args.marks.now c.args.bytes.now c.args.books.now)) c.args.s) c.requires.0 refl refl

pub counter_of-a-requires : goal.counter_of-a-requires
counter_of-a-requires c = let h = (says_yes c.state_is_sound.result (ap not c.if-not-state_is_sound.false) c.state_is_sound.ensures) in
    (h.counts.stores, h.lent.books)

pub returns : goal.returns
returns c = let k = c.counter_of-a in
    let e = counter_whole c.args.which ((state_from c.args.parent.now c.args.depth.now c.args.len.now c.args.run.now c.args.words.now c.args.node.now c.args.start.now c.args.end.now c.args.id.now c.args.stamp.now c.args.touched.now c.args.write.now c.args.pin_node.now c.args.pin_start.now c.args.pin_end.now c.args.pin_count.now c.args.marks.now c.args.bytes.now c.args.books.now)) c.args.s (k.ensures ((state_from c.args.parent.now c.args.depth.now c.args.len.now c.args.run.now c.args.words.now c.args.node.now c.args.start.now c.args.end.now c.args.id.now c.args.stamp.now c.args.touched.now c.args.write.now c.args.pin_node.now c.args.pin_start.now c.args.pin_end.now c.args.pin_count.now c.args.marks.now c.args.bytes.now c.args.books.now)) refl (says_yes c.state_is_sound.result (ap not c.if-not-state_is_sound.false) c.state_is_sound.ensures)) in
    telling count_at count_values (count_of k.result) (count-told _) c.args.answer.now e (counter_numbered c.args.which ((state_from c.args.parent.now c.args.depth.now c.args.len.now c.args.run.now c.args.words.now c.args.node.now c.args.start.now c.args.end.now c.args.id.now c.args.stamp.now c.args.touched.now c.args.write.now c.args.pin_node.now c.args.pin_start.now c.args.pin_end.now c.args.pin_count.now c.args.marks.now c.args.bytes.now c.args.books.now)) c.args.s) c.requires.0 c.count.ensures.0 c.count.ensures.1
