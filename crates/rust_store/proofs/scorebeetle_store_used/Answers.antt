-- `rust_store::scorebeetle_store_used` meets its contract: refused by 1, by 2 or 3 with more than 64 spans, or the call on the array. Assumes nothing.
use mathlib.Core.Path.{refl, ap, ◌∙◌}
use native.Mathlib.Omega.{arith}
use Rattle.model.specs.Calls.{refused, store_used}
use Rattle.theory_refuse.proofs.Says.{says_yes, says_no}
use Rattle.theory_outcome.proofs.Gates.{store_used-unsound}
use Rattle.shape_answer.specs.Answers.{state_from, store_used_of}
use Rattle.rust_values.specs.Told.{touch_at, touch_values}
use Rattle.rust_values.specs.Spans.{spans_of}
use Rattle.rust_values.proofs.Telling.{telling, touch-told, store_used-numbered}
use Rattle.rust_values.proofs.Front.{all_in_front, too_many-is}
use mathlib.Core.Bool.{not}
use Rattle.rust_store.proofs.scorebeetle_store_used.Goals as goal

pub state_is_sound-requires : goal.state_is_sound-requires
state_is_sound-requires c = c.requires.1

pub returns-then-not-state_is_sound : goal.returns-then-not-state_is_sound
returns-then-not-state_is_sound c = let spans = spans_of c.args.on.now c.args.from.now c.args.upto.now in
    let e = store_used-unsound ((state_from c.args.parent.now c.args.depth.now c.args.len.now c.args.run.now c.args.words.now c.args.node.now c.args.start.now c.args.end.now c.args.id.now c.args.stamp.now c.args.touched.now c.args.write.now c.args.pin_node.now c.args.pin_start.now c.args.pin_end.now c.args.pin_count.now c.args.marks.now c.args.bytes.now c.args.books.now)) (says_no c.state_is_sound.result (ap not c.if-not-state_is_sound.true) c.state_is_sound.ensures) c.args.s spans c.args.time c.args.counted in
    telling touch_at touch_values (refused 1) (touch-told _) c.args.answer.now e (store_used-numbered ((state_from c.args.parent.now c.args.depth.now c.args.len.now c.args.run.now c.args.words.now c.args.node.now c.args.start.now c.args.end.now c.args.id.now c.args.stamp.now c.args.touched.now c.args.write.now c.args.pin_node.now c.args.pin_start.now c.args.pin_end.now c.args.pin_count.now c.args.marks.now c.args.bytes.now c.args.books.now)) c.args.s spans c.args.time c.args.counted) c.requires.0 refl refl

pub bounds-books-2 : goal.bounds-books-2
bounds-books-2 c = let h = (says_yes c.state_is_sound.result (ap not c.if-not-state_is_sound.false) c.state_is_sound.ensures) in
    omega (arith, h.lent.books)

pub returns-then-n-gt64 : goal.returns-then-n-gt64
returns-then-n-gt64 c = let spans = spans_of c.args.on.now c.args.from.now c.args.upto.now in
    let e = too_many-is ((state_from c.args.parent.now c.args.depth.now c.args.len.now c.args.run.now c.args.words.now c.args.node.now c.args.start.now c.args.end.now c.args.id.now c.args.stamp.now c.args.touched.now c.args.write.now c.args.pin_node.now c.args.pin_start.now c.args.pin_end.now c.args.pin_count.now c.args.marks.now c.args.bytes.now c.args.books.now)) (says_yes c.state_is_sound.result (ap not c.if-not-state_is_sound.false) c.state_is_sound.ensures) c.args.s spans c.args.time c.args.counted (omega (arith, c.count-n.ensures, c.if-n-gt64.true)) c.too_many.ensures in
    telling touch_at touch_values (refused c.too_many.result) (touch-told _) c.args.answer.now e (store_used-numbered ((state_from c.args.parent.now c.args.depth.now c.args.len.now c.args.run.now c.args.words.now c.args.node.now c.args.start.now c.args.end.now c.args.id.now c.args.stamp.now c.args.touched.now c.args.write.now c.args.pin_node.now c.args.pin_start.now c.args.pin_end.now c.args.pin_count.now c.args.marks.now c.args.bytes.now c.args.books.now)) c.args.s spans c.args.time c.args.counted) c.requires.0 refl refl

pub store_used_array-r-requires : goal.store_used_array-r-requires
store_used_array-r-requires c = ((says_yes c.state_is_sound.result (ap not c.if-not-state_is_sound.false) c.state_is_sound.ensures), c.if-n-gt64.false)

pub returns : goal.returns
returns c = let k = c.store_used_array-r in
    let spans = spans_of c.args.on.now c.args.from.now c.args.upto.now in
    let all = all_in_front spans c.first_64-spans.result c.count-n.ensures c.if-n-gt64.false c.first_64-spans.ensures in
    let e = k.ensures ∙ ap (λ sps. store_used ((state_from c.args.parent.now c.args.depth.now c.args.len.now c.args.run.now c.args.words.now c.args.node.now c.args.start.now c.args.end.now c.args.id.now c.args.stamp.now c.args.touched.now c.args.write.now c.args.pin_node.now c.args.pin_start.now c.args.pin_end.now c.args.pin_count.now c.args.marks.now c.args.bytes.now c.args.books.now)) c.args.s sps c.args.time c.args.counted) all in
    telling touch_at touch_values (store_used_of k.result) (touch-told _) c.args.answer.now e (store_used-numbered ((state_from c.args.parent.now c.args.depth.now c.args.len.now c.args.run.now c.args.words.now c.args.node.now c.args.start.now c.args.end.now c.args.id.now c.args.stamp.now c.args.touched.now c.args.write.now c.args.pin_node.now c.args.pin_start.now c.args.pin_end.now c.args.pin_count.now c.args.marks.now c.args.bytes.now c.args.books.now)) c.args.s spans c.args.time c.args.counted) c.requires.0 c.store_used.ensures.0 c.store_used.ensures.1
