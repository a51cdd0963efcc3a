-- `call_insert::insert` meets its contract: the tests of 01 in their order, then the rest of the call.
-- Assumes nothing.
use native.Mathlib.Nat.{le_refl}
use Rattle.model.specs.State.{used_in}
use Rattle.shape_state.specs.Lent.{ranges_of, pins_of}
use Rattle.shape_answer.specs.Answers.{state_from}
use Rattle.shape_answer.specs.Lists.{path_list_of}
use Rattle.rule_resolve.proofs.Sound.{sound_walkable}
use Rattle.call_insert.proofs.Laws.{many-refused, shown, number-refused, passed}
use Rattle.call_insert.proofs.insert.Goals as goal

pub returns-then-count-gt1024 : goal.returns-then-count-gt1024
returns-then-count-gt1024 c = many-refused (state_from c.args.parent.now c.args.depth.now c.args.len.now c.args.run.now c.args.words.now c.args.node.now c.args.start.now c.args.end.now c.args.id.now c.args.stamp.now c.args.touched.now c.args.write.now c.args.pin_node.now c.args.pin_start.now c.args.pin_end.now c.args.pin_count.now c.args.marks.now c.args.bytes.now c.args.books.now) (path_list_of c.args.path_node.now c.args.path_len.now) c.args.hashes.now c.requires.0 c.requires.1 c.if-count-gt1024.true

pub resolve-m-requires : goal.resolve-m-requires
resolve-m-requires c = let a = c.args in
    record { by_index = (a.depth.now, used_in a.books.now, sound_walkable (state_from c.args.parent.now c.args.depth.now c.args.len.now c.args.run.now c.args.words.now c.args.node.now c.args.start.now c.args.end.now c.args.id.now c.args.stamp.now c.args.touched.now c.args.write.now c.args.pin_node.now c.args.pin_start.now c.args.pin_end.now c.args.pin_count.now c.args.marks.now c.args.bytes.now c.args.books.now) c.requires.0); path_fits = record { node = le_refl 255; len = le_refl 255 } }

pub refusal-number-requires : goal.refusal-number-requires
refusal-number-requires c = let a = c.args in
    let r = c.resolve-m in
    ((state_from c.args.parent.now c.args.depth.now c.args.len.now c.args.run.now c.args.words.now c.args.node.now c.args.start.now c.args.end.now c.args.id.now c.args.stamp.now c.args.touched.now c.args.write.now c.args.pin_node.now c.args.pin_start.now c.args.pin_end.now c.args.pin_count.now c.args.marks.now c.args.bytes.now c.args.books.now), a.hashes.now, shown a.parent.now a.depth.now a.len.now a.run.now a.words.now (ranges_of a.node.now a.start.now a.end.now a.id.now a.stamp.now a.touched.now a.write.now) (pins_of a.pin_node.now a.pin_start.now a.pin_end.now a.pin_count.now) a.marks.now a.bytes.now a.books.now a.hashes.now r.result c.requires.0 c.if-count-gt1024.false (r.ensures a.depth.now (used_in a.books.now)).answer)

pub returns-then-number-ne0 : goal.returns-then-number-ne0
returns-then-number-ne0 c = let a = c.args in
    let r = c.resolve-m in
    let f = c.refusal-number in
    number-refused (state_from c.args.parent.now c.args.depth.now c.args.len.now c.args.run.now c.args.words.now c.args.node.now c.args.start.now c.args.end.now c.args.id.now c.args.stamp.now c.args.touched.now c.args.write.now c.args.pin_node.now c.args.pin_start.now c.args.pin_end.now c.args.pin_count.now c.args.marks.now c.args.bytes.now c.args.books.now) (path_list_of c.args.path_node.now c.args.path_len.now) a.hashes.now c.requires.0 c.requires.1 c.if-count-gt1024.false f.result (f.ensures (state_from c.args.parent.now c.args.depth.now c.args.len.now c.args.run.now c.args.words.now c.args.node.now c.args.start.now c.args.end.now c.args.id.now c.args.stamp.now c.args.touched.now c.args.write.now c.args.pin_node.now c.args.pin_start.now c.args.pin_end.now c.args.pin_count.now c.args.marks.now c.args.bytes.now c.args.books.now) a.hashes.now (shown a.parent.now a.depth.now a.len.now a.run.now a.words.now (ranges_of a.node.now a.start.now a.end.now a.id.now a.stamp.now a.touched.now a.write.now) (pins_of a.pin_node.now a.pin_start.now a.pin_end.now a.pin_count.now) a.marks.now a.bytes.now a.books.now a.hashes.now r.result c.requires.0 c.if-count-gt1024.false (r.ensures a.depth.now (used_in a.books.now)).answer)) c.if-number-ne0.true

pub insert_found-requires : goal.insert_found-requires
insert_found-requires c = let a = c.args in
    let r = c.resolve-m in
    let f = c.refusal-number in
    passed (state_from c.args.parent.now c.args.depth.now c.args.len.now c.args.run.now c.args.words.now c.args.node.now c.args.start.now c.args.end.now c.args.id.now c.args.stamp.now c.args.touched.now c.args.write.now c.args.pin_node.now c.args.pin_start.now c.args.pin_end.now c.args.pin_count.now c.args.marks.now c.args.bytes.now c.args.books.now) (path_list_of c.args.path_node.now c.args.path_len.now) a.hashes.now c.requires.0 c.requires.1 c.if-count-gt1024.false f.result (f.ensures (state_from c.args.parent.now c.args.depth.now c.args.len.now c.args.run.now c.args.words.now c.args.node.now c.args.start.now c.args.end.now c.args.id.now c.args.stamp.now c.args.touched.now c.args.write.now c.args.pin_node.now c.args.pin_start.now c.args.pin_end.now c.args.pin_count.now c.args.marks.now c.args.bytes.now c.args.books.now) a.hashes.now (shown a.parent.now a.depth.now a.len.now a.run.now a.words.now (ranges_of a.node.now a.start.now a.end.now a.id.now a.stamp.now a.touched.now a.write.now) (pins_of a.pin_node.now a.pin_start.now a.pin_end.now a.pin_count.now) a.marks.now a.bytes.now a.books.now a.hashes.now r.result c.requires.0 c.if-count-gt1024.false (r.ensures a.depth.now (used_in a.books.now)).answer)) (path_list_of r.new.path_node r.new.path_len) r.result c.if-number-ne0.false
    (r.ensures a.depth.now (used_in a.books.now))
