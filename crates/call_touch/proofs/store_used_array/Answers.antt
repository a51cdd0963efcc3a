-- `call_touch::store_used_array` meets its contract: the tests before the turns, then the turns; with room for all of them none is refused, and without it the part is kept. Assumes nothing.
use mathlib.Core.Path.{refl}
use lib.ListN.{take}
use Rattle.shape_state.specs.Lent.{ranges_of}
use Rattle.theory_refuse.proofs.Says.{says_true}
use Rattle.call_touch_span.proofs.Laws.{stands_read}
use Rattle.call_touch.proofs.Laws.{others}
use Rattle.call_touch.proofs.Running.{start-long, start-counts, start-refused, start-runs, room_array, roomy-none, went_done}
use Rattle.call_touch.proofs.store_used_array.Goals as goal

pub returns-then-number-ne0 : goal.returns-then-number-ne0
returns-then-number-ne0 c =
    let o = others c.args.parent.now c.args.len.now c.args.run.now c.args.words.now c.args.pin_node.now c.args.pin_start.now c.args.pin_end.now c.args.pin_count.now in
    let old = ranges_of c.args.node.now c.args.start.now c.args.end.now c.args.id.now c.args.stamp.now c.args.touched.now c.args.write.now in
    start-refused o c.args.books.now (take c.args.count c.args.spans) c.args.depth.now c.args.bytes.now old c.args.marks.now c.args.s c.args.time c.args.counted c.first_refusal-number.result c.requires.0 c.first_refusal-number.ensures c.if-number-ne0.true

pub book_of-b-requires : goal.book_of-b-requires
book_of-b-requires c =
    let o = others c.args.parent.now c.args.len.now c.args.run.now c.args.words.now c.args.pin_node.now c.args.pin_start.now c.args.pin_end.now c.args.pin_count.now in
    let old = ranges_of c.args.node.now c.args.start.now c.args.end.now c.args.id.now c.args.stamp.now c.args.touched.now c.args.write.now in
    start-long o c.args.books.now (take c.args.count c.args.spans) c.args.depth.now c.args.bytes.now old c.args.marks.now c.args.s c.args.time c.args.counted c.first_refusal-number.result c.requires.0 c.first_refusal-number.ensures c.if-number-ne0.false

pub roomy-requires : goal.roomy-requires
roomy-requires c =
    let o = others c.args.parent.now c.args.len.now c.args.run.now c.args.words.now c.args.pin_node.now c.args.pin_start.now c.args.pin_end.now c.args.pin_count.now in
    let old = ranges_of c.args.node.now c.args.start.now c.args.end.now c.args.id.now c.args.stamp.now c.args.touched.now c.args.write.now in
    let k = start-counts o c.args.books.now (take c.args.count c.args.spans) c.args.depth.now c.args.bytes.now old c.args.marks.now c.args.s c.args.time c.args.counted c.first_refusal-number.result c.requires.0 c.first_refusal-number.ensures c.if-number-ne0.false c.book_of-b.result c.book_of-b.ensures in
    (c.requires.1, k.0, k.1, k.2)

pub touch_kept-requires : goal.touch_kept-requires
touch_kept-requires c =
    let o = others c.args.parent.now c.args.len.now c.args.run.now c.args.words.now c.args.pin_node.now c.args.pin_start.now c.args.pin_end.now c.args.pin_count.now in
    let old = ranges_of c.args.node.now c.args.start.now c.args.end.now c.args.id.now c.args.stamp.now c.args.touched.now c.args.write.now in
    (record { others = o; books = c.args.books.now; starts = (start-runs o c.args.books.now (take c.args.count c.args.spans) c.args.depth.now c.args.bytes.now old c.args.marks.now c.args.s c.args.time c.args.counted c.first_refusal-number.result c.requires.0 c.first_refusal-number.ensures c.if-number-ne0.false _ _ (stands_read c.args.s c.args.books.now c.book_of-b.result c.book_of-b.ensures) refl refl) }, c.requires.1, c.requires.0.lent.books)

pub returns-then-not-roomy : goal.returns-then-not-roomy
returns-then-not-roomy c =
    let o = others c.args.parent.now c.args.len.now c.args.run.now c.args.words.now c.args.pin_node.now c.args.pin_start.now c.args.pin_end.now c.args.pin_count.now in
    let old = ranges_of c.args.node.now c.args.start.now c.args.end.now c.args.id.now c.args.stamp.now c.args.touched.now c.args.write.now in
    c.touch_kept.ensures o (start-runs o c.args.books.now (take c.args.count c.args.spans) c.args.depth.now c.args.bytes.now old c.args.marks.now c.args.s c.args.time c.args.counted c.first_refusal-number.result c.requires.0 c.first_refusal-number.ensures c.if-number-ne0.false _ _ (stands_read c.args.s c.args.books.now c.book_of-b.result c.book_of-b.ensures) refl refl)

pub take_turns-z-requires : goal.take_turns-z-requires
take_turns-z-requires c =
    let o = others c.args.parent.now c.args.len.now c.args.run.now c.args.words.now c.args.pin_node.now c.args.pin_start.now c.args.pin_end.now c.args.pin_count.now in
    let old = ranges_of c.args.node.now c.args.start.now c.args.end.now c.args.id.now c.args.stamp.now c.args.touched.now c.args.write.now in
    (record { others = o; books = c.args.books.now; starts = (start-runs o c.args.books.now (take c.args.count c.args.spans) c.args.depth.now c.args.bytes.now old c.args.marks.now c.args.s c.args.time c.args.counted c.first_refusal-number.result c.requires.0 c.first_refusal-number.ensures c.if-number-ne0.false _ _ (stands_read c.args.s c.args.books.now c.book_of-b.result c.book_of-b.ensures) refl refl) }, c.requires.1)

pub put_run-requires : goal.put_run-requires
put_run-requires c =
    let o = others c.args.parent.now c.args.len.now c.args.run.now c.args.words.now c.args.pin_node.now c.args.pin_start.now c.args.pin_end.now c.args.pin_count.now in
    let old = ranges_of c.args.node.now c.args.start.now c.args.end.now c.args.id.now c.args.stamp.now c.args.touched.now c.args.write.now in
    start-long o c.args.books.now (take c.args.count c.args.spans) c.args.depth.now c.args.bytes.now old c.args.marks.now c.args.s c.args.time c.args.counted c.first_refusal-number.result c.requires.0 c.first_refusal-number.ensures c.if-number-ne0.false

pub returns : goal.returns
returns c =
    let o = others c.args.parent.now c.args.len.now c.args.run.now c.args.words.now c.args.pin_node.now c.args.pin_start.now c.args.pin_end.now c.args.pin_count.now in
    let old = ranges_of c.args.node.now c.args.start.now c.args.end.now c.args.id.now c.args.stamp.now c.args.touched.now c.args.write.now in
    let k = c.take_turns-z in
    let new = ranges_of k.new.node k.new.start k.new.end k.new.id k.new.stamp k.new.touched k.new.write in
    let q = (start-runs o c.args.books.now (take c.args.count c.args.spans) c.args.depth.now c.args.bytes.now old c.args.marks.now c.args.s c.args.time c.args.counted c.first_refusal-number.result c.requires.0 c.first_refusal-number.ensures c.if-number-ne0.false _ _ (stands_read c.args.s c.args.books.now c.book_of-b.result c.book_of-b.ensures) refl refl) in
    let w = k.ensures o c.args.books.now q in
    let room = room_array c.args.spans (says_true c.if-not-roomy.false c.roomy.ensures) in
    went_done o c.args.books.now (take c.args.count c.args.spans) c.args.depth.now c.args.bytes.now old c.args.marks.now c.args.s _ c.args.time c.args.counted _ q
    new k.new.marks k.result w c.put_run.new.books c.put_run.ensures
    (roomy-none o c.args.books.now (take c.args.count c.args.spans) c.args.depth.now c.args.bytes.now old c.args.marks.now c.args.s _ c.args.time c.args.counted _ q
    new k.new.marks k.result w room)
