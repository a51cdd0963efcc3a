-- `call_tally_bring::tally_insert` meets its contract: 2, the call near the limit, or the plain call with its sums added. Assumes nothing.
use native.Mathlib.Omega.{arith}
use Rattle.model.specs.State.{nodes_in, used_in}
use Rattle.shape_state.specs.Lent.{tree_of, ranges_of, pins_of, state_of}
use Rattle.shape_answer.specs.Lists.{out_list}
use Rattle.theory_refuse.proofs.Says.{says_yes}
use Rattle.theory_sums.proofs.Counted.{store_low, book-lent}
use Rattle.pool_sums.proofs.Listed.{outs_fit}
use Rattle.call_tally_bring.proofs.Bring.{brought_nowhere, brought-refused, brought-listed, brought_far, brought-made}
use Rattle.std.proofs.Common.{ap}
use mathlib.Core.Bool.{not}
use Rattle.call_tally_bring.proofs.tally_insert.Goals as goal

pub bounds-books-2 : goal.bounds-books-2
bounds-books-2 c = omega (arith, c.requires.0.lent.books)

pub returns-then-stores-s : goal.returns-then-stores-s
returns-then-stores-s c = brought_nowhere (state_of ((tree_of c.args.parent.now c.args.depth.now c.args.len.now c.args.run.now c.args.words.now) (nodes_in c.args.books.now) (used_in c.args.books.now)) (ranges_of c.args.node.now c.args.start.now c.args.end.now c.args.id.now c.args.stamp.now c.args.touched.now c.args.write.now) (pins_of c.args.pin_node.now c.args.pin_start.now c.args.pin_end.now c.args.pin_count.now) c.args.marks.now c.args.bytes.now c.args.books.now) (out_list c.args.out_node.now c.args.out_start.now c.args.out_end.now c.args.out_write.now c.args.out_bytes.now c.args.out_dead.now) c.args.sums.now c.args.s c.args.sp c.args.time c.args.w c.requires.2 c.requires.0 c.requires.1
    c.if-stores-s.true

pub far-requires : goal.far-requires
far-requires c = (store_low (state_of ((tree_of c.args.parent.now c.args.depth.now c.args.len.now c.args.run.now c.args.words.now) (nodes_in c.args.books.now) (used_in c.args.books.now)) (ranges_of c.args.node.now c.args.start.now c.args.end.now c.args.id.now c.args.stamp.now c.args.touched.now c.args.write.now) (pins_of c.args.pin_node.now c.args.pin_start.now c.args.pin_end.now c.args.pin_count.now) c.args.marks.now c.args.bytes.now c.args.books.now) c.args.s c.requires.0 c.if-stores-s.false, c.requires.2)

pub near_insert-requires : goal.near_insert-requires
near_insert-requires c = (c.requires.0, c.requires.1, c.requires.2, c.if-stores-s.false)

pub returns-then-not-far : goal.returns-then-not-far
returns-then-not-far c = c.near_insert.ensures

pub book_of-b-requires : goal.book_of-b-requires
book_of-b-requires c = book-lent (state_of ((tree_of c.args.parent.now c.args.depth.now c.args.len.now c.args.run.now c.args.words.now) (nodes_in c.args.books.now) (used_in c.args.books.now)) (ranges_of c.args.node.now c.args.start.now c.args.end.now c.args.id.now c.args.stamp.now c.args.touched.now c.args.write.now) (pins_of c.args.pin_node.now c.args.pin_start.now c.args.pin_end.now c.args.pin_count.now) c.args.marks.now c.args.bytes.now c.args.books.now) c.args.s c.requires.0 c.if-stores-s.false

pub store_insert-r-requires : goal.store_insert-r-requires
store_insert-r-requires c = (c.requires.0, c.requires.1)

pub out_sums-o-requires : goal.out_sums-o-requires
out_sums-o-requires c = brought-listed (state_of ((tree_of c.args.parent.now c.args.depth.now c.args.len.now c.args.run.now c.args.words.now) (nodes_in c.args.books.now) (used_in c.args.books.now)) (ranges_of c.args.node.now c.args.start.now c.args.end.now c.args.id.now c.args.stamp.now c.args.touched.now c.args.write.now) (pins_of c.args.pin_node.now c.args.pin_start.now c.args.pin_end.now c.args.pin_count.now) c.args.marks.now c.args.bytes.now c.args.books.now) (out_list c.args.out_node.now c.args.out_start.now c.args.out_end.now c.args.out_write.now c.args.out_bytes.now c.args.out_dead.now) c.args.sums.now c.args.s c.args.sp c.args.time c.args.w c.requires.2
    {st' = (state_of ((tree_of c.args.parent.now c.args.depth.now c.args.len.now c.args.run.now c.args.words.now) (nodes_in (c.store_insert-r.new.books)) (used_in (c.store_insert-r.new.books))) (ranges_of c.store_insert-r.new.node c.store_insert-r.new.start c.store_insert-r.new.end c.store_insert-r.new.id c.store_insert-r.new.stamp c.store_insert-r.new.touched c.store_insert-r.new.write) (pins_of c.args.pin_node.now c.args.pin_start.now c.args.pin_end.now c.args.pin_count.now) (c.store_insert-r.new.marks) c.args.bytes.now (c.store_insert-r.new.books))} {l' = (out_list c.store_insert-r.new.out_node c.store_insert-r.new.out_start c.store_insert-r.new.out_end c.store_insert-r.new.out_write c.store_insert-r.new.out_bytes c.store_insert-r.new.out_dead)} c.store_insert-r.result c.store_insert-r.ensures
    c.in-Done.a c.in-Done.is (outs_fit c.requires.1 c.store_insert-r.auto.out_node c.store_insert-r.auto.out_start c.store_insert-r.auto.out_end c.store_insert-r.auto.out_write c.store_insert-r.auto.out_bytes c.store_insert-r.auto.out_dead)

pub add_bring-requires : goal.add_bring-requires
add_bring-requires c = (store_low (state_of ((tree_of c.args.parent.now c.args.depth.now c.args.len.now c.args.run.now c.args.words.now) (nodes_in c.args.books.now) (used_in c.args.books.now)) (ranges_of c.args.node.now c.args.start.now c.args.end.now c.args.id.now c.args.stamp.now c.args.touched.now c.args.write.now) (pins_of c.args.pin_node.now c.args.pin_start.now c.args.pin_end.now c.args.pin_count.now) c.args.marks.now c.args.bytes.now c.args.books.now) c.args.s c.requires.0 c.if-stores-s.false, c.requires.2, (brought_far (state_of ((tree_of c.args.parent.now c.args.depth.now c.args.len.now c.args.run.now c.args.words.now) (nodes_in c.args.books.now) (used_in c.args.books.now)) (ranges_of c.args.node.now c.args.start.now c.args.end.now c.args.id.now c.args.stamp.now c.args.touched.now c.args.write.now) (pins_of c.args.pin_node.now c.args.pin_start.now c.args.pin_end.now c.args.pin_count.now) c.args.marks.now c.args.bytes.now c.args.books.now) (out_list c.args.out_node.now c.args.out_start.now c.args.out_end.now c.args.out_write.now c.args.out_bytes.now c.args.out_dead.now) c.args.sums.now c.args.s c.args.sp c.args.time c.args.w c.requires.2 {st' = (state_of ((tree_of c.args.parent.now c.args.depth.now c.args.len.now c.args.run.now c.args.words.now) (nodes_in (c.store_insert-r.new.books)) (used_in (c.store_insert-r.new.books))) (ranges_of c.store_insert-r.new.node c.store_insert-r.new.start c.store_insert-r.new.end c.store_insert-r.new.id c.store_insert-r.new.stamp c.store_insert-r.new.touched c.store_insert-r.new.write) (pins_of c.args.pin_node.now c.args.pin_start.now c.args.pin_end.now c.args.pin_count.now) (c.store_insert-r.new.marks) c.args.bytes.now (c.store_insert-r.new.books))} {l' = (out_list c.store_insert-r.new.out_node c.store_insert-r.new.out_start c.store_insert-r.new.out_end c.store_insert-r.new.out_write c.store_insert-r.new.out_bytes c.store_insert-r.new.out_dead)} c.store_insert-r.result c.store_insert-r.ensures c.in-Done.a c.in-Done.is c.book_of-b.result c.book_of-b.ensures c.out_sums-o.result c.out_sums-o.ensures (says_yes c.far.result (ap not c.if-not-far.false) c.far.ensures)))

pub returns-in-Refused : goal.returns-in-Refused
returns-in-Refused c = brought-refused (state_of ((tree_of c.args.parent.now c.args.depth.now c.args.len.now c.args.run.now c.args.words.now) (nodes_in c.args.books.now) (used_in c.args.books.now)) (ranges_of c.args.node.now c.args.start.now c.args.end.now c.args.id.now c.args.stamp.now c.args.touched.now c.args.write.now) (pins_of c.args.pin_node.now c.args.pin_start.now c.args.pin_end.now c.args.pin_count.now) c.args.marks.now c.args.bytes.now c.args.books.now) (out_list c.args.out_node.now c.args.out_start.now c.args.out_end.now c.args.out_write.now c.args.out_bytes.now c.args.out_dead.now) c.args.sums.now c.args.s c.args.sp c.args.time c.args.w c.requires.2
    {st' = (state_of ((tree_of c.args.parent.now c.args.depth.now c.args.len.now c.args.run.now c.args.words.now) (nodes_in (c.store_insert-r.new.books)) (used_in (c.store_insert-r.new.books))) (ranges_of c.store_insert-r.new.node c.store_insert-r.new.start c.store_insert-r.new.end c.store_insert-r.new.id c.store_insert-r.new.stamp c.store_insert-r.new.touched c.store_insert-r.new.write) (pins_of c.args.pin_node.now c.args.pin_start.now c.args.pin_end.now c.args.pin_count.now) (c.store_insert-r.new.marks) c.args.bytes.now (c.store_insert-r.new.books))} {l' = (out_list c.store_insert-r.new.out_node c.store_insert-r.new.out_start c.store_insert-r.new.out_end c.store_insert-r.new.out_write c.store_insert-r.new.out_bytes c.store_insert-r.new.out_dead)} c.store_insert-r.result c.store_insert-r.ensures
    c.in-Refused.n c.in-Refused.is

pub returns-in-Done : goal.returns-in-Done
returns-in-Done c = brought-made (state_of ((tree_of c.args.parent.now c.args.depth.now c.args.len.now c.args.run.now c.args.words.now) (nodes_in c.args.books.now) (used_in c.args.books.now)) (ranges_of c.args.node.now c.args.start.now c.args.end.now c.args.id.now c.args.stamp.now c.args.touched.now c.args.write.now) (pins_of c.args.pin_node.now c.args.pin_start.now c.args.pin_end.now c.args.pin_count.now) c.args.marks.now c.args.bytes.now c.args.books.now) (out_list c.args.out_node.now c.args.out_start.now c.args.out_end.now c.args.out_write.now c.args.out_bytes.now c.args.out_dead.now) c.args.sums.now c.args.s c.args.sp c.args.time c.args.w c.requires.2
    {st' = (state_of ((tree_of c.args.parent.now c.args.depth.now c.args.len.now c.args.run.now c.args.words.now) (nodes_in (c.store_insert-r.new.books)) (used_in (c.store_insert-r.new.books))) (ranges_of c.store_insert-r.new.node c.store_insert-r.new.start c.store_insert-r.new.end c.store_insert-r.new.id c.store_insert-r.new.stamp c.store_insert-r.new.touched c.store_insert-r.new.write) (pins_of c.args.pin_node.now c.args.pin_start.now c.args.pin_end.now c.args.pin_count.now) (c.store_insert-r.new.marks) c.args.bytes.now (c.store_insert-r.new.books))} {l' = (out_list c.store_insert-r.new.out_node c.store_insert-r.new.out_start c.store_insert-r.new.out_end c.store_insert-r.new.out_write c.store_insert-r.new.out_bytes c.store_insert-r.new.out_dead)} c.store_insert-r.result c.store_insert-r.ensures
    c.in-Done.a c.in-Done.is c.book_of-b.result c.book_of-b.ensures
    c.out_sums-o.result c.out_sums-o.ensures
    (brought_far (state_of ((tree_of c.args.parent.now c.args.depth.now c.args.len.now c.args.run.now c.args.words.now) (nodes_in c.args.books.now) (used_in c.args.books.now)) (ranges_of c.args.node.now c.args.start.now c.args.end.now c.args.id.now c.args.stamp.now c.args.touched.now c.args.write.now) (pins_of c.args.pin_node.now c.args.pin_start.now c.args.pin_end.now c.args.pin_count.now) c.args.marks.now c.args.bytes.now c.args.books.now) (out_list c.args.out_node.now c.args.out_start.now c.args.out_end.now c.args.out_write.now c.args.out_bytes.now c.args.out_dead.now) c.args.sums.now c.args.s c.args.sp c.args.time c.args.w c.requires.2 {st' = (state_of ((tree_of c.args.parent.now c.args.depth.now c.args.len.now c.args.run.now c.args.words.now) (nodes_in (c.store_insert-r.new.books)) (used_in (c.store_insert-r.new.books))) (ranges_of c.store_insert-r.new.node c.store_insert-r.new.start c.store_insert-r.new.end c.store_insert-r.new.id c.store_insert-r.new.stamp c.store_insert-r.new.touched c.store_insert-r.new.write) (pins_of c.args.pin_node.now c.args.pin_start.now c.args.pin_end.now c.args.pin_count.now) (c.store_insert-r.new.marks) c.args.bytes.now (c.store_insert-r.new.books))} {l' = (out_list c.store_insert-r.new.out_node c.store_insert-r.new.out_start c.store_insert-r.new.out_end c.store_insert-r.new.out_write c.store_insert-r.new.out_bytes c.store_insert-r.new.out_dead)} c.store_insert-r.result c.store_insert-r.ensures c.in-Done.a c.in-Done.is c.book_of-b.result c.book_of-b.ensures c.out_sums-o.result c.out_sums-o.ensures (says_yes c.far.result (ap not c.if-not-far.false) c.far.ensures)) c.add_bring.ensures
