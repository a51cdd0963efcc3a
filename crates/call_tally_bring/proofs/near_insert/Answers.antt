-- `call_tally_bring::near_insert` meets its contract: it is the plain call, with its sums added or put back. Assumes nothing.
use mathlib.Core.Path.{sym, ◌∙◌}
use native.Mathlib.Omega.{arith}
use Rattle.model.specs.State.{nodes_in, used_in}
use Rattle.shape_state.specs.Lent.{tree_of, ranges_of, pins_of, state_of}
use Rattle.shape_answer.specs.Lists.{out_list}
use Rattle.theory_sums.proofs.Counted.{store_low, book-lent, part-lent}
use Rattle.pool_sums.proofs.Listed.{outs_fit}
use Rattle.call_tally_bring.proofs.Bring.{brought-refused, brought-listed, brought-made, brought-sound, brought-late}
use Rattle.call_tally_bring.proofs.near_insert.Goals as goal

pub book_of-b-requires : goal.book_of-b-requires
book_of-b-requires c = book-lent (state_of ((tree_of c.args.parent.now c.args.depth.now c.args.len.now c.args.run.now c.args.words.now) (nodes_in c.args.books.now) (used_in c.args.books.now)) (ranges_of c.args.node.now c.args.start.now c.args.end.now c.args.id.now c.args.stamp.now c.args.touched.now c.args.write.now) (pins_of c.args.pin_node.now c.args.pin_start.now c.args.pin_end.now c.args.pin_count.now) c.args.marks.now c.args.bytes.now c.args.books.now) c.args.s c.requires.0 c.requires.3

pub bounds-books-3 : goal.bounds-books-3
bounds-books-3 c = omega (arith, c.requires.0.lent.books)

pub bounds-books-4 : goal.bounds-books-4
bounds-books-4 c = omega (arith, c.requires.0.lent.books)

pub keep-old-requires : goal.keep-old-requires
keep-old-requires c = part-lent (state_of ((tree_of c.args.parent.now c.args.depth.now c.args.len.now c.args.run.now c.args.words.now) (nodes_in c.args.books.now) (used_in c.args.books.now)) (ranges_of c.args.node.now c.args.start.now c.args.end.now c.args.id.now c.args.stamp.now c.args.touched.now c.args.write.now) (pins_of c.args.pin_node.now c.args.pin_start.now c.args.pin_end.now c.args.pin_count.now) c.args.marks.now c.args.bytes.now c.args.books.now) c.args.s c.requires.0 c.requires.3

pub keep_outs-kept-requires : goal.keep_outs-kept-requires
keep_outs-kept-requires c = c.requires.1

pub store_insert-r-requires : goal.store_insert-r-requires
store_insert-r-requires c = (c.requires.0, c.requires.1)

pub out_sums-o-requires : goal.out_sums-o-requires
out_sums-o-requires c = brought-listed (state_of ((tree_of c.args.parent.now c.args.depth.now c.args.len.now c.args.run.now c.args.words.now) (nodes_in c.args.books.now) (used_in c.args.books.now)) (ranges_of c.args.node.now c.args.start.now c.args.end.now c.args.id.now c.args.stamp.now c.args.touched.now c.args.write.now) (pins_of c.args.pin_node.now c.args.pin_start.now c.args.pin_end.now c.args.pin_count.now) c.args.marks.now c.args.bytes.now c.args.books.now) (out_list c.args.out_node.now c.args.out_start.now c.args.out_end.now c.args.out_write.now c.args.out_bytes.now c.args.out_dead.now) c.args.sums.now c.args.s c.args.sp c.args.time c.args.w c.requires.2
    {st' = (state_of ((tree_of c.args.parent.now c.args.depth.now c.args.len.now c.args.run.now c.args.words.now) (nodes_in (c.store_insert-r.new.books)) (used_in (c.store_insert-r.new.books))) (ranges_of c.store_insert-r.new.node c.store_insert-r.new.start c.store_insert-r.new.end c.store_insert-r.new.id c.store_insert-r.new.stamp c.store_insert-r.new.touched c.store_insert-r.new.write) (pins_of c.args.pin_node.now c.args.pin_start.now c.args.pin_end.now c.args.pin_count.now) (c.store_insert-r.new.marks) c.args.bytes.now (c.store_insert-r.new.books))} {l' = (out_list c.store_insert-r.new.out_node c.store_insert-r.new.out_start c.store_insert-r.new.out_end c.store_insert-r.new.out_write c.store_insert-r.new.out_bytes c.store_insert-r.new.out_dead)} c.store_insert-r.result c.store_insert-r.ensures
    c.in-Done.a c.in-Done.is (outs_fit c.requires.1 c.store_insert-r.auto.out_node c.store_insert-r.auto.out_start c.store_insert-r.auto.out_end c.store_insert-r.auto.out_write c.store_insert-r.auto.out_bytes c.store_insert-r.auto.out_dead)

pub bring_passes-requires : goal.bring_passes-requires
bring_passes-requires c = (store_low (state_of ((tree_of c.args.parent.now c.args.depth.now c.args.len.now c.args.run.now c.args.words.now) (nodes_in c.args.books.now) (used_in c.args.books.now)) (ranges_of c.args.node.now c.args.start.now c.args.end.now c.args.id.now c.args.stamp.now c.args.touched.now c.args.write.now) (pins_of c.args.pin_node.now c.args.pin_start.now c.args.pin_end.now c.args.pin_count.now) c.args.marks.now c.args.bytes.now c.args.books.now) c.args.s c.requires.0 c.requires.3, c.requires.2)

pub undo_store-requires : goal.undo_store-requires
undo_store-requires c = let lent = (brought-sound (tree_of c.args.parent.now c.args.depth.now c.args.len.now c.args.run.now c.args.words.now) (pins_of c.args.pin_node.now c.args.pin_start.now c.args.pin_end.now c.args.pin_count.now) c.args.bytes.now (ranges_of c.args.node.now c.args.start.now c.args.end.now c.args.id.now c.args.stamp.now c.args.touched.now c.args.write.now) (ranges_of c.store_insert-r.new.node c.store_insert-r.new.start c.store_insert-r.new.end c.store_insert-r.new.id c.store_insert-r.new.stamp c.store_insert-r.new.touched c.store_insert-r.new.write) c.args.marks.now (c.store_insert-r.new.marks) c.args.books.now (c.store_insert-r.new.books)
    (out_list c.args.out_node.now c.args.out_start.now c.args.out_end.now c.args.out_write.now c.args.out_bytes.now c.args.out_dead.now) (out_list c.store_insert-r.new.out_node c.store_insert-r.new.out_start c.store_insert-r.new.out_end c.store_insert-r.new.out_write c.store_insert-r.new.out_bytes c.store_insert-r.new.out_dead) c.args.s c.args.sp c.args.time c.args.w c.requires.0 c.store_insert-r.result c.store_insert-r.ensures).lent in
    (store_low (state_of ((tree_of c.args.parent.now c.args.depth.now c.args.len.now c.args.run.now c.args.words.now) (nodes_in c.args.books.now) (used_in c.args.books.now)) (ranges_of c.args.node.now c.args.start.now c.args.end.now c.args.id.now c.args.stamp.now c.args.touched.now c.args.write.now) (pins_of c.args.pin_node.now c.args.pin_start.now c.args.pin_end.now c.args.pin_count.now) c.args.marks.now c.args.bytes.now c.args.books.now) c.args.s c.requires.0 c.requires.3, lent.ranges, lent.marks, lent.books)

pub undo_outs-requires : goal.undo_outs-requires
undo_outs-requires c = (outs_fit c.requires.1 c.store_insert-r.auto.out_node c.store_insert-r.auto.out_start c.store_insert-r.auto.out_end c.store_insert-r.auto.out_write c.store_insert-r.auto.out_bytes c.store_insert-r.auto.out_dead)

pub returns-then-bring_passes : goal.returns-then-bring_passes
returns-then-bring_passes c = brought-late (tree_of c.args.parent.now c.args.depth.now c.args.len.now c.args.run.now c.args.words.now) (pins_of c.args.pin_node.now c.args.pin_start.now c.args.pin_end.now c.args.pin_count.now) c.args.bytes.now (ranges_of c.args.node.now c.args.start.now c.args.end.now c.args.id.now c.args.stamp.now c.args.touched.now c.args.write.now) (ranges_of c.store_insert-r.new.node c.store_insert-r.new.start c.store_insert-r.new.end c.store_insert-r.new.id c.store_insert-r.new.stamp c.store_insert-r.new.touched c.store_insert-r.new.write) c.args.marks.now (c.store_insert-r.new.marks) c.args.books.now (c.store_insert-r.new.books)
    (out_list c.args.out_node.now c.args.out_start.now c.args.out_end.now c.args.out_write.now c.args.out_bytes.now c.args.out_dead.now) (out_list c.store_insert-r.new.out_node c.store_insert-r.new.out_start c.store_insert-r.new.out_end c.store_insert-r.new.out_write c.store_insert-r.new.out_bytes c.store_insert-r.new.out_dead) c.args.s c.args.sp c.args.time c.args.w c.requires.0 c.store_insert-r.result c.store_insert-r.ensures
    c.args.sums.now c.requires.2 c.requires.3 c.in-Done.a c.in-Done.is
    c.book_of-b.result c.book_of-b.ensures
    c.out_sums-o.result c.out_sums-o.ensures
    (sym c.bring_passes.ensures ∙ c.if-bring_passes.true)
    c.keep-old.result c.keep-old.ensures c.keep_outs-kept.result c.keep_outs-kept.ensures
    (ranges_of c.undo_store.new.node c.undo_store.new.start c.undo_store.new.end c.undo_store.new.id c.undo_store.new.stamp c.undo_store.new.touched c.undo_store.new.write) c.undo_store.ensures.0 c.undo_store.new.marks c.undo_store.ensures.1
    c.undo_store.new.books c.undo_store.ensures.2 (out_list c.undo_outs.new.out_node c.undo_outs.new.out_start c.undo_outs.new.out_end c.undo_outs.new.out_write c.undo_outs.new.out_bytes c.undo_outs.new.out_dead) c.undo_outs.ensures

pub add_bring-requires : goal.add_bring-requires
add_bring-requires c = (store_low (state_of ((tree_of c.args.parent.now c.args.depth.now c.args.len.now c.args.run.now c.args.words.now) (nodes_in c.args.books.now) (used_in c.args.books.now)) (ranges_of c.args.node.now c.args.start.now c.args.end.now c.args.id.now c.args.stamp.now c.args.touched.now c.args.write.now) (pins_of c.args.pin_node.now c.args.pin_start.now c.args.pin_end.now c.args.pin_count.now) c.args.marks.now c.args.bytes.now c.args.books.now) c.args.s c.requires.0 c.requires.3, c.requires.2, sym c.bring_passes.ensures ∙ c.if-bring_passes.false)

pub returns-in-Refused : goal.returns-in-Refused
returns-in-Refused c = brought-refused (state_of ((tree_of c.args.parent.now c.args.depth.now c.args.len.now c.args.run.now c.args.words.now) (nodes_in c.args.books.now) (used_in c.args.books.now)) (ranges_of c.args.node.now c.args.start.now c.args.end.now c.args.id.now c.args.stamp.now c.args.touched.now c.args.write.now) (pins_of c.args.pin_node.now c.args.pin_start.now c.args.pin_end.now c.args.pin_count.now) c.args.marks.now c.args.bytes.now c.args.books.now) (out_list c.args.out_node.now c.args.out_start.now c.args.out_end.now c.args.out_write.now c.args.out_bytes.now c.args.out_dead.now) c.args.sums.now c.args.s c.args.sp c.args.time c.args.w c.requires.2
    {st' = (state_of ((tree_of c.args.parent.now c.args.depth.now c.args.len.now c.args.run.now c.args.words.now) (nodes_in (c.store_insert-r.new.books)) (used_in (c.store_insert-r.new.books))) (ranges_of c.store_insert-r.new.node c.store_insert-r.new.start c.store_insert-r.new.end c.store_insert-r.new.id c.store_insert-r.new.stamp c.store_insert-r.new.touched c.store_insert-r.new.write) (pins_of c.args.pin_node.now c.args.pin_start.now c.args.pin_end.now c.args.pin_count.now) (c.store_insert-r.new.marks) c.args.bytes.now (c.store_insert-r.new.books))} {l' = (out_list c.store_insert-r.new.out_node c.store_insert-r.new.out_start c.store_insert-r.new.out_end c.store_insert-r.new.out_write c.store_insert-r.new.out_bytes c.store_insert-r.new.out_dead)} c.store_insert-r.result c.store_insert-r.ensures
    c.in-Refused.n c.in-Refused.is

pub returns-else-bring_passes : goal.returns-else-bring_passes
returns-else-bring_passes c = brought-made (state_of ((tree_of c.args.parent.now c.args.depth.now c.args.len.now c.args.run.now c.args.words.now) (nodes_in c.args.books.now) (used_in c.args.books.now)) (ranges_of c.args.node.now c.args.start.now c.args.end.now c.args.id.now c.args.stamp.now c.args.touched.now c.args.write.now) (pins_of c.args.pin_node.now c.args.pin_start.now c.args.pin_end.now c.args.pin_count.now) c.args.marks.now c.args.bytes.now c.args.books.now) (out_list c.args.out_node.now c.args.out_start.now c.args.out_end.now c.args.out_write.now c.args.out_bytes.now c.args.out_dead.now) c.args.sums.now c.args.s c.args.sp c.args.time c.args.w c.requires.2
    {st' = (state_of ((tree_of c.args.parent.now c.args.depth.now c.args.len.now c.args.run.now c.args.words.now) (nodes_in (c.store_insert-r.new.books)) (used_in (c.store_insert-r.new.books))) (ranges_of c.store_insert-r.new.node c.store_insert-r.new.start c.store_insert-r.new.end c.store_insert-r.new.id c.store_insert-r.new.stamp c.store_insert-r.new.touched c.store_insert-r.new.write) (pins_of c.args.pin_node.now c.args.pin_start.now c.args.pin_end.now c.args.pin_count.now) (c.store_insert-r.new.marks) c.args.bytes.now (c.store_insert-r.new.books))} {l' = (out_list c.store_insert-r.new.out_node c.store_insert-r.new.out_start c.store_insert-r.new.out_end c.store_insert-r.new.out_write c.store_insert-r.new.out_bytes c.store_insert-r.new.out_dead)} c.store_insert-r.result c.store_insert-r.ensures
    c.in-Done.a c.in-Done.is c.book_of-b.result c.book_of-b.ensures
    c.out_sums-o.result c.out_sums-o.ensures
    (sym c.bring_passes.ensures ∙ c.if-bring_passes.false) c.add_bring.ensures
