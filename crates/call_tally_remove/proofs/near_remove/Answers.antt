-- `call_tally_remove::near_remove` meets its contract: each end of the plain call by its law. Assumes nothing.
use mathlib.Core.Path.{sym, ◌∙◌}
use native.Mathlib.Omega.{arith}
use Rattle.model.specs.State.{nodes_in, used_in}
use Rattle.shape_state.specs.Lent.{tree_of, ranges_of, pins_of, state_of}
use Rattle.theory_sums.proofs.Counted.{store_low, book-lent, part-lent}
use Rattle.call_tally_remove.proofs.Remove.{removed-refused, removed-made, removed-sound, removed-late}
use Rattle.call_tally_remove.proofs.near_remove.Goals as goal

pub book_of-b-requires : goal.book_of-b-requires
book_of-b-requires c = book-lent (state_of ((tree_of c.args.parent.now c.args.depth.now c.args.len.now c.args.run.now c.args.words.now) (nodes_in c.args.books.now) (used_in c.args.books.now)) (ranges_of c.args.node.now c.args.start.now c.args.end.now c.args.id.now c.args.stamp.now c.args.touched.now c.args.write.now) (pins_of c.args.pin_node.now c.args.pin_start.now c.args.pin_end.now c.args.pin_count.now) c.args.marks.now c.args.bytes.now c.args.books.now) c.args.s c.requires.0 c.requires.3

pub bounds-books-3 : goal.bounds-books-3
bounds-books-3 c = omega (arith, c.requires.0.lent.books)

pub bounds-books-4 : goal.bounds-books-4
bounds-books-4 c = omega (arith, c.requires.0.lent.books)

pub keep-old-requires : goal.keep-old-requires
keep-old-requires c = part-lent (state_of ((tree_of c.args.parent.now c.args.depth.now c.args.len.now c.args.run.now c.args.words.now) (nodes_in c.args.books.now) (used_in c.args.books.now)) (ranges_of c.args.node.now c.args.start.now c.args.end.now c.args.id.now c.args.stamp.now c.args.touched.now c.args.write.now) (pins_of c.args.pin_node.now c.args.pin_start.now c.args.pin_end.now c.args.pin_count.now) c.args.marks.now c.args.bytes.now c.args.books.now) c.args.s c.requires.0 c.requires.3

pub copy-kept-requires : goal.copy-kept-requires
copy-kept-requires c = omega (arith, c.requires.1)

pub store_remove-r-requires : goal.store_remove-r-requires
store_remove-r-requires c = (c.requires.0, c.requires.1)

pub remove_passes-requires : goal.remove_passes-requires
remove_passes-requires c = (store_low (state_of ((tree_of c.args.parent.now c.args.depth.now c.args.len.now c.args.run.now c.args.words.now) (nodes_in c.args.books.now) (used_in c.args.books.now)) (ranges_of c.args.node.now c.args.start.now c.args.end.now c.args.id.now c.args.stamp.now c.args.touched.now c.args.write.now) (pins_of c.args.pin_node.now c.args.pin_start.now c.args.pin_end.now c.args.pin_count.now) c.args.marks.now c.args.bytes.now c.args.books.now) c.args.s c.requires.0 c.requires.3, c.requires.2)

pub undo_store-requires : goal.undo_store-requires
undo_store-requires c = let k = c.store_remove-r in
    let h = removed-sound (tree_of c.args.parent.now c.args.depth.now c.args.len.now c.args.run.now c.args.words.now) (pins_of c.args.pin_node.now c.args.pin_start.now c.args.pin_end.now c.args.pin_count.now) c.args.bytes.now (ranges_of c.args.node.now c.args.start.now c.args.end.now c.args.id.now c.args.stamp.now c.args.touched.now c.args.write.now) (let k = c.store_remove-r in ranges_of k.new.node k.new.start k.new.end k.new.id k.new.stamp k.new.touched k.new.write) c.args.marks.now k.new.marks c.args.books.now k.new.books c.args.list.now k.new.list c.args.s c.args.sp c.requires.0 k.result k.ensures in
    (store_low (state_of ((tree_of c.args.parent.now c.args.depth.now c.args.len.now c.args.run.now c.args.words.now) (nodes_in c.args.books.now) (used_in c.args.books.now)) (ranges_of c.args.node.now c.args.start.now c.args.end.now c.args.id.now c.args.stamp.now c.args.touched.now c.args.write.now) (pins_of c.args.pin_node.now c.args.pin_start.now c.args.pin_end.now c.args.pin_count.now) c.args.marks.now c.args.bytes.now c.args.books.now) c.args.s c.requires.0 c.requires.3, h.lent.ranges, h.lent.marks, h.lent.books)

pub put-requires : goal.put-requires
put-requires c = omega (arith, c.requires.1, c.store_remove-r.auto.list)

pub returns-then-remove_passes : goal.returns-then-remove_passes
returns-then-remove_passes c = let k = c.store_remove-r in
    let u = c.undo_store in
    removed-late (tree_of c.args.parent.now c.args.depth.now c.args.len.now c.args.run.now c.args.words.now) (pins_of c.args.pin_node.now c.args.pin_start.now c.args.pin_end.now c.args.pin_count.now) c.args.bytes.now (ranges_of c.args.node.now c.args.start.now c.args.end.now c.args.id.now c.args.stamp.now c.args.touched.now c.args.write.now) (let k = c.store_remove-r in ranges_of k.new.node k.new.start k.new.end k.new.id k.new.stamp k.new.touched k.new.write) c.args.marks.now k.new.marks c.args.books.now k.new.books c.args.list.now k.new.list c.args.s c.args.sp c.requires.0 k.result k.ensures c.args.sums.now c.requires.2 c.requires.3 c.in-Done.a c.in-Done.is
    (sym c.remove_passes.ensures ∙ c.if-remove_passes.true) c.keep-old.result c.keep-old.ensures c.book_of-b.result c.book_of-b.ensures c.copy-kept.result c.copy-kept.ensures
    (ranges_of u.new.node u.new.start u.new.end u.new.id u.new.stamp u.new.touched u.new.write) u.ensures.0 u.new.marks u.ensures.1 u.new.books u.ensures.2 c.put.new.col c.put.ensures

pub add_remove-requires : goal.add_remove-requires
add_remove-requires c = (store_low (state_of ((tree_of c.args.parent.now c.args.depth.now c.args.len.now c.args.run.now c.args.words.now) (nodes_in c.args.books.now) (used_in c.args.books.now)) (ranges_of c.args.node.now c.args.start.now c.args.end.now c.args.id.now c.args.stamp.now c.args.touched.now c.args.write.now) (pins_of c.args.pin_node.now c.args.pin_start.now c.args.pin_end.now c.args.pin_count.now) c.args.marks.now c.args.bytes.now c.args.books.now) c.args.s c.requires.0 c.requires.3, c.requires.2, sym c.remove_passes.ensures ∙ c.if-remove_passes.false)

pub returns-in-Refused : goal.returns-in-Refused
returns-in-Refused c = let k = c.store_remove-r in
    removed-refused (state_of ((tree_of c.args.parent.now c.args.depth.now c.args.len.now c.args.run.now c.args.words.now) (nodes_in c.args.books.now) (used_in c.args.books.now)) (ranges_of c.args.node.now c.args.start.now c.args.end.now c.args.id.now c.args.stamp.now c.args.touched.now c.args.write.now) (pins_of c.args.pin_node.now c.args.pin_start.now c.args.pin_end.now c.args.pin_count.now) c.args.marks.now c.args.bytes.now c.args.books.now) c.args.list.now c.args.sums.now c.args.s c.args.sp c.requires.2 k.result k.ensures c.in-Refused.n c.in-Refused.is

pub returns-else-remove_passes : goal.returns-else-remove_passes
returns-else-remove_passes c = let k = c.store_remove-r in
    removed-made (state_of ((tree_of c.args.parent.now c.args.depth.now c.args.len.now c.args.run.now c.args.words.now) (nodes_in c.args.books.now) (used_in c.args.books.now)) (ranges_of c.args.node.now c.args.start.now c.args.end.now c.args.id.now c.args.stamp.now c.args.touched.now c.args.write.now) (pins_of c.args.pin_node.now c.args.pin_start.now c.args.pin_end.now c.args.pin_count.now) c.args.marks.now c.args.bytes.now c.args.books.now) c.args.list.now c.args.sums.now c.args.s c.args.sp c.requires.2 k.result k.ensures c.in-Done.a c.in-Done.is (sym c.remove_passes.ensures ∙ c.if-remove_passes.false) c.add_remove.ensures
