-- `call_tally_remove::tally_remove` meets its contract: 2, the call near the limit, or the plain call far from it. Assumes nothing.
use native.Mathlib.Omega.{arith}
use Rattle.model.specs.State.{nodes_in, used_in}
use Rattle.shape_state.specs.Lent.{tree_of, ranges_of, pins_of, state_of}
use Rattle.theory_refuse.proofs.Says.{says_yes}
use Rattle.theory_sums.proofs.Counted.{store_low}
use Rattle.call_tally_remove.proofs.Remove.{removed_nowhere, removed-refused, removed_far, removed-made}
use Rattle.std.proofs.Common.{ap}
use mathlib.Core.Bool.{not}
use Rattle.call_tally_remove.proofs.tally_remove.Goals as goal

pub bounds-books-2 : goal.bounds-books-2
bounds-books-2 c = omega (arith, c.requires.0.lent.books)

pub returns-then-stores-s : goal.returns-then-stores-s
returns-then-stores-s c = removed_nowhere (state_of ((tree_of c.args.parent.now c.args.depth.now c.args.len.now c.args.run.now c.args.words.now) (nodes_in c.args.books.now) (used_in c.args.books.now)) (ranges_of c.args.node.now c.args.start.now c.args.end.now c.args.id.now c.args.stamp.now c.args.touched.now c.args.write.now) (pins_of c.args.pin_node.now c.args.pin_start.now c.args.pin_end.now c.args.pin_count.now) c.args.marks.now c.args.bytes.now c.args.books.now) c.args.list.now c.args.sums.now c.args.s c.args.sp c.requires.2 c.requires.0 c.requires.1 c.if-stores-s.true

pub far-requires : goal.far-requires
far-requires c = (store_low (state_of ((tree_of c.args.parent.now c.args.depth.now c.args.len.now c.args.run.now c.args.words.now) (nodes_in c.args.books.now) (used_in c.args.books.now)) (ranges_of c.args.node.now c.args.start.now c.args.end.now c.args.id.now c.args.stamp.now c.args.touched.now c.args.write.now) (pins_of c.args.pin_node.now c.args.pin_start.now c.args.pin_end.now c.args.pin_count.now) c.args.marks.now c.args.bytes.now c.args.books.now) c.args.s c.requires.0 c.if-stores-s.false, c.requires.2)

pub near_remove-requires : goal.near_remove-requires
near_remove-requires c = (c.requires.0, c.requires.1, c.requires.2, c.if-stores-s.false)

pub returns-then-not-far : goal.returns-then-not-far
returns-then-not-far c = c.near_remove.ensures

pub store_remove-r-requires : goal.store_remove-r-requires
store_remove-r-requires c = (c.requires.0, c.requires.1)

pub add_remove-requires : goal.add_remove-requires
add_remove-requires c = let k = c.store_remove-r in
    (store_low (state_of ((tree_of c.args.parent.now c.args.depth.now c.args.len.now c.args.run.now c.args.words.now) (nodes_in c.args.books.now) (used_in c.args.books.now)) (ranges_of c.args.node.now c.args.start.now c.args.end.now c.args.id.now c.args.stamp.now c.args.touched.now c.args.write.now) (pins_of c.args.pin_node.now c.args.pin_start.now c.args.pin_end.now c.args.pin_count.now) c.args.marks.now c.args.bytes.now c.args.books.now) c.args.s c.requires.0 c.if-stores-s.false, c.requires.2, removed_far (state_of ((tree_of c.args.parent.now c.args.depth.now c.args.len.now c.args.run.now c.args.words.now) (nodes_in c.args.books.now) (used_in c.args.books.now)) (ranges_of c.args.node.now c.args.start.now c.args.end.now c.args.id.now c.args.stamp.now c.args.touched.now c.args.write.now) (pins_of c.args.pin_node.now c.args.pin_start.now c.args.pin_end.now c.args.pin_count.now) c.args.marks.now c.args.bytes.now c.args.books.now) c.args.list.now c.args.sums.now c.args.s c.args.sp c.requires.2 k.result k.ensures c.in-Done.a c.in-Done.is (says_yes c.far.result (ap not c.if-not-far.false) c.far.ensures))

pub returns-in-Refused : goal.returns-in-Refused
returns-in-Refused c = let k = c.store_remove-r in
    removed-refused (state_of ((tree_of c.args.parent.now c.args.depth.now c.args.len.now c.args.run.now c.args.words.now) (nodes_in c.args.books.now) (used_in c.args.books.now)) (ranges_of c.args.node.now c.args.start.now c.args.end.now c.args.id.now c.args.stamp.now c.args.touched.now c.args.write.now) (pins_of c.args.pin_node.now c.args.pin_start.now c.args.pin_end.now c.args.pin_count.now) c.args.marks.now c.args.bytes.now c.args.books.now) c.args.list.now c.args.sums.now c.args.s c.args.sp c.requires.2 k.result k.ensures c.in-Refused.n c.in-Refused.is

pub returns-in-Done : goal.returns-in-Done
returns-in-Done c = let k = c.store_remove-r in
    removed-made (state_of ((tree_of c.args.parent.now c.args.depth.now c.args.len.now c.args.run.now c.args.words.now) (nodes_in c.args.books.now) (used_in c.args.books.now)) (ranges_of c.args.node.now c.args.start.now c.args.end.now c.args.id.now c.args.stamp.now c.args.touched.now c.args.write.now) (pins_of c.args.pin_node.now c.args.pin_start.now c.args.pin_end.now c.args.pin_count.now) c.args.marks.now c.args.bytes.now c.args.books.now) c.args.list.now c.args.sums.now c.args.s c.args.sp c.requires.2 k.result k.ensures c.in-Done.a c.in-Done.is
    (removed_far (state_of ((tree_of c.args.parent.now c.args.depth.now c.args.len.now c.args.run.now c.args.words.now) (nodes_in c.args.books.now) (used_in c.args.books.now)) (ranges_of c.args.node.now c.args.start.now c.args.end.now c.args.id.now c.args.stamp.now c.args.touched.now c.args.write.now) (pins_of c.args.pin_node.now c.args.pin_start.now c.args.pin_end.now c.args.pin_count.now) c.args.marks.now c.args.bytes.now c.args.books.now) c.args.list.now c.args.sums.now c.args.s c.args.sp c.requires.2 k.result k.ensures c.in-Done.a c.in-Done.is (says_yes c.far.result (ap not c.if-not-far.false) c.far.ensures)) c.add_remove.ensures
