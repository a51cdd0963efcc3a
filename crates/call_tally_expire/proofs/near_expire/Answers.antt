-- `call_tally_expire::near_expire` meets its contract: the plain call made and, where a sum would pass the limit, put back. The laws of `Expire` have each case.
-- Assumes nothing.
use mathlib.Core.Path.{sym, ◌∙◌}
use native.Mathlib.Omega.{arith}
use Rattle.model.specs.State.{nodes_in, used_in}
use Rattle.shape_state.specs.Lent.{tree_of, ranges_of, pins_of, state_of}
use Rattle.shape_answer.specs.Lists.{out_list}
use Rattle.theory_sums.proofs.Counted.{store_low, book-lent, part-lent}
use Rattle.pool_sums.proofs.Listed.{outs_fit}
use Rattle.call_tally_expire.proofs.Expire.{expired-sound, expired-listed, expired-refused, expired-made, expired-late}
use Rattle.call_tally_expire.proofs.near_expire.Goals as goal

pub book_of-b-requires : goal.book_of-b-requires
book_of-b-requires c = book-lent (state_of ((tree_of c.args.parent.now c.args.depth.now c.args.len.now c.args.run.now c.args.words.now) (nodes_in c.args.books.now) (used_in c.args.books.now)) (ranges_of c.args.node.now c.args.start.now c.args.end.now c.args.id.now c.args.stamp.now c.args.touched.now c.args.write.now) (pins_of c.args.pin_node.now c.args.pin_start.now c.args.pin_end.now c.args.pin_count.now) c.args.marks.now c.args.bytes.now c.args.books.now) c.args.s c.requires.0 c.requires.3

pub bounds-books-3 : goal.bounds-books-3
bounds-books-3 c = omega (arith, c.requires.0.lent.books)

pub bounds-books-4 : goal.bounds-books-4
bounds-books-4 c = omega (arith, c.requires.0.lent.books)

pub keep-old-requires : goal.keep-old-requires
keep-old-requires c = part-lent (state_of ((tree_of c.args.parent.now c.args.depth.now c.args.len.now c.args.run.now c.args.words.now) (nodes_in c.args.books.now) (used_in c.args.books.now)) (ranges_of c.args.node.now c.args.start.now c.args.end.now c.args.id.now c.args.stamp.now c.args.touched.now c.args.write.now) (pins_of c.args.pin_node.now c.args.pin_start.now c.args.pin_end.now c.args.pin_count.now) c.args.marks.now c.args.bytes.now c.args.books.now) c.args.s c.requires.0 c.requires.3

pub keep_outs-kept-requires : goal.keep_outs-kept-requires
keep_outs-kept-requires c = c.requires.1

pub store_expire-r-requires : goal.store_expire-r-requires
store_expire-r-requires c = (c.requires.0, c.requires.1)

pub out_sums-o-requires : goal.out_sums-o-requires
out_sums-o-requires c = expired-listed (state_of ((tree_of c.args.parent.now c.args.depth.now c.args.len.now c.args.run.now c.args.words.now) (nodes_in c.args.books.now) (used_in c.args.books.now)) (ranges_of c.args.node.now c.args.start.now c.args.end.now c.args.id.now c.args.stamp.now c.args.touched.now c.args.write.now) (pins_of c.args.pin_node.now c.args.pin_start.now c.args.pin_end.now c.args.pin_count.now) c.args.marks.now c.args.bytes.now c.args.books.now) (out_list c.args.out_node.now c.args.out_start.now c.args.out_end.now c.args.out_write.now c.args.out_bytes.now c.args.out_dead.now) c.args.s c.args.time c.args.seconds {st' = (state_of ((tree_of c.args.parent.now c.args.depth.now c.args.len.now c.args.run.now c.args.words.now) (nodes_in (c.store_expire-r.new.books)) (used_in (c.store_expire-r.new.books))) (ranges_of c.store_expire-r.new.node c.store_expire-r.new.start c.store_expire-r.new.end c.store_expire-r.new.id c.store_expire-r.new.stamp c.store_expire-r.new.touched c.store_expire-r.new.write) (pins_of c.args.pin_node.now c.args.pin_start.now c.args.pin_end.now c.args.pin_count.now) (c.store_expire-r.new.marks) c.args.bytes.now (c.store_expire-r.new.books))} {l' = (out_list c.store_expire-r.new.out_node c.store_expire-r.new.out_start c.store_expire-r.new.out_end c.store_expire-r.new.out_write c.store_expire-r.new.out_bytes c.store_expire-r.new.out_dead)} c.store_expire-r.result c.store_expire-r.ensures c.in-Done.a c.in-Done.is (outs_fit c.requires.1 c.store_expire-r.auto.out_node c.store_expire-r.auto.out_start c.store_expire-r.auto.out_end c.store_expire-r.auto.out_write c.store_expire-r.auto.out_bytes c.store_expire-r.auto.out_dead)

pub expire_passes-requires : goal.expire_passes-requires
expire_passes-requires c = (store_low (state_of ((tree_of c.args.parent.now c.args.depth.now c.args.len.now c.args.run.now c.args.words.now) (nodes_in c.args.books.now) (used_in c.args.books.now)) (ranges_of c.args.node.now c.args.start.now c.args.end.now c.args.id.now c.args.stamp.now c.args.touched.now c.args.write.now) (pins_of c.args.pin_node.now c.args.pin_start.now c.args.pin_end.now c.args.pin_count.now) c.args.marks.now c.args.bytes.now c.args.books.now) c.args.s c.requires.0 c.requires.3, c.requires.2)

pub undo_store-requires : goal.undo_store-requires
undo_store-requires c = let h = (expired-sound (state_of ((tree_of c.args.parent.now c.args.depth.now c.args.len.now c.args.run.now c.args.words.now) (nodes_in c.args.books.now) (used_in c.args.books.now)) (ranges_of c.args.node.now c.args.start.now c.args.end.now c.args.id.now c.args.stamp.now c.args.touched.now c.args.write.now) (pins_of c.args.pin_node.now c.args.pin_start.now c.args.pin_end.now c.args.pin_count.now) c.args.marks.now c.args.bytes.now c.args.books.now) (out_list c.args.out_node.now c.args.out_start.now c.args.out_end.now c.args.out_write.now c.args.out_bytes.now c.args.out_dead.now) c.args.s c.args.time c.args.seconds {st' = (state_of ((tree_of c.args.parent.now c.args.depth.now c.args.len.now c.args.run.now c.args.words.now) (nodes_in (c.store_expire-r.new.books)) (used_in (c.store_expire-r.new.books))) (ranges_of c.store_expire-r.new.node c.store_expire-r.new.start c.store_expire-r.new.end c.store_expire-r.new.id c.store_expire-r.new.stamp c.store_expire-r.new.touched c.store_expire-r.new.write) (pins_of c.args.pin_node.now c.args.pin_start.now c.args.pin_end.now c.args.pin_count.now) (c.store_expire-r.new.marks) c.args.bytes.now (c.store_expire-r.new.books))} {l' = (out_list c.store_expire-r.new.out_node c.store_expire-r.new.out_start c.store_expire-r.new.out_end c.store_expire-r.new.out_write c.store_expire-r.new.out_bytes c.store_expire-r.new.out_dead)} c.store_expire-r.result c.store_expire-r.ensures c.requires.0).lent in
    (store_low (state_of ((tree_of c.args.parent.now c.args.depth.now c.args.len.now c.args.run.now c.args.words.now) (nodes_in c.args.books.now) (used_in c.args.books.now)) (ranges_of c.args.node.now c.args.start.now c.args.end.now c.args.id.now c.args.stamp.now c.args.touched.now c.args.write.now) (pins_of c.args.pin_node.now c.args.pin_start.now c.args.pin_end.now c.args.pin_count.now) c.args.marks.now c.args.bytes.now c.args.books.now) c.args.s c.requires.0 c.requires.3, h.ranges, h.marks, h.books)

pub undo_outs-requires : goal.undo_outs-requires
undo_outs-requires c = (outs_fit c.requires.1 c.store_expire-r.auto.out_node c.store_expire-r.auto.out_start c.store_expire-r.auto.out_end c.store_expire-r.auto.out_write c.store_expire-r.auto.out_bytes c.store_expire-r.auto.out_dead)

pub returns-then-expire_passes : goal.returns-then-expire_passes
returns-then-expire_passes c = let u = c.undo_store in
    let w = c.undo_outs in
    expired-late (tree_of c.args.parent.now c.args.depth.now c.args.len.now c.args.run.now c.args.words.now) (pins_of c.args.pin_node.now c.args.pin_start.now c.args.pin_end.now c.args.pin_count.now) c.args.bytes.now (ranges_of c.args.node.now c.args.start.now c.args.end.now c.args.id.now c.args.stamp.now c.args.touched.now c.args.write.now) (ranges_of c.store_expire-r.new.node c.store_expire-r.new.start c.store_expire-r.new.end c.store_expire-r.new.id c.store_expire-r.new.stamp c.store_expire-r.new.touched c.store_expire-r.new.write)
    (ranges_of u.new.node u.new.start u.new.end u.new.id u.new.stamp u.new.touched u.new.write)
    c.args.marks.now (c.store_expire-r.new.marks) u.new.marks c.args.books.now (c.store_expire-r.new.books) u.new.books
    (out_list c.args.out_node.now c.args.out_start.now c.args.out_end.now c.args.out_write.now c.args.out_bytes.now c.args.out_dead.now) (out_list c.store_expire-r.new.out_node c.store_expire-r.new.out_start c.store_expire-r.new.out_end c.store_expire-r.new.out_write c.store_expire-r.new.out_bytes c.store_expire-r.new.out_dead)
    (out_list w.new.out_node w.new.out_start w.new.out_end w.new.out_write w.new.out_bytes w.new.out_dead)
    c.args.s c.args.time c.args.seconds c.args.sums.now c.requires.2 c.requires.0 c.requires.3
    c.store_expire-r.result c.store_expire-r.ensures c.in-Done.a c.in-Done.is
    c.out_sums-o.result c.out_sums-o.ensures
    (sym c.expire_passes.ensures ∙ c.if-expire_passes.true)
    c.keep-old.result c.keep-old.ensures c.book_of-b.result c.book_of-b.ensures
    c.keep_outs-kept.result c.keep_outs-kept.ensures
    u.ensures.0 u.ensures.1 u.ensures.2 w.ensures

pub add_expire-requires : goal.add_expire-requires
add_expire-requires c = (store_low (state_of ((tree_of c.args.parent.now c.args.depth.now c.args.len.now c.args.run.now c.args.words.now) (nodes_in c.args.books.now) (used_in c.args.books.now)) (ranges_of c.args.node.now c.args.start.now c.args.end.now c.args.id.now c.args.stamp.now c.args.touched.now c.args.write.now) (pins_of c.args.pin_node.now c.args.pin_start.now c.args.pin_end.now c.args.pin_count.now) c.args.marks.now c.args.bytes.now c.args.books.now) c.args.s c.requires.0 c.requires.3, c.requires.2, sym c.expire_passes.ensures ∙ c.if-expire_passes.false)

pub returns-in-Refused : goal.returns-in-Refused
returns-in-Refused c = expired-refused (state_of ((tree_of c.args.parent.now c.args.depth.now c.args.len.now c.args.run.now c.args.words.now) (nodes_in c.args.books.now) (used_in c.args.books.now)) (ranges_of c.args.node.now c.args.start.now c.args.end.now c.args.id.now c.args.stamp.now c.args.touched.now c.args.write.now) (pins_of c.args.pin_node.now c.args.pin_start.now c.args.pin_end.now c.args.pin_count.now) c.args.marks.now c.args.bytes.now c.args.books.now) (out_list c.args.out_node.now c.args.out_start.now c.args.out_end.now c.args.out_write.now c.args.out_bytes.now c.args.out_dead.now) c.args.s c.args.time c.args.seconds c.args.sums.now c.requires.2 {st' = (state_of ((tree_of c.args.parent.now c.args.depth.now c.args.len.now c.args.run.now c.args.words.now) (nodes_in (c.store_expire-r.new.books)) (used_in (c.store_expire-r.new.books))) (ranges_of c.store_expire-r.new.node c.store_expire-r.new.start c.store_expire-r.new.end c.store_expire-r.new.id c.store_expire-r.new.stamp c.store_expire-r.new.touched c.store_expire-r.new.write) (pins_of c.args.pin_node.now c.args.pin_start.now c.args.pin_end.now c.args.pin_count.now) (c.store_expire-r.new.marks) c.args.bytes.now (c.store_expire-r.new.books))} {l' = (out_list c.store_expire-r.new.out_node c.store_expire-r.new.out_start c.store_expire-r.new.out_end c.store_expire-r.new.out_write c.store_expire-r.new.out_bytes c.store_expire-r.new.out_dead)} c.store_expire-r.result c.store_expire-r.ensures c.in-Refused.n c.in-Refused.is

pub returns-else-expire_passes : goal.returns-else-expire_passes
returns-else-expire_passes c = expired-made (state_of ((tree_of c.args.parent.now c.args.depth.now c.args.len.now c.args.run.now c.args.words.now) (nodes_in c.args.books.now) (used_in c.args.books.now)) (ranges_of c.args.node.now c.args.start.now c.args.end.now c.args.id.now c.args.stamp.now c.args.touched.now c.args.write.now) (pins_of c.args.pin_node.now c.args.pin_start.now c.args.pin_end.now c.args.pin_count.now) c.args.marks.now c.args.bytes.now c.args.books.now) (out_list c.args.out_node.now c.args.out_start.now c.args.out_end.now c.args.out_write.now c.args.out_bytes.now c.args.out_dead.now) c.args.s c.args.time c.args.seconds c.args.sums.now c.requires.2 {st' = (state_of ((tree_of c.args.parent.now c.args.depth.now c.args.len.now c.args.run.now c.args.words.now) (nodes_in (c.store_expire-r.new.books)) (used_in (c.store_expire-r.new.books))) (ranges_of c.store_expire-r.new.node c.store_expire-r.new.start c.store_expire-r.new.end c.store_expire-r.new.id c.store_expire-r.new.stamp c.store_expire-r.new.touched c.store_expire-r.new.write) (pins_of c.args.pin_node.now c.args.pin_start.now c.args.pin_end.now c.args.pin_count.now) (c.store_expire-r.new.marks) c.args.bytes.now (c.store_expire-r.new.books))} {l' = (out_list c.store_expire-r.new.out_node c.store_expire-r.new.out_start c.store_expire-r.new.out_end c.store_expire-r.new.out_write c.store_expire-r.new.out_bytes c.store_expire-r.new.out_dead)} c.store_expire-r.result c.store_expire-r.ensures c.in-Done.a c.in-Done.is
    c.out_sums-o.result c.out_sums-o.ensures
    {w = c.add_expire.new.sums}
    (sym c.expire_passes.ensures ∙ c.if-expire_passes.false) c.add_expire.ensures
