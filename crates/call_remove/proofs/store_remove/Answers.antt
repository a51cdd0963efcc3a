-- `call_remove::store_remove` meets its contract: a refusal's number is the definition's, and where there is none the law `call-done` has what the removal leaves. Assumes nothing.
use native.Mathlib.Omega.{arith}
use Rattle.model.specs.State.{nodes_in, used_in}
use Rattle.shape_state.specs.Lent.{tree_of, ranges_of, pins_of, state_of}
use Rattle.call_remove.proofs.Laws.{seen, refused-store, call-refused, pool_in, freed_in, held-most, next_fits, call-done}
use Rattle.call_remove.proofs.store_remove.Goals as goal

pub returns-then-stores-s : goal.returns-then-stores-s
returns-then-stores-s c =
    let st = state_of (tree_of c.args.parent.now c.args.depth.now c.args.len.now c.args.run.now c.args.words.now (nodes_in c.args.books.now) (used_in c.args.books.now)) (ranges_of c.args.node.now c.args.start.now c.args.end.now c.args.id.now c.args.stamp.now c.args.touched.now c.args.write.now) (pins_of c.args.pin_node.now c.args.pin_start.now c.args.pin_end.now c.args.pin_count.now) c.args.marks.now c.args.bytes.now c.args.books.now in
    call-refused st c.args.list.now c.args.s c.args.sp 2 (refused-store st _ _ _ c.requires.0 c.requires.1 c.if-stores-s.true) (λ e. omega arith)

pub returns-then-number-ne0 : goal.returns-then-number-ne0
returns-then-number-ne0 c =
    let st = state_of (tree_of c.args.parent.now c.args.depth.now c.args.len.now c.args.run.now c.args.words.now (nodes_in c.args.books.now) (used_in c.args.books.now)) (ranges_of c.args.node.now c.args.start.now c.args.end.now c.args.id.now c.args.stamp.now c.args.touched.now c.args.write.now) (pins_of c.args.pin_node.now c.args.pin_start.now c.args.pin_end.now c.args.pin_count.now) c.args.marks.now c.args.bytes.now c.args.books.now in
    let number = c.refusal-number.ensures.value st c.args.list.now (seen st c.args.s c.requires.0 c.if-stores-s.false _ c.book_of-b.ensures) c.requires.1 in
    call-refused st c.args.list.now c.args.s c.args.sp _ number c.if-number-ne0.true

pub remove_pools-r-requires : goal.remove_pools-r-requires
remove_pools-r-requires c =
    let st = state_of (tree_of c.args.parent.now c.args.depth.now c.args.len.now c.args.run.now c.args.words.now (nodes_in c.args.books.now) (used_in c.args.books.now)) (ranges_of c.args.node.now c.args.start.now c.args.end.now c.args.id.now c.args.stamp.now c.args.touched.now c.args.write.now) (pins_of c.args.pin_node.now c.args.pin_start.now c.args.pin_end.now c.args.pin_count.now) c.args.marks.now c.args.bytes.now c.args.books.now in
    let number = c.refusal-number.ensures.value st c.args.list.now (seen st c.args.s c.requires.0 c.if-stores-s.false _ c.book_of-b.ensures) c.requires.1 in
    pool_in st _ _ _ c.requires.0 c.requires.1 _ number c.if-number-ne0.false _ c.book_of-b.ensures (c.refusal-number.ensures.fits_at c.if-number-ne0.false)

pub overflow_sub-b : goal.overflow_sub-b
overflow_sub-b c =
    let st = state_of (tree_of c.args.parent.now c.args.depth.now c.args.len.now c.args.run.now c.args.words.now (nodes_in c.args.books.now) (used_in c.args.books.now)) (ranges_of c.args.node.now c.args.start.now c.args.end.now c.args.id.now c.args.stamp.now c.args.touched.now c.args.write.now) (pins_of c.args.pin_node.now c.args.pin_start.now c.args.pin_end.now c.args.pin_count.now) c.args.marks.now c.args.bytes.now c.args.books.now in
    let number = c.refusal-number.ensures.value st c.args.list.now (seen st c.args.s c.requires.0 c.if-stores-s.false _ c.book_of-b.ensures) c.requires.1 in
    let k = c.remove_pools-r in
    let freed = freed_in st c.args.list.now c.args.s c.args.sp c.requires.0 c.requires.1 _ number c.if-number-ne0.false _ c.book_of-b.ensures {c = ranges_of k.new.node k.new.start k.new.end k.new.id k.new.stamp k.new.touched k.new.write} {ms = k.new.marks} {ls = k.new.list} {r = k.result} k.ensures in
    held-most st _ _ _ c.requires.0 c.requires.1 _ number c.if-number-ne0.false _ c.book_of-b.ensures freed

pub overflow_add-next : goal.overflow_add-next
overflow_add-next c =
    let st = state_of (tree_of c.args.parent.now c.args.depth.now c.args.len.now c.args.run.now c.args.words.now (nodes_in c.args.books.now) (used_in c.args.books.now)) (ranges_of c.args.node.now c.args.start.now c.args.end.now c.args.id.now c.args.stamp.now c.args.touched.now c.args.write.now) (pins_of c.args.pin_node.now c.args.pin_start.now c.args.pin_end.now c.args.pin_count.now) c.args.marks.now c.args.bytes.now c.args.books.now in
    let number = c.refusal-number.ensures.value st c.args.list.now (seen st c.args.s c.requires.0 c.if-stores-s.false _ c.book_of-b.ensures) c.requires.1 in
    let k = c.remove_pools-r in
    let freed = freed_in st c.args.list.now c.args.s c.args.sp c.requires.0 c.requires.1 _ number c.if-number-ne0.false _ c.book_of-b.ensures {c = ranges_of k.new.node k.new.start k.new.end k.new.id k.new.stamp k.new.touched k.new.write} {ms = k.new.marks} {ls = k.new.list} {r = k.result} k.ensures in
    next_fits st _ _ _ c.requires.0 c.requires.1 _ number c.if-number-ne0.false _ c.book_of-b.ensures freed

pub returns : goal.returns
returns c =
    let st = state_of (tree_of c.args.parent.now c.args.depth.now c.args.len.now c.args.run.now c.args.words.now (nodes_in c.args.books.now) (used_in c.args.books.now)) (ranges_of c.args.node.now c.args.start.now c.args.end.now c.args.id.now c.args.stamp.now c.args.touched.now c.args.write.now) (pins_of c.args.pin_node.now c.args.pin_start.now c.args.pin_end.now c.args.pin_count.now) c.args.marks.now c.args.bytes.now c.args.books.now in
    let number = c.refusal-number.ensures.value st c.args.list.now (seen st c.args.s c.requires.0 c.if-stores-s.false _ c.book_of-b.ensures) c.requires.1 in
    let k = c.remove_pools-r in
    let freed = freed_in st c.args.list.now c.args.s c.args.sp c.requires.0 c.requires.1 _ number c.if-number-ne0.false _ c.book_of-b.ensures {c = ranges_of k.new.node k.new.start k.new.end k.new.id k.new.stamp k.new.touched k.new.write} {ms = k.new.marks} {ls = k.new.list} {r = k.result} k.ensures in
    call-done (tree_of c.args.parent.now c.args.depth.now c.args.len.now c.args.run.now c.args.words.now) (ranges_of c.args.node.now c.args.start.now c.args.end.now c.args.id.now c.args.stamp.now c.args.touched.now c.args.write.now) (pins_of c.args.pin_node.now c.args.pin_start.now c.args.pin_end.now c.args.pin_count.now) c.args.marks.now c.args.bytes.now c.args.books.now c.args.list.now c.args.s c.args.sp c.requires.0 c.requires.1 c.refusal-number.result number c.if-number-ne0.false c.book_of-b.result c.book_of-b.ensures
    freed
    c.version_past.result c.version_past.ensures c.put_book.new.books c.put_next.new.books c.put_book.ensures c.put_next.ensures
