-- `call_pin::pin_source` meets its contract: each way out is one law. Assumes nothing.
use Prim.Native.Nat.{◌*◌}
use mathlib.Core.Bool.{not}
use mathlib.Core.Path.{refl}
use native.Mathlib.Nat.{le_of_lt}
use Rattle.std.proofs.Common.{rules, ap, ◌∙◌}
use Rattle.model.specs.State.{nodes_in, used_in}
use Rattle.shape_state.specs.Lent.{tree_of, pins_of}
use Rattle.shape_state.specs.Pins.{pinned}
use Rattle.pool_pin.specs.Columns.{lent}
use Rattle.call_pin.proofs.Laws.{place-of, pins-back, tested-of}
use Rattle.call_pin.proofs.Calls.{in_order, pin_no_store, pin-bad-span, too_much, to_pin, pin-ends}
use Rattle.call_pin.proofs.pin_source.Goals as goal

pub returns-then-stores-s : goal.returns-then-stores-s
returns-then-stores-s c =
    let tree = tree_of c.args.parent.now c.args.depth.now c.args.len.now c.args.run.now c.args.words.now in
    let books = c.args.books.now in
    pin_no_store (tree (nodes_in books) (used_in books)) _ _ _ _ _ c.args.s c.args.sp c.requires c.if-stores-s.true

pub returns-then-not-span_in : goal.returns-then-not-span_in
returns-then-not-span_in c =
    let tree = tree_of c.args.parent.now c.args.depth.now c.args.len.now c.args.run.now c.args.words.now in
    let books = c.args.books.now in
    pin-bad-span (tree (nodes_in books) (used_in books)) _ _ _ _ _ c.args.s c.args.sp c.requires c.if-stores-s.false c.span_in.result (c.span_in.ensures (tree (nodes_in books) (used_in books)) refl refl) (ap not c.if-not-span_in.true)

pub overflow_sub-blocks : goal.overflow_sub-blocks
overflow_sub-blocks c =
    let tree = tree_of c.args.parent.now c.args.depth.now c.args.len.now c.args.run.now c.args.words.now in
    let books = c.args.books.now in
    let old = pins_of c.args.pin_node.now c.args.pin_start.now c.args.pin_end.now c.args.pin_count.now in
    le_of_lt (in_order (tree (nodes_in books) (used_in books)) c.args.sp c.span_in.result (c.span_in.ensures (tree (nodes_in books) (used_in books)) refl refl) (ap not c.if-not-span_in.false))

pub returns-then-too_many : goal.returns-then-too_many
returns-then-too_many c =
    let tree = tree_of c.args.parent.now c.args.depth.now c.args.len.now c.args.run.now c.args.words.now in
    let books = c.args.books.now in
    let old = pins_of c.args.pin_node.now c.args.pin_start.now c.args.pin_end.now c.args.pin_count.now in
    too_much tree _ old _ _ _ c.args.s c.args.sp c.requires c.if-stores-s.false c.book_of-b.result c.book_of-b.ensures c.span_in.result (c.span_in.ensures (tree (nodes_in books) (used_in books)) refl refl) (ap not c.if-not-span_in.false) c.place_of-place.result (place-of (32 * c.args.s) c.book_of-b.result.entries c.args.sp c.place_of-place.result (pinned c.view.result) old c.view.ensures c.place_of-place.ensures) c.too_many.result (tested-of c.place_of-place.result c.is_ok.result c.too_many.result _ _ _ c.is_ok.ensures.value c.too_many.ensures) c.if-too_many.true

pub add-requires : goal.add-requires
add-requires c =
    let tree = tree_of c.args.parent.now c.args.depth.now c.args.len.now c.args.run.now c.args.words.now in
    let books = c.args.books.now in
    let old = pins_of c.args.pin_node.now c.args.pin_start.now c.args.pin_end.now c.args.pin_count.now in
    to_pin tree _ old _ _ _ c.args.s c.args.sp c.requires c.if-stores-s.false c.book_of-b.result c.book_of-b.ensures c.span_in.result (c.span_in.ensures (tree (nodes_in books) (used_in books)) refl refl) (ap not c.if-not-span_in.false) c.place_of-place.result (place-of (32 * c.args.s) c.book_of-b.result.entries c.args.sp c.place_of-place.result (pinned c.view.result) old c.view.ensures c.place_of-place.ensures) c.too_many.result (tested-of c.place_of-place.result c.is_ok.result c.too_many.result _ _ _ c.is_ok.ensures.value c.too_many.ensures) c.if-too_many.false

pub returns : goal.returns
returns c =
    let tree = tree_of c.args.parent.now c.args.depth.now c.args.len.now c.args.run.now c.args.words.now in
    let books = c.args.books.now in
    let old = pins_of c.args.pin_node.now c.args.pin_start.now c.args.pin_end.now c.args.pin_count.now in
    pin-ends tree _ old _ _ _ c.args.s c.args.sp c.requires c.if-stores-s.false c.book_of-b.result c.book_of-b.ensures c.span_in.result (c.span_in.ensures (tree (nodes_in books) (used_in books)) refl refl) (ap not c.if-not-span_in.false) c.place_of-place.result (place-of (32 * c.args.s) c.book_of-b.result.entries c.args.sp c.place_of-place.result (pinned c.view.result) old c.view.ensures c.place_of-place.ensures) c.too_many.result (tested-of c.place_of-place.result c.is_ok.result c.too_many.result _ _ _ c.is_ok.ensures.value c.too_many.ensures) c.if-too_many.false
    (pins_of _ _ _ _) c.put_book.new.books c.add.result (pins-back (lent c.add.new.self) (search rules) (search rules) (search rules) (search rules) ∙ c.add.ensures.columns, c.add.ensures.entries) c.put_book.ensures
