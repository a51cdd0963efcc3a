-- `call_pin::unpin_source` meets its contract: each way out is one law. Assumes nothing.
use Prim.Native.Nat.{◌*◌}
use mathlib.Core.Bool.{not}
use mathlib.Core.Path.{refl}
use native.Mathlib.Nat.{le_of_lt}
use Rattle.std.proofs.Common.{rules, ap, ◌∙◌}
use Rattle.std.specs.Prelude.{is_ok}
use Rattle.model.specs.State.{nodes_in, used_in}
use Rattle.shape_state.specs.Lent.{tree_of, pins_of}
use Rattle.shape_state.specs.Pins.{pinned}
use Rattle.pool_pin.specs.Columns.{lent}
use Rattle.call_pin.proofs.Laws.{place-of, pins-back, is-err}
use Rattle.call_pin.proofs.Calls.{in_order, unpin_no_store, unpin-bad-span, no_entry_lem, off-fits, unpin-ends}
use Rattle.call_pin.proofs.unpin_source.Goals as goal

pub returns-then-stores-s : goal.returns-then-stores-s
returns-then-stores-s c =
    let tree = tree_of c.args.parent.now c.args.depth.now c.args.len.now c.args.run.now c.args.words.now in
    let books = c.args.books.now in
    unpin_no_store (tree (nodes_in books) (used_in books)) _ _ _ _ _ c.args.s c.args.sp c.requires c.if-stores-s.true

pub returns-then-not-span_in : goal.returns-then-not-span_in
returns-then-not-span_in c =
    let tree = tree_of c.args.parent.now c.args.depth.now c.args.len.now c.args.run.now c.args.words.now in
    let books = c.args.books.now in
    unpin-bad-span (tree (nodes_in books) (used_in books)) _ _ _ _ _ c.args.s c.args.sp c.requires c.if-stores-s.false c.span_in.result (c.span_in.ensures (tree (nodes_in books) (used_in books)) refl refl) (ap not c.if-not-span_in.true)

pub returns-in_default : goal.returns-in_default
returns-in_default c =
    let tree = tree_of c.args.parent.now c.args.depth.now c.args.len.now c.args.run.now c.args.words.now in
    let books = c.args.books.now in
    let old = pins_of c.args.pin_node.now c.args.pin_start.now c.args.pin_end.now c.args.pin_count.now in
    no_entry_lem tree _ old _ _ _ c.args.s c.args.sp c.requires c.if-stores-s.false c.book_of-b.result c.book_of-b.ensures c.span_in.result (c.span_in.ensures (tree (nodes_in books) (used_in books)) refl refl) (ap not c.if-not-span_in.false) c.place_of.result (place-of (32 * c.args.s) c.book_of-b.result.entries c.args.sp c.place_of.result (pinned c.view.result) old c.view.ensures c.place_of.ensures) (is-err c.place_of.result c.in_default.not-Ok)

pub overflow_sub-b : goal.overflow_sub-b
overflow_sub-b c =
    let tree = tree_of c.args.parent.now c.args.depth.now c.args.len.now c.args.run.now c.args.words.now in
    let books = c.args.books.now in
    let old = pins_of c.args.pin_node.now c.args.pin_start.now c.args.pin_end.now c.args.pin_count.now in
    le_of_lt (in_order (tree (nodes_in books) (used_in books)) c.args.sp c.span_in.result (c.span_in.ensures (tree (nodes_in books) (used_in books)) refl refl) (ap not c.if-not-span_in.false))

pub overflow_sub-b-2 : goal.overflow_sub-b-2
overflow_sub-b-2 c =
    let tree = tree_of c.args.parent.now c.args.depth.now c.args.len.now c.args.run.now c.args.words.now in
    let books = c.args.books.now in
    let old = pins_of c.args.pin_node.now c.args.pin_start.now c.args.pin_end.now c.args.pin_count.now in
    off-fits tree _ old _ _ _ c.args.s c.args.sp c.requires c.if-stores-s.false c.book_of-b.result c.book_of-b.ensures c.span_in.result (c.span_in.ensures (tree (nodes_in books) (used_in books)) refl refl) (ap not c.if-not-span_in.false) c.place_of.result (place-of (32 * c.args.s) c.book_of-b.result.entries c.args.sp c.place_of.result (pinned c.view.result) old c.view.ensures c.place_of.ensures) (ap is_ok c.in-Ok.is)

pub returns : goal.returns
returns c =
    let tree = tree_of c.args.parent.now c.args.depth.now c.args.len.now c.args.run.now c.args.words.now in
    let books = c.args.books.now in
    let old = pins_of c.args.pin_node.now c.args.pin_start.now c.args.pin_end.now c.args.pin_count.now in
    unpin-ends tree _ old _ _ _ c.args.s c.args.sp c.requires c.if-stores-s.false c.book_of-b.result c.book_of-b.ensures c.span_in.result (c.span_in.ensures (tree (nodes_in books) (used_in books)) refl refl) (ap not c.if-not-span_in.false) c.place_of.result (place-of (32 * c.args.s) c.book_of-b.result.entries c.args.sp c.place_of.result (pinned c.view.result) old c.view.ensures c.place_of.ensures) (ap is_ok c.in-Ok.is)
    (pins_of _ _ _ _) c.put_book.new.books c.take.result (pins-back (lent c.take.new.self) (search rules) (search rules) (search rules) (search rules) ∙ c.take.ensures.columns, c.take.ensures.entries) c.put_book.ensures
