-- `call_bring::store_insert` meets its contract: refused for its arguments, given back at capacity 0, refused where the gaps need too much, or brought in:
-- a sound state makes the store's part ready, and `brought_in_lem` has what the pools and the small numbers become. Assumes nothing.
use mathlib.Core.Path.{refl}
use Rattle.std.proofs.Common.{rules}
use Rattle.shape_state.specs.Lent.{ranges_of}
use Rattle.pool_out.specs.Outs.{listed}
use Rattle.shape_answer.specs.Answers.{state_from}
use Rattle.call_bring.proofs.Bring.{rising-gaps, sum_fits, pool_in, settle_in, brought_in_lem}
use Rattle.call_bring.proofs.Laws.{book_in_lem, none_read, some_read, need-asked, gaps_asked, argument_refused, store-there, priced, given_back, keep-ready, need-refused, insert-ready, kept_whole, came_back}
use Rattle.call_bring.proofs.store_insert.Goals as goal

pub returns-then-number-gt0 : goal.returns-then-number-gt0
returns-then-number-gt0 c = argument_refused _ _ c.args.s c.args.sp c.args.time c.requires.0 c.requires.1 c.args.w c.argument_refusal-number.result c.if-number-gt0.true c.argument_refusal-number.ensures

pub book_of-b-requires : goal.book_of-b-requires
book_of-b-requires c = book_in_lem c.requires.0 (store-there _ _ c.args.s c.args.sp c.args.time c.requires.0 c.requires.1 c.argument_refusal-number.result c.if-number-gt0.false c.argument_refusal-number.ensures)

pub give_back-requires : goal.give_back-requires
give_back-requires c = (priced _ _ c.args.s c.args.sp c.args.time c.requires.0 c.requires.1 c.argument_refusal-number.result c.if-number-gt0.false c.argument_refusal-number.ensures, c.requires.1)

pub returns-then-b-eq0 : goal.returns-then-b-eq0
returns-then-b-eq0 c = let k = c.give_back in
    came_back (search rules) (given_back _ _ c.args.s c.args.sp c.args.time c.requires.0 c.requires.1 c.argument_refusal-number.result c.if-number-gt0.false c.argument_refusal-number.ensures (none_read c.book_of-b.ensures c.if-b-eq0.true) c.args.w (listed k.new.outs) k.ensures.given)

pub gaps_of-gaps-requires : goal.gaps_of-gaps-requires
gaps_of-gaps-requires c = gaps_asked (keep-ready _ _ c.args.s c.args.sp c.args.time c.requires.0 c.requires.1 c.argument_refusal-number.result c.if-number-gt0.false c.argument_refusal-number.ensures (some_read c.book_of-b.ensures c.if-b-eq0.false)) c.book_of-b.result c.book_of-b.ensures

pub need_number-lack-requires : goal.need_number-lack-requires
need_number-lack-requires c = need-asked (keep-ready _ _ c.args.s c.args.sp c.args.time c.requires.0 c.requires.1 c.argument_refusal-number.result c.if-number-gt0.false c.argument_refusal-number.ensures (some_read c.book_of-b.ensures c.if-b-eq0.false)) c.book_of-b.result c.book_of-b.ensures

pub returns-then-lack-gt0 : goal.returns-then-lack-gt0
returns-then-lack-gt0 c = came_back (search rules) (need-refused (keep-ready _ _ c.args.s c.args.sp c.args.time c.requires.0 c.requires.1 c.argument_refusal-number.result c.if-number-gt0.false c.argument_refusal-number.ensures (some_read c.book_of-b.ensures c.if-b-eq0.false)) c.book_of-b.ensures c.gaps_of-gaps.result c.gaps_of-gaps.ensures.gaps c.args.w c.need_number-lack.result c.if-lack-gt0.true (rw c.count-need.ensures at c.need_number-lack.ensures))

pub blocks-blocks-requires : goal.blocks-blocks-requires
blocks-blocks-requires c = (c.gaps_of-gaps.ensures.few, rising-gaps (insert-ready (keep-ready _ _ c.args.s c.args.sp c.args.time c.requires.0 c.requires.1 c.argument_refusal-number.result c.if-number-gt0.false c.argument_refusal-number.ensures (some_read c.book_of-b.ensures c.if-b-eq0.false)) c.book_of-b.ensures c.gaps_of-gaps.result c.gaps_of-gaps.ensures.gaps c.if-lack-gt0.false (rw c.count-need.ensures at c.need_number-lack.ensures)))

pub overflow_add-held : goal.overflow_add-held
overflow_add-held c = sum_fits (insert-ready (keep-ready _ _ c.args.s c.args.sp c.args.time c.requires.0 c.requires.1 c.argument_refusal-number.result c.if-number-gt0.false c.argument_refusal-number.ensures (some_read c.book_of-b.ensures c.if-b-eq0.false)) c.book_of-b.ensures c.gaps_of-gaps.result c.gaps_of-gaps.ensures.gaps c.if-lack-gt0.false (rw c.count-need.ensures at c.need_number-lack.ensures)) c.book_of-b.result c.book_of-b.ensures c.blocks-blocks.ensures

pub bring_pools-t-requires : goal.bring_pools-t-requires
bring_pools-t-requires c = pool_in (insert-ready (keep-ready _ _ c.args.s c.args.sp c.args.time c.requires.0 c.requires.1 c.argument_refusal-number.result c.if-number-gt0.false c.argument_refusal-number.ensures (some_read c.book_of-b.ensures c.if-b-eq0.false)) c.book_of-b.ensures c.gaps_of-gaps.result c.gaps_of-gaps.ensures.gaps c.if-lack-gt0.false (rw c.count-need.ensures at c.need_number-lack.ensures)) c.book_of-b.result c.book_of-b.ensures c.args.w c.blocks-blocks.result c.blocks-blocks.ensures

pub settle-requires : goal.settle-requires
settle-requires c = rw c.count-need.ensures (settle_in (insert-ready (keep-ready _ _ c.args.s c.args.sp c.args.time c.requires.0 c.requires.1 c.argument_refusal-number.result c.if-number-gt0.false c.argument_refusal-number.ensures (some_read c.book_of-b.ensures c.if-b-eq0.false)) c.book_of-b.ensures c.gaps_of-gaps.result c.gaps_of-gaps.ensures.gaps c.if-lack-gt0.false (rw c.count-need.ensures at c.need_number-lack.ensures)) c.book_of-b.result c.book_of-b.ensures)

pub returns : goal.returns
returns c = let g = c.gaps_of-gaps in
    let e = c.book_of-b in
    let k = c.bring_pools-t in
    let b = c.settle in
    came_back (search rules) (kept_whole (keep-ready _ _ c.args.s c.args.sp c.args.time c.requires.0 c.requires.1 c.argument_refusal-number.result c.if-number-gt0.false c.argument_refusal-number.ensures (some_read c.book_of-b.ensures c.if-b-eq0.false)) e.ensures g.result g.ensures.gaps c.if-lack-gt0.false (rw c.count-need.ensures at c.need_number-lack.ensures) {w = c.args.w}
    {stʹ = state_from c.args.parent.now c.args.depth.now c.args.len.now c.args.run.now c.args.words.now k.new.node k.new.start k.new.end k.new.id k.new.stamp k.new.touched k.new.write c.args.pin_node.now c.args.pin_start.now c.args.pin_end.now c.args.pin_count.now k.new.marks c.args.bytes.now b.new.books}
    {lʹ = listed k.new.outs} {o = k.result.outs} {b = c.blocks-blocks.result}
    (brought_in_lem (insert-ready (keep-ready _ _ c.args.s c.args.sp c.args.time c.requires.0 c.requires.1 c.argument_refusal-number.result c.if-number-gt0.false c.argument_refusal-number.ensures (some_read c.book_of-b.ensures c.if-b-eq0.false)) c.book_of-b.ensures c.gaps_of-gaps.result c.gaps_of-gaps.ensures.gaps c.if-lack-gt0.false (rw c.count-need.ensures at c.need_number-lack.ensures)) c.args.w {c = ranges_of k.new.node k.new.start k.new.end k.new.id k.new.stamp k.new.touched k.new.write} {ms = k.new.marks} {lʹ = listed k.new.outs} e.result e.ensures b.new.books refl refl (rw c.count-need.ensures at b.ensures) (k.ensures.brought c.args.pin_count.now) c.blocks-blocks.ensures))
