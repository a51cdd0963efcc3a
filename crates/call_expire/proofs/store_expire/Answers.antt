-- `call_expire::store_expire` meets its contract: a refusal's number is the definition's, and where there is none the law `call-done` has what the expiry leaves. Assumes nothing.
use Rattle.std.proofs.Common.{refl, rules}
use Rattle.shape_state.specs.Lent.{tree_of, ranges_of, pins_of}
use Rattle.pool_out.specs.Outs.{listed}
use Rattle.call_expire.proofs.Laws.{call-refused, book_in_lem, pool_in, call-done, came_back}
use Rattle.call_expire.proofs.store_expire.Goals as goal

pub returns-then-number-ne0 : goal.returns-then-number-ne0
returns-then-number-ne0 c = call-refused _ _ c.args.s c.args.time c.args.seconds c.refusal-number.result (c.refusal-number.ensures _ _ c.requires.0 c.requires.1 refl) c.if-number-ne0.true

pub book_of-b-requires : goal.book_of-b-requires
book_of-b-requires c = let a = c.args in
    book_in_lem _ _ a.s a.time a.seconds c.requires.0 c.requires.1 c.refusal-number.result (c.refusal-number.ensures _ _ c.requires.0 c.requires.1 refl) c.if-number-ne0.false

pub expire_pools-r-requires : goal.expire_pools-r-requires
expire_pools-r-requires c = let a = c.args in
    pool_in _ _ a.s a.time a.seconds c.requires.0 c.requires.1 c.refusal-number.result (c.refusal-number.ensures _ _ c.requires.0 c.requires.1 refl) c.if-number-ne0.false c.book_of-b.result c.book_of-b.ensures

pub put_ranged-requires : goal.put_ranged-requires
put_ranged-requires c = let a = c.args in
    book_in_lem _ _ a.s a.time a.seconds c.requires.0 c.requires.1 c.refusal-number.result (c.refusal-number.ensures _ _ c.requires.0 c.requires.1 refl) c.if-number-ne0.false

pub returns : goal.returns
returns c = let a = c.args in
    let k = c.expire_pools-r in
    came_back (search rules)
    (call-done (tree_of a.parent.now a.depth.now a.len.now a.run.now a.words.now) (ranges_of a.node.now a.start.now a.end.now a.id.now a.stamp.now a.touched.now a.write.now)
    (pins_of a.pin_node.now a.pin_start.now a.pin_end.now a.pin_count.now) a.marks.now a.bytes.now a.books.now _ a.s a.time a.seconds c.requires.0 c.requires.1
    c.refusal-number.result (c.refusal-number.ensures _ _ c.requires.0 c.requires.1 refl) c.if-number-ne0.false c.book_of-b.result c.book_of-b.ensures
    {c = ranges_of k.new.node k.new.start k.new.end k.new.id k.new.stamp k.new.touched k.new.write} {ks = k.new.marks} {lʹ = listed k.new.outs} {r = k.result} k.ensures.expired
    c.put_ranged.new.books c.put_ranged.ensures)
