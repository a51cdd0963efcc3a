-- `call_touch::touch_kept` meets its contract: the part that was kept gives the pools back where a turn was refused, and the numbers are written where none was. Assumes nothing.
use lib.ListN.{take}
use Rattle.shape_state.specs.Lent.{ranges_of}
use Rattle.call_touch.proofs.Running.{went_done, went_refused}
use Rattle.call_touch.proofs.touch_kept.Goals as goal

pub returns-then-z-ne0 : goal.returns-then-z-ne0
returns-then-z-ne0 c = let k = c.take_turns-z in
    let u = c.undo in
    λ o q. went_refused o c.args.books.now (take c.args.count c.args.spans) c.args.depth.now c.args.bytes.now (ranges_of c.args.node.now c.args.start.now c.args.end.now c.args.id.now c.args.stamp.now c.args.touched.now c.args.write.now) c.args.marks.now c.args.s c.args.refreshes c.args.time c.args.counted c.args.y q
    (ranges_of k.new.node k.new.start k.new.end k.new.id k.new.stamp k.new.touched k.new.write) k.new.marks k.result (k.ensures o c.args.books.now q)
    c.keep-old.result (ranges_of u.new.node u.new.start u.new.end u.new.id u.new.stamp u.new.touched u.new.write) u.new.marks c.if-z-ne0.true c.keep-old.ensures u.ensures.0 u.ensures.1

pub returns : goal.returns
returns c = let k = c.take_turns-z in
    λ o q. went_done o c.args.books.now (take c.args.count c.args.spans) c.args.depth.now c.args.bytes.now (ranges_of c.args.node.now c.args.start.now c.args.end.now c.args.id.now c.args.stamp.now c.args.touched.now c.args.write.now) c.args.marks.now c.args.s c.args.refreshes c.args.time c.args.counted c.args.y q
    (ranges_of k.new.node k.new.start k.new.end k.new.id k.new.stamp k.new.touched k.new.write) k.new.marks k.result (k.ensures o c.args.books.now q)
    c.put_run.new.books c.put_run.ensures c.if-z-ne0.false
