-- `call_touch_span::one_turn` meets its contract: the calls together are a turn of a touch. Assumes nothing.
use mathlib.Core.Path.{refl}
use Rattle.shape_state.specs.Lent.{ranges_of}
use Rattle.call_touch_span.proofs.Laws.{run_asks_number, run_asks_touch, run_asks_on, run-refused, run-taken}
use Rattle.call_touch_span.proofs.one_turn.Goals as goal

pub turn_number-number-requires-clause-placed : goal.turn_number-number-requires-clause-placed
turn_number-number-requires-clause-placed c = let z = c.args in
    let p = c.requires in
    run_asks_number p.others p.books z.sp z.depth.now z.bytes.now (ranges_of z.node.now z.start.now z.end.now z.id.now z.stamp.now z.touched.now z.write.now) z.marks.now z.s z.refreshes z.y z.time z.counted p.ready

pub returns-then-number-ne0 : goal.returns-then-number-ne0
returns-then-number-ne0 c = let z = c.args in
    λ o x h. run-refused o x z.sp z.depth.now z.bytes.now (ranges_of z.node.now z.start.now z.end.now z.id.now z.stamp.now z.touched.now z.write.now) z.marks.now z.s z.refreshes z.y z.time z.counted h c.turn_number-number.result _ refl c.if-number-ne0.true c.turn_number-number.ensures

pub touch_pools-used-requires : goal.touch_pools-used-requires
touch_pools-used-requires c = let z = c.args in
    let p = c.requires in
    run_asks_touch p.others p.books z.sp z.depth.now z.bytes.now (ranges_of z.node.now z.start.now z.end.now z.id.now z.stamp.now z.touched.now z.write.now) z.marks.now z.s z.refreshes z.y z.time z.counted p.ready c.turn_number-number.result c.if-number-ne0.false c.turn_number-number.ensures

pub run_on-requires : goal.run_on-requires
run_on-requires c = let z = c.args in
    let p = c.requires in
    let k = c.touch_pools-used in
    run_asks_on p.others p.books z.sp z.depth.now z.bytes.now (ranges_of z.node.now z.start.now z.end.now z.id.now z.stamp.now z.touched.now z.write.now) z.marks.now z.s z.refreshes z.y z.time z.counted p.ready c.turn_number-number.result (ranges_of k.new.node k.new.start k.new.end k.new.id k.new.stamp k.new.touched k.new.write) k.new.marks k.result c.if-number-ne0.false c.turn_number-number.ensures k.ensures

pub returns : goal.returns
returns c = let z = c.args in
    let k = c.touch_pools-used in
    λ o x h. run-taken o x z.sp z.depth.now z.bytes.now (ranges_of z.node.now z.start.now z.end.now z.id.now z.stamp.now z.touched.now z.write.now) z.marks.now z.s z.refreshes z.y z.time z.counted h c.turn_number-number.result (ranges_of k.new.node k.new.start k.new.end k.new.id k.new.stamp k.new.touched k.new.write) k.new.marks k.result c.run_on.result c.run_on.ensures c.if-number-ne0.false c.turn_number-number.ensures k.ensures
