-- `call_touch::touch_spans` meets its contract: turn by turn, by the laws of `Turns`.
use Rattle.shape_state.specs.Lent.{ranges_of}
use Rattle.call_touch.proofs.Laws.{list_asks, list-more, list-end}
use Rattle.call_touch.proofs.touch_spans.Goals as goal

pub one-y-requires : goal.one-y-requires
one-y-requires c =
    let a = c.args in
    let l = c.loop-sp in
    list_asks a.spans.now a.depth.now a.bytes.now (ranges_of a.node.now a.start.now a.end.now a.id.now a.stamp.now a.touched.now a.write.now) a.marks.now a.x
    l.sp-index (ranges_of l.node l.start l.end l.id l.stamp l.touched l.write) l.marks l.y l.invariant c.loop-sp-test.true c.requires

pub loop-sp-preserved : goal.loop-sp-preserved
loop-sp-preserved c =
    let a = c.args in
    let l = c.loop-sp in
    let k = c.one-y in
    list-more a.spans.now a.depth.now a.bytes.now (ranges_of a.node.now a.start.now a.end.now a.id.now a.stamp.now a.touched.now a.write.now) a.marks.now a.x
    l.sp-index (ranges_of l.node l.start l.end l.id l.stamp l.touched l.write) l.marks l.y l.invariant c.loop-sp-test.true
    (ranges_of k.new.node k.new.start k.new.end k.new.id k.new.stamp k.new.touched k.new.write) k.new.marks k.result k.ensures

pub returns : goal.returns
returns c = list-end c.loop-sp.auto.sp-index-end c.loop-sp-test.false c.loop-sp.invariant
