-- `call_touch::look_spans` meets its contract: span by span, by the laws of `Looks`.
use Rattle.call_touch.proofs.Laws.{looks-start, looks_ask, looks-more}
use Rattle.call_touch.proofs.look_spans.Goals as goal

pub loop-sp-init : goal.loop-sp-init
loop-sp-init c = looks-start c.args.spans.now c.args.len.now c.args.x

pub check_one-y-requires : goal.check_one-y-requires
check_one-y-requires c = looks_ask c.args.spans.now c.args.len.now c.args.x c.loop-sp.sp-index c.loop-sp.y c.loop-sp.invariant c.requires

pub loop-sp-preserved : goal.loop-sp-preserved
loop-sp-preserved c =
    looks-more c.args.spans.now c.args.len.now c.args.x c.loop-sp.sp-index c.loop-sp.y c.loop-sp.invariant c.loop-sp-test.true c.check_one-y.result c.check_one-y.ensures
