-- `test_store::pinned_is` meets its contract: the sum so far is that of the entries passed, and at most 1,024,000,000 for each. Assumes nothing.
use Rattle.std.proofs.Common.{◌-◌, arith}
use Rattle.model.specs.State.{at}
use Rattle.test_store.proofs.Sums.{pinned-more, pinned_none, product, pinned_too_much}
use Rattle.test_store.proofs.pinned_is.Goals as goal

pub loop-k-init : goal.loop-k-init
loop-k-init c = (pinned_none c.args.start.now c.args.end.now c.args.count.now c.args.a, omega arith)

pub returns-then-count-k-gt1000000 : goal.returns-then-count-k-gt1000000
returns-then-count-k-gt1000000 c =
    let a = c.args in
    let k = c.loop-k.k in
    pinned_too_much a.start.now a.end.now a.count.now a.a a.n k a.pinned c.loop-k.auto.k c.loop-k-test.true (c.requires.6 k c.loop-k.auto.k c.loop-k-test.true).0 c.if-count-k-gt1000000.true c.requires.5

pub loop-k-preserved : goal.loop-k-preserved
loop-k-preserved c =
    let l = c.loop-k in
    let a = c.args in
    let h = c.requires.6 l.k l.auto.k c.loop-k-test.true in
    let p = product (at a.end.now l.k - at a.start.now l.k) (at a.count.now l.k) (omega (arith, h.1)) c.if-count-k-gt1000000.false in
    let m = pinned-more a.start.now a.end.now a.count.now a.a l.k l.auto.k in
    (omega arith, omega arith)
