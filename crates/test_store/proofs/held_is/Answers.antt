-- `test_store::held_is` meets its contract: the sum so far is that of the records passed, and at most 1,024 for each. Assumes nothing.
use Rattle.std.proofs.Common.{arith}
use Rattle.test_store.proofs.Sums.{held_more, held_none}
use Rattle.test_store.proofs.held_is.Goals as goal

pub loop-k-init : goal.loop-k-init
loop-k-init c = (held_none c.args.start.now c.args.end.now c.args.a, omega arith)

pub loop-k-preserved : goal.loop-k-preserved
loop-k-preserved c =
    let l = c.loop-k in
    let h = c.requires.4 l.k l.auto.k c.loop-k-test.true in
    let m = held_more c.args.start.now c.args.end.now c.args.a l.k l.auto.k in
    (omega arith, omega arith)
