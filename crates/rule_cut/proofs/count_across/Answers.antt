-- `rule_cut::count_across` meets its contract, by the law of `Counting`. Assumes nothing.
use Rattle.rule_cut.proofs.Counted.{count-start, count_turn}
use Rattle.rule_cut.proofs.count_across.Goals as goal

pub loop-i-init : goal.loop-i-init
loop-i-init c = count-start

pub loop-i-preserved : goal.loop-i-preserved
loop-i-preserved c = count_turn c.loop-i.invariant c.is_across.ensures c.from-across.ensures
