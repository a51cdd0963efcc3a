-- `rule_cut_pins::all_stay` meets its contract, by the law of `Staying`. Assumes nothing.
use Rattle.rule_cut_pins.proofs.Staying.{stay-start, stay-turn, stay-not, stay-end}
use Rattle.rule_cut_pins.proofs.all_stay.Goals as goal

pub loop-i-init : goal.loop-i-init
loop-i-init c = stay-start

pub returns-then-not-stays : goal.returns-then-not-stays
returns-then-not-stays c = stay-not c.loop-i.invariant c.loop-i-test.true c.stays.ensures c.if-not-stays.true

pub loop-i-preserved : goal.loop-i-preserved
loop-i-preserved c = stay-turn c.loop-i.invariant c.loop-i-test.true c.stays.ensures c.if-not-stays.false

pub returns : goal.returns
returns c = stay-end c.loop-i.invariant c.loop-i-test.false
