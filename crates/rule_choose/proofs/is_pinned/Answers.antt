-- `rule_choose::is_pinned` meets its contract: what the pins to come say is what all say.
use Rattle.rule_choose.proofs.Laws.{passed_start, passed-hit, passed-more, passed-end}
use Rattle.rule_choose.proofs.is_pinned.Goals as goal

pub returns-then-overlaps : goal.returns-then-overlaps
returns-then-overlaps c = passed-hit c.loop-k.invariant c.loop-k-test.true c.overlaps.ensures c.if-overlaps.true

pub loop-k-preserved : goal.loop-k-preserved
loop-k-preserved c = passed-more c.loop-k.invariant c.loop-k-test.true c.overlaps.ensures c.if-overlaps.false

pub returns : goal.returns
returns c = passed-end c.loop-k.invariant c.loop-k-test.false
