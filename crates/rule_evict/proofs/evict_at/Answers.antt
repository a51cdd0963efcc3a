-- `rule_evict::evict_at` meets its contract: the test is that of the definition, and a whole record is cut out.
use Rattle.pool_range.specs.Lent.{lent}
use Rattle.rule_evict.proofs.Laws.{cols-whole, cols-part}
use Rattle.rule_evict.proofs.evict_at.Goals as goal

pub returns-then-ranges-i-clause-columns : goal.returns-then-ranges-i-clause-columns
returns-then-ranges-i-clause-columns c = cols-whole _ _ _ (lent c.args.ranges.now) (lent c.cut.new.self) c.if-ranges-i.true c.cut.ensures.columns

pub returns-clause-columns : goal.returns-clause-columns
returns-clause-columns c = cols-part _ _ _ (lent c.args.ranges.now) c.if-ranges-i.false
