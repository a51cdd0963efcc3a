-- `rule_remove::trim_one` meets its contract: a head stays, a tail stays, or the record goes.
use Rattle.rule_remove.proofs.Laws.{trim-head, trim-tail, trim-all}
use Rattle.rule_remove.proofs.trim_one.Goals as goal

pub returns-then-ranges-i-clause-columns : goal.returns-then-ranges-i-clause-columns
returns-then-ranges-i-clause-columns c = let p = c.requires.i_lt_n in trim-head _ p.2 _ _ p.0 p.1 _ _ c.requires.i_value c.if-ranges-i.true

pub returns-then-sp-ranges-clause-columns : goal.returns-then-sp-ranges-clause-columns
returns-then-sp-ranges-clause-columns c = let p = c.requires.i_lt_n in trim-tail _ p.2 _ _ p.0 p.1 _ _ c.if-ranges-i.false c.if-sp-ranges.true

pub returns-else-sp-ranges-clause-columns : goal.returns-else-sp-ranges-clause-columns
returns-else-sp-ranges-clause-columns c = let p = c.requires.i_lt_n in
    trim-all _ p.2 _ _ p.0 p.1 _ _ c.if-ranges-i.false c.if-sp-ranges.false _ c.cut.ensures.columns
