-- `rule_touch::merge` meets its contract: the end is stored, then the right one is cut out.
use Rattle.rule_touch.proofs.Laws.{merge_is}
use Rattle.rule_touch.proofs.merge.Goals as goal

pub returns-clause-columns : goal.returns-clause-columns
returns-clause-columns c = let p = c.requires in merge_is _ p.2 _ _ p.0 p.1 _ c.cut.ensures.columns
