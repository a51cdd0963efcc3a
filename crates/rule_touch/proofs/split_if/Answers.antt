-- `rule_touch::split_if` meets its contract: a split, or the records as they are.
use Rattle.rule_touch.proofs.Laws.{split_off, room-off}
use Rattle.rule_touch.proofs.split_if.Goals as goal

pub returns-then-not-on-clause-columns : goal.returns-then-not-on-clause-columns
returns-then-not-on-clause-columns c = let p = c.requires in
    (split_off _ p.2 _ _ p.0 c.args.on _ _ c.if-not-on.true (room-off c.args.on _ p.1)).0
