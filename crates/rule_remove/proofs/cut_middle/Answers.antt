-- `rule_remove::cut_middle` meets its contract: the record in two at the span's end, and then the left part's end.
use native.Mathlib.Omega.{arith}
use Rattle.rule_remove.proofs.Laws.{middle-is, middle_sized}
use Rattle.rule_remove.proofs.cut_middle.Goals as goal

pub bounds-ranges-i : goal.bounds-ranges-i
bounds-ranges-i c = let p = c.requires in
    omega (arith, p.0, p.1, (middle_sized _ p.2 _ _ p.0 p.1 0 _ _ _ c.split_rec.ensures.columns).end)

pub returns-clause-columns : goal.returns-clause-columns
returns-clause-columns c = let p = c.requires in middle-is _ p.2 _ _ p.0 p.1 _ _ _ _ c.split_rec.ensures.columns
