-- `rule_touch::recut` meets its contract: the pieces that stand so far and the records to come, by the laws of `Recutting`.
use native.Mathlib.Omega.{arith}
use Rattle.rule_overlap.proofs.Laws.{same_start, same_then}
use Rattle.rule_touch.proofs.Laws.{recutting_start, recutting_sized, recutting_hit, recutting_room, recutting_turn, recutting_end}
use Rattle.rule_touch.proofs.recut.Goals as goal

pub loop-j-init : goal.loop-j-init
loop-j-init c = (same_start, recutting_start _ _ _ _ _ _ _ _ c.requires.3)

pub recut_one-p-requires-clause-i_lt_n : goal.recut_one-p-requires-clause-i_lt_n
recut_one-p-requires-clause-i_lt_n c =
    let p = c.requires in
    let v = c.loop-j.invariant.1 in
    let t = c.loop-j-test.true in
    (omega (arith, t, p.3.over.high), recutting_room _ _ _ _ _ _ _ _ _ _ _ p.3 p.2 v t, omega (arith, v.count, p.1), recutting_sized _ _ _ _ _ _ _ _ _ _ _ p.3 p.2 v)

pub recut_one-p-requires-clause-start_lt_end : goal.recut_one-p-requires-clause-start_lt_end
recut_one-p-requires-clause-start_lt_end c = let p = c.requires in
    (p.0, recutting_hit _ _ _ _ _ _ _ _ _ _ _ p.3 p.2 c.loop-j.invariant.1 c.loop-j-test.true)

pub loop-j-preserved : goal.loop-j-preserved
loop-j-preserved c =
    let v = c.loop-j.invariant in
    let e = c.recut_one-p.ensures in
    (same_then v.0 e.same, recutting_turn _ _ _ _ _ _ _ _ _ _ _ c.requires.3 c.requires.2 v.1 c.loop-j-test.true _ _ e.columns e.count)

pub returns-clause-columns : goal.returns-clause-columns
returns-clause-columns c = (recutting_end _ _ _ _ _ _ _ _ _ _ _ c.requires.3 c.requires.2 c.loop-j.invariant.1 c.loop-j-test.false).0

pub returns-clause-count : goal.returns-clause-count
returns-clause-count c = (recutting_end _ _ _ _ _ _ _ _ _ _ _ c.requires.3 c.requires.2 c.loop-j.invariant.1 c.loop-j-test.false).1
