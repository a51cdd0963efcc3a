-- `rule_remove::cut_ends` meets its contract: the pieces that stand so far and the records to come, by the laws of `Cutting`.
use native.Mathlib.Omega.{arith}
use Rattle.rule_overlap.proofs.Laws.{same_start, same_then}
use Rattle.rule_remove.proofs.Laws.{cutting_start, cutting_sized, cutting_both, cutting_turn, cutting_end}
use Rattle.rule_remove.proofs.cut_ends.Goals as goal

pub loop-j-init : goal.loop-j-init
loop-j-init c = (same_start, cutting_start _ _ _ _ _ c.requires.cuttable)

pub trim_one-i-requires-clause-i_lt_n : goal.trim_one-i-requires-clause-i_lt_n
trim_one-i-requires-clause-i_lt_n c =
    let w = c.requires.cuttable in
    let v = c.loop-j.invariant.1 in
    let t = c.loop-j-test.true in
    (omega (arith, t, w.over.high), omega (arith, t, v.few, w.over.high, w.few), cutting_sized _ _ _ _ _ _ _ _ w v)

pub trim_one-i-requires-clause-i_value : goal.trim_one-i-requires-clause-i_value
trim_one-i-requires-clause-i_value c =
    let v = c.loop-j.invariant.1 in
    let t = c.loop-j-test.true in
    cutting_both _ _ _ _ _ _ _ _ c.requires.cuttable v t (c.requires.each _ v.low t)

pub loop-j-preserved : goal.loop-j-preserved
loop-j-preserved c =
    let v = c.loop-j.invariant in
    let t = c.loop-j-test.true in
    let e = c.trim_one-i.ensures in
    (same_then v.0 e.same, cutting_turn _ _ _ _ _ _ _ _ c.requires.cuttable v.1 t (c.requires.each _ v.1.low t) _ _ e.columns e.count)

pub returns-clause-cut : goal.returns-clause-cut
returns-clause-cut c = cutting_end _ _ _ _ _ _ _ _ c.requires.cuttable c.loop-j.invariant.1 c.loop-j-test.false c.requires.each
