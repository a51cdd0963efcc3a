-- `rule_touch::join_ranges` meets its contract: what stands so far, the range joined so far and those to come, by the laws of `Joining`.
use Prim.Native.Nat.{◌+◌}
use mathlib.Core.Path.{sym, ap, ◌∙◌}
use native.Mathlib.Omega.{arith}
use Rattle.model.specs.State.{range_at}
use Rattle.model.specs.Touch.{joins}
use Rattle.rule_overlap.proofs.Laws.{same_start, same_then}
use Rattle.rule_touch.proofs.Laws.{joining_start, joining_sized, joining_yes, joining_no, joining_end}
use Rattle.rule_touch.proofs.join_ranges.Goals as goal

pub loop-i-init : goal.loop-i-init
loop-i-init c = (same_start, joining_start _ _ _ c.requires.2 c.requires.0 c.requires.1)

pub joins_at-requires : goal.joins_at-requires
joins_at-requires c =
    let v = c.loop-i.invariant.1 in
    (omega (arith, c.loop-i-test.true, v.few, c.requires.1), rw c.view.ensures (joining_sized _ _ _ _ _ _ c.requires.2 c.requires.1 v))

pub merge-requires : goal.merge-requires
merge-requires c =
    let v = c.loop-i.invariant.1 in
    (c.loop-i-test.true, omega (arith, v.few, c.requires.1), joining_sized _ _ _ _ _ _ c.requires.2 c.requires.1 v)

pub loop-i-preserved-then-joins_at : goal.loop-i-preserved-then-joins_at
loop-i-preserved-then-joins_at c =
    let v = c.loop-i.invariant in
    (same_then v.0 c.merge.ensures.same, joining_yes _ _ _ _ _ _ c.requires.2 c.requires.1 v.1 c.loop-i-test.true (sym c.if-joins_at.true ∙ c.joins_at.ensures ∙ ap (λ t. joins c.args.v (range_at t c.loop-i.i) (range_at t (c.loop-i.i + 1))) c.view.ensures) _ c.merge.ensures.columns)

pub loop-i-preserved : goal.loop-i-preserved
loop-i-preserved c =
    let v = c.loop-i.invariant in
    (v.0, joining_no _ _ _ _ _ _ c.requires.2 c.requires.1 v.1 c.loop-i-test.true (sym c.if-joins_at.false ∙ c.joins_at.ensures ∙ ap (λ t. joins c.args.v (range_at t c.loop-i.i) (range_at t (c.loop-i.i + 1))) c.view.ensures))

pub returns-clause-columns : goal.returns-clause-columns
returns-clause-columns c = (joining_end _ _ _ _ _ _ c.requires.2 c.requires.1 c.loop-i.invariant.1 c.loop-i-test.false).0

pub returns-clause-count : goal.returns-clause-count
returns-clause-count c = let e = joining_end _ _ _ _ _ _ c.requires.2 c.requires.1 c.loop-i.invariant.1 c.loop-i-test.false in (e.1, e.2)
