-- `rule_fill::store_missing` meets its contract: the gaps found and those still to come are the gaps of the span, by the laws of `Scan`.
use Rattle.std.proofs.Common.{refl, ap, ◌∙◌, arith, List, ℕ, min, max}
use Rattle.model.specs.State.{at}
use Rattle.pool_range.specs.Lent.{seen}
use Rattle.rule_fill.proofs.Missing.{scan_start, scan_pass, scan_turn, scan_end, scan_few}
use Rattle.rule_fill.proofs.store_missing.Goals as goal
use Rattle.rule_fill.proofs.store_missing.Goals.{then-ranges-i, else-ranges-i}

pub loop-i-init : goal.loop-i-init
loop-i-init c = λ d v a z. scan_start _ c.none-gaps.ensures.0 c.none-gaps.ensures.1

pub loop-i-preserved : goal.loop-i-preserved
loop-i-preserved c = λ d v a z.
    elim c.if-ranges-i.branch [
      | then-ranges-i w ↦ rw (w.gaps-is, w.from-is) (scan_turn (c.loop-i.invariant d v a z) _ _ _ c.loop-i-test.true (rw v w.if-ranges-i.true) (rw a w.min.ensures) (rw z w.max-from.ensures) w.add.ensures.gaps w.add.ensures.count)
      | else-ranges-i w ↦ rw (w.gaps-is, w.from-is) (scan_pass (c.loop-i.invariant d v a z) c.loop-i-test.true (rw v w.if-ranges-i.false))
    ]

pub add-requires : goal.add-requires
add-requires c = let s = c.loop-i.invariant (seen c.args.ranges) refl refl refl in omega (arith, s.few)

pub add-requires-2 : goal.add-requires-2
add-requires-2 c = let s = c.loop-i.invariant (seen c.args.ranges) refl refl refl in omega (arith, s.few)

pub returns-clause-few : goal.returns-clause-few
returns-clause-few c = scan_few (c.loop-i.invariant (seen c.args.ranges) refl refl refl) c.add-2.new.self _ _ c.loop-i.auto.i-end c.add-2.ensures.count

pub returns-clause-gaps : goal.returns-clause-gaps
returns-clause-gaps c = λ d v a z. scan_end (c.loop-i.invariant d v a z) c.add-2.new.self c.loop-i-test.false c.add-2.ensures.gaps
