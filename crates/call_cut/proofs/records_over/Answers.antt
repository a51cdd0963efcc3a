-- `call_cut::records_over` meets its contract: store by store, by the laws of `NoneOver`.
use Rattle.model.specs.State.{Ranges, at}
use Rattle.call_cut.specs.Needs.{overfull}
use Rattle.call_cut.proofs.Stores.{RangesAre, over-start, over-found, over-turn, over-end, is-over, not_over}
use native.Mathlib.Omega.{arith}
use Rattle.call_cut.proofs.records_over.Goals as goal

pub loop-s-init : goal.loop-s-init
loop-s-init c = over-start _ _

pub returns-then-n-ranges_across-gt128 : goal.returns-then-n-ranges_across-gt128
returns-then-n-ranges_across-gt128 c = let a = c.args in
    let s = c.loop-s.s in
    λ r x y z.
    over-found (RangesAre a.node.now a.start.now a.end.now) (λ (q : Ranges). overfull a.j a.k q a.records) a.stores s
    c.loop-s-test.true (λ q o. is-over 128 (at a.records s) _ _ (c.ranges_across.ensures.1 q o.0 o.1 o.2) c.if-n-ranges_across-gt128.true) r
    (x, y, z)

pub loop-s-preserved : goal.loop-s-preserved
loop-s-preserved c = let a = c.args in
    let s = c.loop-s.s in
    over-turn (RangesAre a.node.now a.start.now a.end.now) (λ (q : Ranges). overfull a.j a.k q a.records) s c.loop-s.invariant
    (λ q o. not_over 128 (at a.records s) _ _ (c.ranges_across.ensures.1 q o.0 o.1 o.2) c.if-n-ranges_across-gt128.false)

pub returns : goal.returns
returns c = let a = c.args in
    λ r x y z.
    over-end (RangesAre a.node.now a.start.now a.end.now) (λ (q : Ranges). overfull a.j a.k q a.records) a.stores _ c.loop-s.invariant
    (omega arith) r (x, y, z)
