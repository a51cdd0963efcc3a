-- `call_cut::entries_over` meets its contract: store by store, by the laws of `NoneOver`.
use Rattle.model.specs.State.{Pins, at}
use Rattle.call_cut.specs.Needs.{overpinned}
use Rattle.call_cut.proofs.Stores.{PinsAre, over-start, over-found, over-turn, over-end, is-over, not_over}
use native.Mathlib.Omega.{arith}
use Rattle.call_cut.proofs.entries_over.Goals as goal

pub loop-s-init : goal.loop-s-init
loop-s-init c = over-start _ _

pub returns-then-n-pins_across-gt32 : goal.returns-then-n-pins_across-gt32
returns-then-n-pins_across-gt32 c = let a = c.args in
    let s = c.loop-s.s in
    λ r x y z.
    over-found (PinsAre a.node.now a.start.now a.end.now) (λ (q : Pins). overpinned a.j a.k q a.entries) a.stores s
    c.loop-s-test.true (λ q o. is-over 32 (at a.entries s) _ _ (c.pins_across.ensures.1 q o.0 o.1 o.2) c.if-n-pins_across-gt32.true) r
    (x, y, z)

pub loop-s-preserved : goal.loop-s-preserved
loop-s-preserved c = let a = c.args in
    let s = c.loop-s.s in
    over-turn (PinsAre a.node.now a.start.now a.end.now) (λ (q : Pins). overpinned a.j a.k q a.entries) s c.loop-s.invariant
    (λ q o. not_over 32 (at a.entries s) _ _ (c.pins_across.ensures.1 q o.0 o.1 o.2) c.if-n-pins_across-gt32.false)

pub returns : goal.returns
returns c = let a = c.args in
    λ r x y z.
    over-end (PinsAre a.node.now a.start.now a.end.now) (λ (q : Pins). overpinned a.j a.k q a.entries) a.stores _ c.loop-s.invariant
    (omega arith) r (x, y, z)
