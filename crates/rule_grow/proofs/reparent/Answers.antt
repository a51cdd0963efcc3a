-- `rule_grow::reparent` meets its contract: node by node.
use mathlib.Core.Path.{refl}
use native.Mathlib.Omega.{arith}
use Rattle.model.specs.Insert.{adopt}
use Rattle.rule_grow.proofs.Laws.{adopt-turn, adopt-end}
use Rattle.rule_grow.proofs.reparent.Goals as goal

pub loop-p-init : goal.loop-p-init
loop-p-init c = record { front = refl; high = omega arith; is = refl }

pub loop-p-preserved : goal.loop-p-preserved
loop-p-preserved c = let a = c.args in
    adopt-turn (adopt a.j a.m) _ _ _ _ c.loop-p.invariant c.loop-p-test.true c.adopt.ensures

pub returns : goal.returns
returns c = let a = c.args in
    adopt-end a.j a.m a.nodes a.parent.now _ _ c.requires.0 c.loop-p.invariant c.loop-p-test.false
