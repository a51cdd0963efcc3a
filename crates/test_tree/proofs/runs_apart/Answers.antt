-- `test_tree::runs_apart` meets its contract: the marks tell the owner of each word of the runs before node `i`. Assumes nothing.
use mathlib.Core.Path.{refl}
use Rattle.theory_refuse.proofs.Says.{says_true, says_false}
use Rattle.test_tree.proofs.Runs.{owned_none, owned_more, owned_miss, owned_one}
use Rattle.test_tree.proofs.runs_apart.Goals as goal

pub loop-i-init : goal.loop-i-init
loop-i-init c = owned_none _ _

pub returns-then-not-claim : goal.returns-then-not-claim
returns-then-not-claim c = let l = c.loop-i in owned_miss l.invariant refl refl l.auto.i c.loop-i-test.true (says_false c.if-not-claim.true c.claim.ensures.0)

pub loop-i-preserved : goal.loop-i-preserved
loop-i-preserved c = let l = c.loop-i in let r = c.if-not-claim.false in owned_more l.invariant refl refl l.auto.i c.claim.auto.own (says_true r c.claim.ensures.0) (c.claim.ensures.1 r)

pub returns : goal.returns
returns c = owned_one c.loop-i.invariant c.loop-i-test.false
