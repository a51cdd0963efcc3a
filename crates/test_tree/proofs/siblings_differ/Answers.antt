-- `test_tree::siblings_differ` meets its contract: the nodes so far stand in chains by bucket, and no two of them are twins. Assumes nothing.
use mathlib.Core.Path.{sym, ◌∙◌}
use Rattle.test_tree.specs.Siblings.{Alone, Unlike}
use Rattle.theory_refuse.proofs.Says.{says_true, says_false}
use Rattle.test_tree.proofs.Chain.{chain-less}
use Rattle.test_tree.proofs.Apart.{met_none, met_skip, met_add, met_miss, met_all}
use native.Mathlib.Omega.{arith}
use Rattle.test_tree.proofs.siblings_differ.Goals as goal

pub loop-i-init : goal.loop-i-init
loop-i-init c = met_skip (met_none 256 _ _ _) (λ u. omega arith)

pub alone-requires : goal.alone-requires
alone-requires c = let l = c.loop-i in let m = l.invariant in let t = c.loop-i-test.true in let p = c.requires in let h = m.heads.top c.bucket-b.result in (h, omega arith, omega arith, omega (arith, m.nprev), (λ k g u. p.3 k (omega arith) u), l.auto.i, chain-less m.chain h, λ j q. let g = m.heads.link _ j q in (g.0, g.1 ∙ c.bucket-b.ensures.is))

pub returns-then-not-alone : goal.returns-then-not-alone
unfolding Alone Unlike
returns-then-not-alone c = let l = c.loop-i in met_miss l.invariant c.loop-i-test.true l.auto.i (rw c.bucket-b.ensures.is at (says_false c.if-not-alone.true c.alone.ensures))

pub loop-i-preserved : goal.loop-i-preserved
unfolding Alone Unlike
loop-i-preserved c = let l = c.loop-i in rw c.bucket-b.ensures.is (met_add l.invariant (λ j k h. rw (h.one_parent, h.one_hash)) (λ j k h. record { one_parent = sym h.one_parent; one_hash = sym h.one_hash }) (omega arith) (rw c.bucket-b.ensures.is at c.bucket-b.ensures.below) l.auto.i (rw c.bucket-b.ensures.is at (says_true c.if-not-alone.false c.alone.ensures)))

pub returns : goal.returns
unfolding Unlike
returns c = met_all c.loop-i.invariant c.loop-i-test.false
