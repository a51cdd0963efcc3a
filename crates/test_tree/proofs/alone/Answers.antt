-- `test_tree::alone` meets its contract: the walk down the chain of a bucket, above which node `i` has no twin. Assumes nothing.
use Rattle.std.proofs.Common.{◌≡◌, ◌+◌, ℕ, ap, sym, ◌∙◌, arith}
use Rattle.theory_refuse.proofs.Says.{says_true, says_false}
use Rattle.test_tree.specs.Chain.{reach}
use Rattle.test_tree.specs.Siblings.{Alone}
use Rattle.test_tree.proofs.Chain.{walk_step}
use Rattle.test_tree.proofs.alone.Goals as goal

pub returns-then-twins : goal.returns-then-twins
unfolding Alone
returns-then-twins c = λ f.
    let w = c.loop-link.invariant in
    let e : reach c.loop-link.link ≡ c.from-j.result + 1 = ap reach c.in-Some.is ∙ ap (λ (n : ℕ). n + 1) (sym c.from-j.ensures) in
    f c.from-j.result (omega (arith, w.hi)) (w.here c.from-j.result e).0 (says_true c.if-twins.true c.twins.ensures)

pub loop-link-preserved : goal.loop-link-preserved
loop-link-preserved c =
    let e : reach c.loop-link.link ≡ c.from-j.result + 1 = ap reach c.in-Some.is ∙ ap (λ (n : ℕ). n + 1) (sym c.from-j.ensures) in
    walk_step c.requires.6 c.loop-link.invariant (λ k h. rw (h.one_parent, h.one_hash)) c.from-j.result e (says_false c.if-twins.false c.twins.ensures)

pub returns : goal.returns
unfolding Alone
returns c = λ k l u h. let e : reach c.loop-link.link ≡ 0 = ap reach c.in_default.is in c.loop-link.invariant.past k (omega arith) l u h
