-- `test_state::fresh` meets its contract: the walk down the chain of a bucket, above which nothing has the id. Assumes nothing.
use Rattle.std.proofs.Common.{◌≡◌, ◌+◌, ℕ, ap, sym, ◌∙◌, arith}
use Rattle.test_tree.specs.Chain.{reach}
use Rattle.test_state.specs.Ids.{Fresh}
use Rattle.test_tree.proofs.Chain.{walk_step}
use Rattle.test_state.proofs.fresh.Goals as goal

pub returns-then-id-j : goal.returns-then-id-j
unfolding Fresh
returns-then-id-j c = λ f.
    let w = c.loop-link.invariant in
    let e : reach c.loop-link.link ≡ c.from-j.result + 1 = ap reach c.in-Some.is ∙ ap (λ (n : ℕ). n + 1) (sym c.from-j.ensures) in
    f c.from-j.result (omega (arith, w.hi)) (w.here c.from-j.result e).0 c.if-id-j.true

pub loop-link-preserved : goal.loop-link-preserved
loop-link-preserved c =
    let e : reach c.loop-link.link ≡ c.from-j.result + 1 = ap reach c.in-Some.is ∙ ap (λ (n : ℕ). n + 1) (sym c.from-j.ensures) in
    walk_step c.requires.2 c.loop-link.invariant (λ k h. rw h) c.from-j.result e c.if-id-j.false

pub returns : goal.returns
unfolding Fresh
returns c = λ k l u h. let e : reach c.loop-link.link ≡ 0 = ap reach c.in_default.is in c.loop-link.invariant.past k (omega arith) l u h
