-- `test_store::marks_fit` meets its contract: a test of each mark, by the nodes that are held. Assumes nothing.
use Rattle.std.proofs.Common.{ℕ, refl, rules, tests}
use Rattle.std.proofs.lemmas.Iterator.{cases_from_all, YieldsList-from_range}
use Rattle.test_tree.proofs.Each.{each_says}
use Rattle.test_store.specs.Marks.{MarkFits}
use Rattle.test_store.proofs.marks_fit.Goals as goal

pub returns : goal.returns
returns c =
    let a = c.args in
    let Fits : ℕ → Type 0 = MarkFits a.len.now a.node.now a.marks.now a.nodes a.a a.b a.m in
    each_says Fits 0 256 c.all.result
    (cases_from_all _ _ c.all.result Fits (λ i. Fits i → ⊥) c.all.ensures.ran (YieldsList-from_range 0 256 _ refl refl) (λ x q k. search (rules, tests))
    (λ x q k. search (rules, tests)))
