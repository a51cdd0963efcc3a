-- `test_store::all_finite` meets its contract: a test of each from a up to `b`. Assumes nothing.
use Rattle.std.proofs.Common.{ℕ, refl, rules, tests}
use Rattle.std.proofs.lemmas.Iterator.{cases_from_all, YieldsList-from_range}
use Rattle.test_tree.proofs.Each.{each_says}
use Rattle.test_store.specs.Records.{FiniteAt}
use Rattle.test_store.proofs.all_finite.Goals as goal

pub returns : goal.returns
returns c =
    let a = c.args in
    let Fits : ℕ → Type 0 = FiniteAt a.touched.now in
    each_says Fits a.a a.b c.all.result
    (cases_from_all _ _ c.all.result Fits (λ i. Fits i → ⊥) c.all.ensures.ran (YieldsList-from_range a.a a.b _ refl refl) (λ x q k. search (rules, tests))
    (λ x q k. search (rules, tests)))
