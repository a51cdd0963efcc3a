-- `test_state::all_counts_fit` meets its contract: a test of each store. Assumes nothing.
use Rattle.std.proofs.Common.{ℕ, refl, rules, tests}
use Rattle.std.proofs.lemmas.Iterator.{cases_from_all, YieldsList-from_range}
use Rattle.model.specs.State.{stores_in}
use Rattle.test_tree.proofs.Each.{each_says}
use Rattle.test_state.specs.Stores.{CountsFit}
use Rattle.test_state.proofs.all_counts_fit.Goals as goal

pub returns : goal.returns
returns c =
    let a = c.args in
    let Fits : ℕ → Type 0 = CountsFit a.books.now in
    each_says Fits 0 (stores_in a.books.now) c.all.result
    (cases_from_all _ _ c.all.result Fits (λ s. Fits s → ⊥) c.all.ensures.ran (YieldsList-from_range 0 (stores_in a.books.now) _ refl refl)
    (λ x q k. search (rules, tests)) (λ x q k. search (rules, tests)))
