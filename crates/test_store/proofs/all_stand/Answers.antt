-- `test_store::all_stand` meets its contract: neighbours in order are all in order. Assumes nothing.
use Rattle.std.proofs.Common.{ℕ, ◌+◌, ◌-◌, refl, rules, tests, arith}
use Rattle.std.proofs.lemmas.Iterator.{cases_from_all, YieldsList-from_range}
use Rattle.test_tree.proofs.Each.{each_says}
use Rattle.test_store.specs.Records.{BeforeAt}
use Rattle.test_store.proofs.Places.{pairs_says, before-over}
use Rattle.test_store.proofs.all_stand.Goals as goal

pub returns : goal.returns
returns c =
    let a = c.args in
    let Ordered : ℕ → Type 0 = λ i. BeforeAt a.node.now a.start.now a.end.now (i - 1) i in
    pairs_says c.all.result (λ i j k h l m g. before-over (c.requires.5 j (omega arith) (omega arith)))
    (each_says Ordered (a.a + 1) a.b c.all.result
    (cases_from_all _ _ c.all.result Ordered (λ i. Ordered i → ⊥) c.all.ensures.ran (YieldsList-from_range (a.a + 1) a.b _ refl refl) (λ x q k. search (rules, tests))
    (λ x q k. search (rules, tests))))
