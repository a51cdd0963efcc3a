-- `test_tree::claim` meets its contract: the words were free and now have the mark, and no other word has changed. Assumes nothing.
use Rattle.std.proofs.Common.{rules, tests, ◌≡◌, ◌≢◌, ◌∙◌, ap, replicate, sym}
use Rattle.std.proofs.lemmas.Bool.{false≢true}
use Rattle.std.proofs.lemmas.Iterator.{cases_from_all, YieldsList-from_slice}
use Rattle.std.proofs.lemmas.List.Edits.{length-between}
use Rattle.test_tree.proofs.Runs.{free_says, filled-with}
use Rattle.test_tree.proofs.claim.Goals as goal

pub returns-then-free : goal.returns-then-free
returns-then-free c =
    let a = c.args in
    let tested = cases_from_all _ _ c.all-free.result (λ x. x ≡ 0) (λ x. x ≢ 0) c.all-free.ensures.ran (YieldsList-from_slice _ c.iter.ensures.rest) (λ x q k. search (rules, tests)) (λ x q k. search (rules, tests)) in
    let long = length-between a.own.now a.from a.to c.requires.1 in (
      free_says c.all-free.result a.own.now a.from a.to c.requires.0 c.requires.1 tested,
      λ e. filled-with a.own.now _ a.from a.to a.who c.requires.0 c.requires.1 (c.fill.ensures.after (λ y e. e) ∙ ap (λ n. replicate n a.who) long),
    )

pub returns-else-free : goal.returns-else-free
returns-else-free c =
    let a = c.args in
    let tested = cases_from_all _ _ c.all-free.result (λ x. x ≡ 0) (λ x. x ≢ 0) c.all-free.ensures.ran (YieldsList-from_slice _ c.iter.ensures.rest) (λ x q k. search (rules, tests)) (λ x q k. search (rules, tests)) in
    (free_says c.all-free.result a.own.now a.from a.to c.requires.0 c.requires.1 tested, λ e. absurd (false≢true (sym c.if-free.false ∙ e)))
