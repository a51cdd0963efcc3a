-- `rule_resolve::child` meets its contract: the first number that the closure takes is the definition's first child.
use Rattle.std.proofs.lemmas.Iterator.{first_from_Range}
use Rattle.std.proofs.lemmas.List.{get_or-take}
use Rattle.model.specs.Tree.{is_child}
use Rattle.model.specs.State.{Tree}
use Rattle.shape_state.specs.Lent.{tree_of}
use Rattle.std.proofs.Common.{List, ℕ, ◌≡◌, true, false, refl, take, rules, tests}
use Rattle.rule_resolve.proofs.Laws.{first_child}
use Rattle.rule_resolve.proofs.child.Goals as goal

pub returns : goal.returns
returns c = λ depth len used.
    let a = c.args in
    let tree : List ℕ → Tree = λ parent. tree_of parent depth len a.run.now a.words.now a.nodes used in
    let is = is_child (tree (take a.nodes a.parent.now)) a.p a.h in
    first_child (tree a.parent.now) a.p a.h is (λ k l. rw (get_or-take a.nodes a.parent.now k 0 l) refl) _
    (first_from_Range _ _ _ _ (λ i. is i ≡ true) (λ i. is i ≡ false) c.find.ensures.ran
    (λ x q k. search (rules, tests))
    (λ x q k. (search rules, search (rules, tests))))
