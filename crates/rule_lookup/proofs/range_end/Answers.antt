-- `rule_lookup::range_end` meets its contract: the first place that the closure takes is that of the definition's range.
use Rattle.std.proofs.Common.{◌≡◌, ◌*◌, ◌∙◌, None, Some, true, false, rules, tests, arith}
use Rattle.std.proofs.lemmas.Iterator.{first_from_Range}
use Rattle.model.specs.State.{range_at}
use Rattle.model.specs.Lookup.{holds}
use Rattle.pool_range.specs.Lent.{seen}
use Rattle.rule_lookup.proofs.Laws.{end-none, end-some}
use Rattle.rule_lookup.proofs.range_end.Goals as goal

pub returns-in_err-i : goal.returns-in_err-i
returns-in_err-i c =
    let a = c.args in
    c.from_residual.ensures ∙ end-none (seen a.ranges) a.v a.o (128 * a.s) a.n
    (first_from_Range _ _ _ None (λ i. holds a.v a.o (range_at (seen a.ranges) i) ≡ true) (λ i. holds a.v a.o (range_at (seen a.ranges) i) ≡ false) c.in_err-i.ensures.ran
    (λ x q k. search (rules, tests))
    (λ x q k. (search rules, search (rules, tests))))

pub bounds-ranges-i : goal.bounds-ranges-i
bounds-ranges-i c =
    let a = c.args in
    let h = first_from_Range _ _ _ (Some c.in_ok-i.i) (λ i. holds a.v a.o (range_at (seen a.ranges) i) ≡ true) (λ i. holds a.v a.o (range_at (seen a.ranges) i) ≡ false) c.in_ok-i.ensures.ran
    (λ x q k. search (rules, tests))
    (λ x q k. (search rules, search (rules, tests))) in
    omega (arith, h.1)

pub returns : goal.returns
returns c =
    let a = c.args in
    end-some (seen a.ranges) a.v a.o (128 * a.s) a.n c.in_ok-i.i
    (first_from_Range _ _ _ (Some c.in_ok-i.i) (λ i. holds a.v a.o (range_at (seen a.ranges) i) ≡ true) (λ i. holds a.v a.o (range_at (seen a.ranges) i) ≡ false) c.in_ok-i.ensures.ran
    (λ x q k. search (rules, tests))
    (λ x q k. (search rules, search (rules, tests))))
