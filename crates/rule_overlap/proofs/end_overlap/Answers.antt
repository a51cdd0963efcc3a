-- `rule_overlap::end_overlap` meets its contract: the records passed are overlapped, and since the records stand in order none behind the first that isn't is.
use Rattle.std.proofs.lemmas.Iterator.{first_from_Range}
use Rattle.std.proofs.Common.{◌≡◌, true, false, rules, tests}
use Rattle.rule_overlap.specs.Overlap.{meets_at}
use Rattle.rule_overlap.proofs.Places.{overlap_found}
use Rattle.rule_overlap.proofs.end_overlap.Goals as goal

pub returns : goal.returns
returns c =
    let r = c.args.ranges in
    let meets = meets_at r.node.now r.start.now r.end.now c.args.sp in
    rw c.unwrap_or.ensures (overlap_found _ _ _ _ _ c.requires.0 _ c.requires.1 _
    (first_from_Range _ _ _ _ (λ i. meets i ≡ false) (λ i. meets i ≡ true) c.find.ensures.ran
    (λ x q k. search (rules, tests))
    (λ x q k. (search rules, search (rules, tests)))))
