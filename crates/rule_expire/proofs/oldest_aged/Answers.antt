-- `rule_expire::oldest_aged` meets its contract: the first range by stamp and id goes only if it is aged.
use Rattle.std.proofs.Common.{refl, ◌∙◌, arith}
use Rattle.pool_range.specs.Lent.{seen}
use Rattle.rule_expire.proofs.Laws.{place-less, aged-none, aged_then}
use Rattle.rule_expire.proofs.oldest_aged.Goals as goal

pub returns-in_err-i : goal.returns-in_err-i
returns-in_err-i c = c.from_residual.ensures ∙ aged-none _ _ _ _ (c.oldest.ensures (seen c.args.ranges) refl refl) c.in_err-i.was

pub offset_bounds-ranges-i : goal.offset_bounds-ranges-i
offset_bounds-ranges-i c = let a = c.args in
    omega (arith, place-less a.time a.seconds (seen a.ranges) a.n (c.oldest.ensures (seen c.args.ranges) refl refl) c.in_ok-i.was)

pub bounds-ranges-i : goal.bounds-ranges-i
bounds-ranges-i c = let a = c.args in
    omega (arith, place-less a.time a.seconds (seen a.ranges) a.n (c.oldest.ensures (seen c.args.ranges) refl refl) c.in_ok-i.was)

pub returns : goal.returns
returns c = c.then_some.ensures ∙ aged_then _ _ (seen c.args.ranges) _ (c.oldest.ensures (seen c.args.ranges) refl refl) c.in_ok-i.was c.is_aged.result c.is_aged.ensures
