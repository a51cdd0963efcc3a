-- `rule_fill::Gaps::none` meets its contract: the first 0 gaps of any list are none.
use Rattle.std.proofs.Common.{refl}
use Rattle.rule_fill.specs.Gaps.{gaps_in}
use Rattle.rule_fill.proofs.Gaps.none.Goals as goal

pub returns : goal.returns
unfolding gaps_in
returns c = (refl, refl)
