-- `rule_cut::split_range` meets its contract: each column has one place set, and the ends two. Assumes nothing.
use mathlib.Core.Path.{refl}
use Rattle.rule_cut.specs.Cut.{split_range}
use Rattle.rule_cut.proofs.split_range.Goals as goal

pub returns-clause-columns : goal.returns-clause-columns
unfolding split_range
returns-clause-columns c = refl
