-- `rule_cut::ranges_across` meets its contract: the count is the model's. Assumes nothing.
use mathlib.Core.Path.{◌∙◌}
use Rattle.rule_cut.proofs.Across.{across-of}
use Rattle.rule_cut.proofs.ranges_across.Goals as goal

pub returns : goal.returns
returns c ranges p q s = let z = c.args in
    c.count_across.ensures ∙ across-of z.j z.k z.n z.node.now z.start.now z.end.now ranges p q s
