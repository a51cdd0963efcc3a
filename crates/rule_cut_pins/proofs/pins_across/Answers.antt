-- `rule_cut_pins::pins_across` meets its contract: the count is the model's. Assumes nothing.
use mathlib.Core.Path.{◌∙◌}
use Rattle.rule_cut_pins.proofs.Across.{across-of}
use Rattle.rule_cut_pins.proofs.pins_across.Goals as goal

pub returns : goal.returns
returns c pins p q s = let z = c.args in
    c.count_across.ensures ∙ across-of z.j z.k z.n z.node.now z.start.now z.end.now pins p q s
