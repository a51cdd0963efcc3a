-- `rule_cut_pins::Entries::add_pieces` meets its contract: the tail is added first, then the head. Assumes nothing.
use mathlib.Core.Path.{sym, ◌∙◌}
use Rattle.rule_cut_pins.specs.Entries.{pin_from, pins_in}
use Rattle.rule_cut_pins.proofs.Fewer.{whole, first_small, parts_are}
use Rattle.rule_cut_pins.proofs.Entries.add_pieces.Goals as goal

pub returns-then-p-j-clause-list : goal.returns-then-p-j-clause-list
returns-then-p-j-clause-list c = let a = c.args in
    c.add.ensures.list ∙ sym (whole a.j a.k a.m (pin_from a.p) (pins_in a.self.now) c.if-p-j.true)

pub add_if-requires : goal.add_if-requires
add_if-requires c = let a = c.args in
    (c.requires.0, first_small a.j a.k a.m (pin_from a.p) (pins_in a.self.now) c.if-p-j.false _ c.tail.ensures c.requires.1)

pub returns-clause-list : goal.returns-clause-list
returns-clause-list c = let a = c.args in
    c.add_if-2.ensures.list
    ∙ parts_are a.j a.k a.m (pin_from a.p) (pins_in a.self.now) c.if-p-j.false _ c.tail.ensures c.requires.1 _ c.head.ensures (pins_in c.add_if.new.self) c.add_if.ensures.list
