-- `rule_cut_pins::Entries::place_of` meets its contract: each entry that is passed is ahead of the span. Assumes nothing.
use Rattle.std.proofs.Common.{rules}
use Rattle.pool_pin.proofs.Placed.{pass-on}
use Rattle.rule_cut_pins.specs.Entries.{spans_in}
use Rattle.rule_cut_pins.proofs.Entries.place_of.Goals as goal

pub loop-i-preserved : goal.loop-i-preserved
loop-i-preserved c = let a = c.args in
    pass-on (spans_in a.self.now) a.sp c.loop-i.i c.loop-i.invariant (search rules) (search rules)
