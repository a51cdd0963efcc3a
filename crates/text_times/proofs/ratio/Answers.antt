-- `text_times::ratio` meets its contract: both numbers are exact, so the quotient is the fraction, rounded once.
use Rattle.std.proofs.Common.{arith}
use Rattle.text_times.proofs.Values.{whole_float, ten_small, ratio_neg, ratio_pos}
use Rattle.text_times.proofs.ratio.Goals as goal

pub int_to_float-y : goal.int_to_float-y
int_to_float-y c = whole_float _ (omega (arith, c.pow-y.ensures, ten_small _ c.requires.1))

pub returns-then-neg : goal.returns-then-neg
returns-then-neg c = rw c.pow-y.ensures (ratio_neg _ _ _ c.requires.0 c.requires.1 c.if-neg.true)

pub returns-else-neg : goal.returns-else-neg
returns-else-neg c = rw c.pow-y.ensures (ratio_pos _ _ _ c.requires.0 c.requires.1 c.if-neg.false)
