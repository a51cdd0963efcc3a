-- `text_print::put_number` meets its contract: `io::decimal` gives the fewest digits, and they are copied.
use Rattle.text_print.proofs.Numeral.{number_put}
use Rattle.text_print.proofs.put_number.Goals as goal

pub returns : goal.returns
returns c = number_put _ _ _ _ _ _ _ c.ranges.n.fits c.decimal-k.ensures.in_bounds.0 c.decimal-k.ensures.len c.decimal-k.ensures.digits c.put_bytes.ensures
