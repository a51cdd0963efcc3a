-- `text_print::put_hex` meets its contract: `io::hex` gives the 16 digits, and they are copied.
use Rattle.text_print.proofs.Numeral.{hex_put}
use Rattle.text_print.proofs.put_hex.Goals as goal

pub returns : goal.returns
returns c = hex_put _ _ _ _ _ _ _ c.ranges.n.fits c.hex-k.ensures.len c.hex-k.ensures.digits c.put_bytes.ensures
