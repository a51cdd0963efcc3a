-- `rust_values::spans::count` meets its contract: the least of the three lengths. Assumes nothing.
use native.Mathlib.Omega.{arith}
use Rattle.rust_values.proofs.Front.{spans_length}
use Rattle.rust_values.proofs.spans.count.Goals as goal

pub returns : goal.returns
returns c = omega (arith, c.min.ensures, c.min-2.ensures, spans_length c.args.on.now c.args.from.now c.args.upto.now)
