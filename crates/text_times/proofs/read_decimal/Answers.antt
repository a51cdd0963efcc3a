-- `text_times::read_decimal` meets its contract, by where the first point stands.
use Rattle.std.proofs.Common.{arith}
use Rattle.text_times.proofs.Reading.{decimal-none, decimal-whole, decimal-cut, decimal-both}
use Rattle.text_times.proofs.read_decimal.Goals.{then-p-eq0-via-then-p-eq0, then-p-eq0-via-else-p-eq0+then-p-w}
use Rattle.text_times.proofs.read_decimal.Goals as goal

pub returns-then-p-eq0 : goal.returns-then-p-eq0
returns-then-p-eq0 c = elim c.then-p-eq0.branch [
  | then-p-eq0-via-then-p-eq0 w ↦ decimal-none _ _ _ c.next_byte-p.ensures w.if-p-eq0.true
  | then-p-eq0-via-else-p-eq0+then-p-w w ↦ decimal-cut _ _ _ c.next_byte-p.ensures w.if-p-w.true
]

pub returns-then-p-w-2 : goal.returns-then-p-w-2
returns-then-p-w-2 c = decimal-whole _ _ _ c.next_byte-p.ensures _ c.if-p-w-2.true c.read_digits.ensures

pub returns : goal.returns
returns c = decimal-both _ _ _ c.next_byte-p.ensures _ (omega arith) (omega (arith, c.next_byte-p.ensures.high)) c.read_digits-2.ensures
