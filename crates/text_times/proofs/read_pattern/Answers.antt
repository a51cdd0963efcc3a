-- `text_times::read_pattern` meets its contract: 16 hex digits always fit 64 bits.
use Rattle.std.proofs.Common.{sym, ◌∙◌}
use Rattle.text_times.proofs.Reading.{hex_read, pattern-short, pattern-value, pattern-none}
use Rattle.text_times.proofs.read_pattern.Goals as goal

pub returns-then-w-ne16 : goal.returns-then-w-ne16
returns-then-w-ne16 c = pattern-short _ c.if-w-ne16.true

pub returns-in_err-b : goal.returns-in_err-b
returns-in_err-b c = c.from_residual.ensures ∙ pattern-none _ _ (hex_read _ _ c.if-w-ne16.false c.read_digits.ensures) (sym c.ok.ensures.value ∙ c.in_err-b.was)

pub returns : goal.returns
returns c = pattern-value _ _ (hex_read _ _ c.if-w-ne16.false c.read_digits.ensures) _ _ (sym c.ok.ensures.value ∙ c.in_ok-b.was) c.of_bits.ensures
