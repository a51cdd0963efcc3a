-- `text_times::read_digits` meets its contract: the two runs are read as one, and its at most 15 digits make an exact whole number.
use Rattle.std.proofs.Common.{arith, sym, ◌∙◌}
use Rattle.text_times.proofs.Reading.{digits_read, digits_long, digits_room, digits_value, digits_none}
use Rattle.text_times.proofs.read_digits.Goals as goal

pub returns-then-whole-part-gt15 : goal.returns-then-whole-part-gt15
returns-then-whole-part-gt15 c = digits_long _ _ _ _ c.if-whole-part-gt15.true

pub ratio-requires : goal.ratio-requires
ratio-requires c = (digits_room _ _ (digits_read _ _ _ _ c.requires c.if-whole-part-gt15.false c.read_digits-n.ensures c.read_digits.ensures) _ (sym c.ok.ensures.value ∙ c.in_ok-m.was), omega arith)

pub returns-in_err-m : goal.returns-in_err-m
returns-in_err-m c = c.from_residual.ensures ∙ digits_none _ _ (digits_read _ _ _ _ c.requires c.if-whole-part-gt15.false c.read_digits-n.ensures c.read_digits.ensures) _ _ (sym c.ok.ensures.value ∙ c.in_err-m.was)

pub returns : goal.returns
returns c = digits_value _ _ (digits_read _ _ _ _ c.requires c.if-whole-part-gt15.false c.read_digits-n.ensures c.read_digits.ensures) _ _ _ _ (sym c.ok.ensures.value ∙ c.in_ok-m.was) c.ratio.ensures
