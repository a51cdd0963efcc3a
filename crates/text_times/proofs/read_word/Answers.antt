-- `text_times::read_word` meets its contract, by its first byte.
use Rattle.std.proofs.Common.{rules, ◌∙◌}
use Rattle.text_times.proofs.Reading.{word_none, word_x, word_minus, word_digits}
use Rattle.text_times.proofs.read_word.Goals as goal

pub returns-in-empty : goal.returns-in-empty
returns-in-empty c = word_none _ c.in-empty.len_below

pub returns-in-120 : goal.returns-in-120
returns-in-120 c = c.read_pattern.ensures ∙ word_x c.args.w.now c.in-120.len_at_least (search rules)

pub returns-in-45 : goal.returns-in-45
returns-in-45 c = c.read_decimal.ensures ∙ word_minus c.args.w.now c.in-45.len_at_least (search rules)

pub returns-in_default : goal.returns-in_default
returns-in_default c = c.read_decimal-in_default.ensures ∙ word_digits c.args.w.now c.in_default.len_at_least (search rules) (search rules)
