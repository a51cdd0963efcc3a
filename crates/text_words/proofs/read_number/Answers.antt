-- `text_words::read_number` meets its contract: no byte is no number, and of one or more the digits are read after 0.
use mathlib.Core.Path.{sym, ap, ◌∙◌}
use native.Mathlib.Omega.{arith}
use Rattle.text_words.specs.Words.{number_of}
use Rattle.text_words.proofs.Laws.{value_none, value-some, is-value}
use Rattle.std.specs.Prelude.{Some}
use Rattle.text_words.proofs.read_number.Goals as goal

pub returns-then-is_empty : goal.returns-then-is_empty
returns-then-is_empty c = value_none 10 _ (sym c.is_empty.ensures ∙ c.if-is_empty.true)

pub returns : goal.returns
returns c =
    c.read_digits.ensures (Some 0) (sym (is-value 0 (omega arith)))
    ∙ ap number_of (value-some 10 _ (sym c.is_empty.ensures ∙ c.if-is_empty.false))
