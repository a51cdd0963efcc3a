-- `text_words::is_blank_or_remark` meets its contract: the spaces that are skipped don't count, and the byte after them tells.
use mathlib.Core.Path.{◌∙◌}
use borrow.Author.Tests.{eq-eqb}
use native.Mathlib.Omega.{arith}
use Rattle.text_words.proofs.Laws.{passed-at, passed_none}
use Rattle.text_words.proofs.is_blank_or_remark.Goals as goal

pub returns-then-i-s : goal.returns-then-i-s
returns-then-i-s c = eq-eqb _ _ c.if-i-s.true ∙ passed_none _ _ c.skip_spaces-i.ensures (omega arith)

pub returns-else-i-s : goal.returns-else-i-s
returns-else-i-s c = passed-at _ _ c.skip_spaces-i.ensures (omega (arith, c.skip_spaces-i.ensures.high))
