-- `rule_touch::one_inside` meets its contract: a case for each test.
use mathlib.Core.Path.{sym, ◌∙◌}
use mathlib.Core.Bool.{true≢false}
use borrow.Author.Tests.{leb-true, leb-false, ne_eqb}
use Rattle.pool_range.specs.Lent.{seen}
use Rattle.rule_touch.proofs.Laws.{inside-many, inside-head, inside_one}
use Rattle.rule_touch.proofs.one_inside.Goals.{then-hi-lo-eq1, else-hi-lo-eq1}
use Rattle.rule_touch.proofs.one_inside.Goals as goal

pub returns-then-sp-ranges : goal.returns-then-sp-ranges
returns-then-sp-ranges c = elim c.if-hi-lo-eq1.branch [
  | then-hi-lo-eq1 w ↦ inside_one (seen c.args.ranges) c.args.sp _ _ c.requires.0 w.if-hi-lo-eq1.true (leb-true _ _ (sym w.value-is ∙ c.if-sp-ranges.true))
  | else-hi-lo-eq1 w ↦ absurd (true≢false (sym c.if-sp-ranges.true ∙ w.value-is ∙ ne_eqb _ _ w.if-hi-lo-eq1.false))
]

pub returns-else-sp-ranges : goal.returns-else-sp-ranges
returns-else-sp-ranges c = c.if-sp-ranges.false ∙ elim c.if-hi-lo-eq1.branch [
  | then-hi-lo-eq1 w ↦ inside-head (seen c.args.ranges) c.args.sp _ _ c.requires.0 w.if-hi-lo-eq1.true (leb-false _ _ (sym w.value-is ∙ c.if-sp-ranges.false))
  | else-hi-lo-eq1 w ↦ inside-many (seen c.args.ranges) c.args.sp _ _ c.requires.0 w.if-hi-lo-eq1.false
]
