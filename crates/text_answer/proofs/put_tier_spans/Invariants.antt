-- `text_answer::put_tier_spans` writes at most 84 bytes a span. Assumes nothing.
use Rattle.std.proofs.Common.{◌*◌}
use Rattle.text_page.specs.Page.{Wrote}
use Rattle.text_answer.proofs.put_tier_spans.Given as goal

abbrev pub invariant-loop-i : goal.invariant-loop-i
invariant-loop-i g l = Wrote (84 * l.i) l.fn.page l.page
