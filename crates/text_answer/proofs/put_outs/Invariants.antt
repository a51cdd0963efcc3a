-- `text_answer::put_outs` writes at most 139 bytes a span. Assumes nothing.
use Rattle.std.proofs.Common.{◌+◌, ◌*◌}
use Rattle.text_page.specs.Page.{Wrote}
use Rattle.text_answer.proofs.put_outs.Given as goal

abbrev pub invariant-loop-i : goal.invariant-loop-i
invariant-loop-i g l = Wrote (6 + 139 * l.i) l.fn.page l.page
