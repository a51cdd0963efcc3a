-- `text_answer::put_numbers` writes at most 21 bytes a number. Assumes nothing.
use Rattle.std.proofs.Common.{◌*◌}
use Rattle.text_page.specs.Page.{Wrote}
use Rattle.text_answer.proofs.put_numbers.Given as goal

abbrev pub invariant-loop-n : goal.invariant-loop-n
invariant-loop-n g l = Wrote (21 * l.n-index) l.fn.page l.page
