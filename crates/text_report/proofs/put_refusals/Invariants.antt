-- `text_report::put_refusals` writes at most 64 bytes a number. Assumes nothing.
use Rattle.std.proofs.Common.{◌*◌}
use Rattle.text_page.specs.Page.{Wrote}
use Rattle.text_report.proofs.put_refusals.Given as goal

abbrev pub invariant-loop-n : goal.invariant-loop-n
invariant-loop-n g l = Wrote (64 * l.n) l.fn.page l.page
