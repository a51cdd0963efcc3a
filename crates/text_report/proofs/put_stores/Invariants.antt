-- `text_report::put_stores` writes at most 300 bytes a store. Assumes nothing.
use Rattle.std.proofs.Common.{◌*◌}
use Rattle.text_page.specs.Page.{Wrote}
use Rattle.text_report.proofs.put_stores.Given as goal

abbrev pub invariant-loop-s : goal.invariant-loop-s
invariant-loop-s g l = Wrote (300 * l.s) l.fn.page l.page
