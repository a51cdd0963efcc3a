-- `text_state::put_records` writes at most 278 bytes a record. Assumes nothing.
use Rattle.std.proofs.Common.{◌*◌}
use Rattle.text_page.specs.Page.{Wrote}
use Rattle.text_state.proofs.put_records.Given as goal

abbrev pub invariant-loop-k : goal.invariant-loop-k
invariant-loop-k g l = Wrote (278 * l.k) l.fn.page l.page
