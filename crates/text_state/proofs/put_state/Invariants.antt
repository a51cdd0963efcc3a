-- `text_state::put_state` writes at most 60,928 bytes a store. Assumes nothing.
use Rattle.std.proofs.Common.{◌+◌, ◌*◌}
use Rattle.text_page.specs.Page.{Wrote}
use Rattle.text_state.proofs.put_state.Given as goal

abbrev pub invariant-loop-s : goal.invariant-loop-s
invariant-loop-s g l = Wrote (36992 + 60928 * l.s) l.fn.page l.page
