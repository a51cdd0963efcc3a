-- `text_state::put_marks` writes at most 72 bytes a node. Assumes nothing.
use Rattle.std.proofs.Common.{◌*◌}
use Rattle.text_page.specs.Page.{Wrote}
use Rattle.text_state.proofs.put_marks.Given as goal

abbrev pub invariant-loop-node : goal.invariant-loop-node
invariant-loop-node g l = Wrote (72 * l.node) l.fn.page l.page
