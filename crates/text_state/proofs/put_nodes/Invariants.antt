-- `text_state::put_nodes` writes at most 144 bytes a node. Assumes nothing.
use Rattle.std.proofs.Common.{◌*◌, ◌≤◌}
use Rattle.text_page.specs.Page.{Wrote}
use Rattle.text_state.proofs.put_nodes.Given as goal

abbrev pub invariant-loop-k : goal.invariant-loop-k
invariant-loop-k g l = Wrote (144 * l.k) l.fn.page l.page × (l.k ≤ 256)
