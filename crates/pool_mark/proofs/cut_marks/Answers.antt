-- `pool_mark::cut_marks` meets its contract: the two marks are those of the definition. Assumes nothing.
use Rattle.std.proofs.Common.{◌≡◌, ◌∙◌, ◌-◌, min}
use Rattle.model.specs.State.{at}
use Rattle.model.specs.Insert.{if_held, cut_marks}
use Rattle.pool_mark.proofs.cut_marks.Goals as goal
use Rattle.pool_mark.proofs.cut_marks.Goals.{then-on_node, else-on_node, then-on_node-2, else-on_node-2}

pub returns : goal.returns
unfolding cut_marks
returns c ranges e =
    let a = c.args in
    let mark = at a.marks.now a.j in
    let head : c.if-on_node.head ≡ if_held c.on_node.result (min mark a.k) =
    elim c.if-on_node.branch [ then-on_node w ↦ rw w.if-on_node.true (w.head-is ∙ w.min-head.ensures) | else-on_node w ↦ rw w.if-on_node.false w.head-is ] in
    let tail : c.if-on_node-2.tail ≡ if_held c.on_node-2.result (mark - a.k) =
    elim c.if-on_node-2.branch [ then-on_node-2 w ↦ rw w.if-on_node-2.true (w.tail-is ∙ w.saturating_sub-tail.ensures) | else-on_node-2 w ↦ rw w.if-on_node-2.false w.tail-is ] in
    rw (head, tail, c.on_node.ensures ranges e, c.on_node-2.ensures ranges e)
