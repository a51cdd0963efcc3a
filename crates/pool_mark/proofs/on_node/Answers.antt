-- `pool_mark::on_node` meets its contract: the nodes looked at are those of the ranges. Assumes nothing.
use Rattle.std.proofs.Common.{◌+◌, ◌≤◌, length, ◌∙◌, arith}
use Rattle.pool_mark.proofs.Laws.{found-on}
use Rattle.pool_mark.proofs.on_node.Goals as goal

pub returns : goal.returns
returns c ranges e =
    let room : 0 + c.args.n ≤ length ranges.node = rw e (omega arith) in
    c.contains.ensures.value ∙ rw (← e) (found-on c.args.v ranges 0 c.args.n room)
