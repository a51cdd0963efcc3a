-- `rule_grow::cut_tree` meets its contract: the parents by `reparent`, then a store for each column.
use Rattle.rule_grow.proofs.Laws.{cut-is}
use Rattle.rule_grow.proofs.cut_tree.Goals as goal

pub returns : goal.returns
returns c words used = let a = c.args in
    cut-is a.parent.now c.reparent.new.parent a.depth.now a.len.now a.run.now words a.nodes used a.j a.k
    c.reparent.ensures
