-- `call_insert::lay_longer` meets its contract: one place more is written behind the copies.
-- Assumes nothing.
use Rattle.call_insert.proofs.Laws.{longer}
use Rattle.call_insert.proofs.lay_longer.Goals as goal

pub returns : goal.returns
returns c = let a = c.args in
    let f = c.lay_path in
    longer a.n a.node a.len f.new.path_node f.new.path_len a.found_node.now a.found_len.now a.path_node.now a.path_len.now
    f.ensures c.requires.0 c.requires.1 c.requires.2 c.requires.3
