-- `text_state::put_state`: a sound state has at most 256 nodes, each with its run. Assumes nothing.
use Rattle.std.proofs.Common.{rules, arith}
use Rattle.text_state.proofs.Laws.{nodes-of}
use Rattle.text_state.proofs.put_state.Goals as goal

pub put_nodes-requires : goal.put_nodes-requires
put_nodes-requires g c = (search rules, (nodes-of _ c.requires.0, omega (arith, c.put_head.ensures.high, c.requires.1)))
