-- `prog_tree::insert` keeps the state sound, by the equation of its call, and has room for the answer. Assumes nothing.
use Rattle.std.proofs.Common.{rules, arith}
use Rattle.prog_tree.proofs.Laws.{insert_in, insert-keeps}
use Rattle.prog_tree.proofs.insert.Goals as goal

pub put_inserted-requires : goal.put_inserted-requires
put_inserted-requires c = (search rules, (insert_in _ _ _ _ _ c.insert-r.result c.insert-r.ensures, c.lend.ensures, omega (arith, c.requires.1)))

pub returns : goal.returns
returns c = insert-keeps _ _ _ _ _ c.insert-r.result c.insert-r.ensures c.requires.0
