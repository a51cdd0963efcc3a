-- `prog_store::remove` keeps the state sound, by the equation of its call, and has room for the answer. Assumes nothing.
use Rattle.std.proofs.Common.{rules, arith}
use Rattle.prog_store.proofs.Laws.{remove_in, remove-keeps}
use Rattle.prog_store.proofs.remove.Goals as goal

pub put_removed-requires : goal.put_removed-requires
put_removed-requires c = (search rules, (remove_in _ _ _ _ _ _ c.store_remove-r.result c.store_remove-r.ensures, search rules, omega (arith, c.requires.1)))

pub returns : goal.returns
returns c = remove-keeps _ _ _ _ _ _ c.store_remove-r.result c.store_remove-r.ensures c.requires.0
