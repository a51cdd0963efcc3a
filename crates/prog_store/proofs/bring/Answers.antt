-- `prog_store::bring` keeps the state sound, by the equation of its call, and has room for the answer. Assumes nothing.
use Rattle.std.proofs.Common.{rules, arith}
use Rattle.prog_store.proofs.Laws.{bring_in_lem, bring-keeps}
use Rattle.prog_store.proofs.bring.Goals as goal

pub put_brought-requires : goal.put_brought-requires
put_brought-requires c = (search rules, (bring_in_lem _ _ _ _ _ _ _ _ c.store_insert-r.result c.store_insert-r.ensures, c.lend.ensures, omega (arith, c.requires.1)))

pub returns : goal.returns
returns c = bring-keeps _ _ _ _ _ _ _ _ c.store_insert-r.result c.store_insert-r.ensures c.requires.0
