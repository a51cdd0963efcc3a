-- `prog_tree::lookup` has room for the answer: an accepted call has at most 8 tiers and gives at most 1,024 spans. Assumes nothing.
use Rattle.std.proofs.Common.{rules, arith, refl}
use Rattle.prog_tree.proofs.Laws.{lookup_in}
use Rattle.prog_tree.proofs.lookup.Goals as goal

pub put_looked_up-requires : goal.put_looked_up-requires
put_looked_up-requires c = (search rules, (lookup_in _ _ _ _ _ _ _ refl c.lookup-r.result c.lookup-r.ensures, c.lend.ensures, c.lend-2.ensures, omega (arith, c.requires.1)))
