-- `prog_tree::resolve` has room for the answer: the call gives at most 255 segments. Assumes nothing.
use Rattle.std.proofs.Common.{rules, arith}
use Rattle.prog_tree.proofs.Laws.{resolve_in}
use Rattle.prog_tree.proofs.resolve.Goals as goal

pub put_resolved-requires : goal.put_resolved-requires
put_resolved-requires c = (search rules, (resolve_in _ _ _ _ _ c.resolve-r.result c.resolve-r.ensures, c.lend.ensures, omega (arith, c.requires.1)))
