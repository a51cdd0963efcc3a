-- `prog_tree::set_up`: an accepted set-up leaves a sound state, a refused one the state as it was. Assumes nothing.
use Rattle.prog_tree.proofs.Laws.{set_up_keeps}
use Rattle.prog_tree.proofs.set_up.Goals as goal

pub returns : goal.returns
returns c = set_up_keeps _ _ _ _ _ c.set_up-r.result c.set_up-r.ensures c.requires.0
