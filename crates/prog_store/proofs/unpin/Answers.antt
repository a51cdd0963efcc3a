-- `prog_store::unpin` keeps the state sound, by the equation of its call. Assumes nothing.
use Rattle.prog_store.proofs.Laws.{unpin-keeps}
use Rattle.prog_store.proofs.unpin.Goals as goal

pub returns : goal.returns
returns c = unpin-keeps _ _ _ _ c.unpin_source-r.result c.unpin_source-r.ensures c.requires.0
