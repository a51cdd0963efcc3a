-- `prog_store::touch` keeps the state sound, by the equation of its call; a list that is too long changes nothing. Assumes nothing.
use Rattle.prog_store.proofs.Laws.{touch-keeps}
use Rattle.prog_store.proofs.touch.Goals as goal

pub returns : goal.returns
returns c = touch-keeps _ _ _ _ _ _ c.store_used_array-r.result c.store_used_array-r.ensures c.requires.0
