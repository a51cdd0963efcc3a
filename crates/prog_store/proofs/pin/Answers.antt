-- `prog_store::pin` keeps the state sound, by the equation of its call. Assumes nothing.
use Rattle.prog_store.proofs.Laws.{pin-keeps}
use Rattle.prog_store.proofs.pin.Goals as goal

pub returns : goal.returns
returns c = pin-keeps _ _ _ _ c.pin_source-r.result c.pin_source-r.ensures c.requires.0
