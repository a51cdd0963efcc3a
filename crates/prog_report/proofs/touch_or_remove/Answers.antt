-- `prog_report::touch_or_remove`: each call keeps the state sound and the sums in balance, by its equation. Assumes nothing.
use Rattle.prog_report.proofs.Laws.{touch-keeps, remove-keeps}
use Rattle.prog_report.proofs.touch_or_remove.Goals as goal

pub returns-else-n-gt64 : goal.returns-else-n-gt64
returns-else-n-gt64 c = touch-keeps _ _ _ _ _ _ _ c.store_used_array-r.result c.store_used_array-r.ensures c.requires.1

pub returns-in-Remove : goal.returns-in-Remove
returns-in-Remove c = remove-keeps _ _ _ _ _ _ _ _ c.tally_remove-r.result c.tally_remove-r.ensures c.requires.1
