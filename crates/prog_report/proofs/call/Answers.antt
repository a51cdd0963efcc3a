-- `prog_report::call`: each call keeps the state sound and the sums in balance, by its equation. What it reads of the lists is there. Assumes nothing.
use Rattle.prog_report.proofs.Laws.{insert-keeps, lookup-keeps}
use Rattle.prog_report.proofs.call.Goals as goal

pub returns-in-Insert : goal.returns-in-Insert
returns-in-Insert c = insert-keeps _ _ _ _ _ _ c.insert-r.result c.insert-r.ensures c.requires.1

pub returns-in-Lookup : goal.returns-in-Lookup
returns-in-Lookup c = lookup-keeps _ _ _ _ _ _ _ _ c.tally_lookup-r.result c.tally_lookup-r.ensures c.requires.1
