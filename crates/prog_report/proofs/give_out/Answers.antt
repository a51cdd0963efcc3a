-- `prog_report::give_out`: each call keeps the state sound and the sums in balance, by its equation. Assumes nothing.
use Rattle.prog_report.proofs.Laws.{bring-keeps, expire-keeps}
use Rattle.prog_report.proofs.give_out.Goals as goal

pub returns-in-Bring : goal.returns-in-Bring
returns-in-Bring c = bring-keeps _ _ _ _ _ _ _ _ _ _ c.tally_insert-r.result c.tally_insert-r.ensures c.requires

pub returns-in-Expire : goal.returns-in-Expire
returns-in-Expire c = expire-keeps _ _ _ _ _ _ _ _ _ c.tally_expire-r.result c.tally_expire-r.ensures c.requires
