-- `prog_report::begin` sets up from the lists as far as they are filled. Assumes nothing.
use Rattle.prog_report.proofs.Laws.{begun}
use Rattle.prog_report.proofs.begin.Goals as goal

pub returns : goal.returns
returns c = begun _ _ _ _ _ c.set_up.result c.set_up.ensures
