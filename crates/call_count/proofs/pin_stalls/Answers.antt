-- `call_count::pin_stalls` meets its contract, by the law of the stalls. Assumes nothing.
use Rattle.call_count.proofs.Laws.{stalls-is}
use Rattle.call_count.proofs.pin_stalls.Goals as goal

pub returns : goal.returns
returns c = stalls-is c.args.books.now
