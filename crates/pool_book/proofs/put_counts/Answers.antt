-- `pool_book::put_counts` meets its contract: both numbers are written at their places. Assumes nothing.
use Rattle.pool_book.proofs.Laws.{counts-laid}
use Rattle.pool_book.proofs.put_counts.Goals as goal

pub returns : goal.returns
returns c = counts-laid c.args.nodes c.args.used c.args.books.now c.requires
