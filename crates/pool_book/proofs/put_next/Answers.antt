-- `pool_book::put_next` meets its contract: both numbers are written at their places. Assumes nothing.
use Rattle.pool_book.proofs.Laws.{next-laid}
use Rattle.pool_book.proofs.put_next.Goals as goal

pub returns : goal.returns
returns c = next-laid c.args.next c.args.stalls c.args.books.now c.requires
