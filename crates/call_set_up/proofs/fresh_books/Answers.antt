-- `call_set_up::fresh_books` meets its contract: after s turns the first s stores' numbers are written. Assumes nothing.
use native.Mathlib.Omega.{arith}
use lib.ListN.{length-set}
use Rattle.call_set_up.proofs.Fresh.{filled_none, filled_more, filled-all}
use Rattle.call_set_up.proofs.fresh_books.Goals as goal

pub loop-s-init : goal.loop-s-init
loop-s-init c = filled_none c.args.capacity.now c.args.refreshes.now c.args.books.now

pub loop-s-preserved : goal.loop-s-preserved
loop-s-preserved c = filled_more c.args.capacity.now c.args.refreshes.now c.loop-s.invariant c.loop-s-test.true c.book_at.ensures c.put_book.ensures
    c.put_book.auto.books

pub put_next-requires : goal.put_next-requires
put_next-requires c = rw length-set (omega (arith, c.requires.0, c.loop-s.invariant.long, c.put_counts.auto.books))

pub returns : goal.returns
returns c = filled-all c.args.capacity.now c.args.refreshes.now c.loop-s.invariant c.loop-s-test.false c.put_counts.ensures c.put_next.ensures
