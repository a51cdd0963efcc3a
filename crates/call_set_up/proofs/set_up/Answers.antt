-- `call_set_up::set_up` meets its contract: refused by 12, or all parts written. Assumes nothing.
use native.Mathlib.Omega.{arith}
use Rattle.theory_refuse.proofs.Says.{says_true, says_false}
use Rattle.call_set_up.proofs.Outcomes.{refused-is, written_is}
use Rattle.call_set_up.proofs.set_up.Goals as goal

pub returns-then-not-fits : goal.returns-then-not-fits
returns-then-not-fits c = refused-is _ c.args.table.now c.args.capacity.now c.args.refreshes.now (says_false c.if-not-fits.true c.fits.ensures)

pub root_only-requires : goal.root_only-requires
root_only-requires c = let f = (says_true c.if-not-fits.false c.fits.ensures).tree in
    (omega (arith, f.parent), omega (arith, f.depth), omega (arith, f.len), omega (arith, f.run))

pub clear_marks-requires : goal.clear_marks-requires
clear_marks-requires c = (says_true c.if-not-fits.false c.fits.ensures).marks

pub copy_in-requires : goal.copy_in-requires
copy_in-requires c = let f = (says_true c.if-not-fits.false c.fits.ensures) in omega (arith, f.table_long, f.bytes)

pub fresh_books-requires : goal.fresh_books-requires
fresh_books-requires c = let f = (says_true c.if-not-fits.false c.fits.ensures) in (f.books, f.policies)

pub returns : goal.returns
returns c = let r = c.root_only.ensures in
    written_is c.args.table.now c.args.capacity.now c.args.refreshes.now (says_true c.if-not-fits.false c.fits.ensures)
    r.0 r.1 r.2 r.3 c.clear_marks.ensures c.copy_in.ensures c.fresh_books.ensures
