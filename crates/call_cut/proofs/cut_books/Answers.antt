-- `call_cut::cut_books` meets its contract: the store's numbers are written, then the next id.
use Rattle.call_cut.proofs.Halves.{books-are}
use Rattle.call_cut.proofs.cut_books.Goals as goal

pub returns : goal.returns
returns c = let a = c.args in
    books-are a.s a.b a.cut a.entries a.books.now c.put_book.new.books c.put_next.new.books c.put_book.ensures c.put_next.ensures
