-- `call_bring::settle` meets its contract: the store's numbers are laid, then the next id and the stalls, and `books-settled` has them together.
use Rattle.call_bring.proofs.Bring.{books-settled}
use Rattle.call_bring.proofs.settle.Goals as goal

pub returns : goal.returns
returns c = let a = c.args in
    books-settled a.s a.need a.t.n a.t.held a.t.version a.t.stalled a.b a.books.now c.put_book.new.books c.put_next.new.books c.stalls_after-stalls.result
    c.stalls_after-stalls.ensures c.put_book.ensures c.put_next.ensures
