-- `pool_book::book_of` meets its contract: the store's book is made of its row. Assumes nothing.
use Rattle.std.proofs.Common.{◌≡◌, ◌+◌, ◌-◌, ◌∙◌, arith}
use Rattle.model.specs.Sizes.{store_numbers}
use Rattle.pool_book.proofs.Laws.{book-at}
use Rattle.pool_book.proofs.book_of.Goals as goal

pub returns : goal.returns
returns c =
    let a = c.first_of-a.result in
    let eight : a + 8 - a ≡ store_numbers = omega arith in
    c.book_from.ensures ∙ rw (eight, c.first_of-a.ensures) (book-at c.args.books.now c.args.s)
