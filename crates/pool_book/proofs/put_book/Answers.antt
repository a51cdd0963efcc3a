-- `pool_book::put_book` meets its contract: the book's row is written in the store's place. Assumes nothing.
use Rattle.std.proofs.Common.{◌+◌, ◌-◌, ◌∙◌, refl, arith}
use Rattle.std.proofs.lemmas.Slice.{put_mid-paste}
use Rattle.model.specs.State.{numbers}
use Rattle.model.specs.Sizes.{store_numbers}
use Rattle.pool_book.proofs.Laws.{book-laid}
use Rattle.pool_book.proofs.put_book.Goals as goal

pub returns : goal.returns
returns c =
    let l = c.args.books.now in
    let a = c.first_of-a.result in
    put_mid-paste a (a + 8 - a) l _ (numbers c.args.b) store_numbers (c.copy_from_slice.ensures.after ∙ c.row_of.ensures) (omega arith) refl
    ∙ rw c.first_of-a.ensures (book-laid c.args.s c.args.b l c.requires.1)
