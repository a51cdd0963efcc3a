-- The array of the stores' record counts has each store's at its place. Assumes nothing.
use Prim.Native.Nat.{ℕ}
use mathlib.Core.List.{List}
use mathlib.Core.Path.{◌≡◌, ap, ◌∙◌}
use Rattle.model.specs.Words.{Each}
use Rattle.model.specs.Sizes.{max_stores}
use Rattle.model.specs.State.{at, book_in}
use Rattle.pool_book.specs.Books.{records_in}
use Rattle.pool_book.proofs.Laws.{records-at}

pub records-each : (l : List ℕ) {rs : List ℕ} → rs ≡ records_in l → Each 0 max_stores (λ s. at rs s ≡ (book_in l s).records)
records-each l e s low high = ap (λ (q : List ℕ). at q s) e ∙ records-at l s high
