-- Whether the record at place k is in use, by rs, each store's used records. Assumes nothing.
use Prim.Native.Nat.{ℕ, ◌≤◌, ◌<◌, ◌/◌, ◌%◌}
use mathlib.Core.Path.{◌≡◌, ap, ◌∙◌}
use mathlib.Core.List.{List}
use native.Mathlib.Omega.{arith}
use Rattle.model.specs.Sizes.{max_stores}
use Rattle.model.specs.State.{at, book_in}
use Rattle.pool_book.specs.Books.{records_in}
use Rattle.pool_book.proofs.Laws.{records-at}
use Rattle.test_state.specs.Ids.{Live}

module _ (l : List ℕ) (k : ℕ) (less : k / 128 < max_stores) {rs : List ℕ} (e : rs ≡ records_in l) where
  used : at rs (k / 128) ≡ (book_in l (k / 128)).records
  used = ap (λ (m : List ℕ). at m (k / 128)) e ∙ records-at l (k / 128) less

  pub live_by : k % 128 < at rs (k / 128) → Live l k
  live_by h = omega (arith, used)

  pub dead-by : at rs (k / 128) ≤ k % 128 → Live l k → ⊥
  dead-by h u = omega (arith, used)
