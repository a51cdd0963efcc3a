-- Range ids: place k of the pool is record k % 128 of store k / 128. Assumes nothing.
use Rattle.std.specs.Prelude.{ℕ, ◌<◌, ◌/◌, ◌%◌, ◌≡◌, List}
use Rattle.model.specs.State.{at, book_in}
use Rattle.test_tree.specs.Chain.{Apart}

-- the record at place k is in use, by the small numbers l
abbrev pub Live : List ℕ → ℕ → Type 0
Live l k = k % 128 < (book_in l (k / 128)).records

abbrev pub SameId : List ℕ → ℕ → ℕ → Type 0
SameId id j k = at id j ≡ at id k

-- the records in use below n have ids that differ
unfoldable pub Differ : List ℕ → List ℕ → ℕ → Type 0
Differ id l n = Apart (Live l) (SameId id) n

-- no record in use below n has the id y
unfoldable pub Fresh : List ℕ → List ℕ → ℕ → ℕ → Type 0
Fresh id l n y = (k : ℕ) → k < n → Live l k → at id k ≡ y → ⊥

abbrev pub id_bucket : List ℕ → ℕ → ℕ
id_bucket id k = at id k % 1024
