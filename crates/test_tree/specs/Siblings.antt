-- Siblings differ in their first hash. Assumes nothing.
use Rattle.std.specs.Prelude.{ℕ, ◌+◌, ◌*◌, ◌/◌, ◌%◌, ◌≤◌, ◌≡◌, List}
use Rattle.model.specs.State.{at}
use Rattle.test_tree.specs.Chain.{Apart, New}

abbrev pub first_at : List ℕ → List ℕ → ℕ → ℕ
first_at run words k = at words (at run k)

abbrev pub NotRoot : ℕ → Type 0
NotRoot k = 1 ≤ k

-- nodes j and k have one parent and one first hash
pub record Twins (parent run words : List ℕ) (j k : ℕ) : Type 0 where
  pub one_parent : at parent j ≡ at parent k
  pub one_hash : first_at run words j ≡ first_at run words k

-- no two nodes but one and the same are twins
unfoldable pub Unlike : List ℕ → List ℕ → List ℕ → ℕ → Type 0
Unlike parent run words n = Apart NotRoot (Twins parent run words) n

-- node i has no twin below m
unfoldable pub Alone : List ℕ → List ℕ → List ℕ → ℕ → ℕ → Type 0
Alone parent run words m i = New NotRoot (Twins parent run words) m i

-- a bucket below 256 that twins share; any other function of hash and parent would do
unfoldable pub bucket_of : ℕ → ℕ → ℕ
bucket_of h p = ((h / 4294967296 * 1906780815 + h % 4294967296 * 1425409027) / 16777216 % 256 + p % 256) % 256

abbrev pub hash_bucket : List ℕ → List ℕ → List ℕ → ℕ → ℕ
hash_bucket parent run words k = bucket_of (first_at run words k) (at parent k)
