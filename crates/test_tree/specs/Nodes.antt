-- What one node needs of the tree's lists, and the byte table with its length. Assumes nothing.
use Rattle.std.specs.Prelude.{ℕ, ◌+◌, ◌≤◌, ◌<◌, ◌≡◌, List, length}
use Rattle.model.specs.Sizes.{table_length, max_hashes}
use Rattle.model.specs.State.{at}
use Rattle.model.specs.Sound.{Rising}

pub record Table (bytes : List ℕ) : Type 0 where
  pub long : table_length ≤ length bytes
  pub rising : Rising bytes

-- node k has a block, ends by 1,024, its hashes lie below the used count, its parent is in use, and it starts where its parent ends
pub record NodeFits (parent depth len run : List ℕ) (nodes used k : ℕ) : Type 0 where
  pub in_use : at parent k < nodes
  pub adds : at depth k ≡ at depth (at parent k) + at len (at parent k)
  pub ends : at depth k + at len k ≤ max_hashes
  pub filled : 1 ≤ at len k
  pub below : at run k + at len k ≤ used
