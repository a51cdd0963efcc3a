-- "Name a block by its hashes from the root, so that a cut changes no name". Assumes nothing.
use Rattle.std.specs.Prelude.{ℕ, zero, suc, true, false, ◌≡◌, List, [], ◌++◌, take, eqb}
use Rattle.model.specs.Sizes.{max_hashes}
use Rattle.model.specs.State.{Tree, State, at}
use Rattle.model.specs.Chained.{hashes_of}
use Rattle.model.specs.Store.{store_of}
use Rattle.model.specs.Blocks.{Holds}

-- the hashes from the root to the end of node k, from parent to parent; n bounds the nodes
unfoldable pub above : Tree → ℕ → ℕ → List ℕ
above t zero k = []
above t (suc n) k = elim (eqb k 0) [ true ↦ [] | false ↦ above t n (at t.parent k) ++ hashes_of t k ]

-- the name of block o of node n
unfoldable pub name_of : Tree → ℕ → ℕ → List ℕ
unfolding above
name_of t n o = above t max_hashes (at t.parent n) ++ take (suc o) (hashes_of t n)

-- some block of P has the name w
pub record Named (t : Tree) (P : ℕ → ℕ → Type 0) (w : List ℕ) : Type 0 where
  pub node : ℕ
  pub offset : ℕ
  pub is : P node offset
  pub name : name_of t node offset ≡ w

-- store s holds the block with the name w
abbrev pub Stored : State → ℕ → List ℕ → Type 0
Stored st s w = Named st.tree (Holds (store_of st s).ranges) w
