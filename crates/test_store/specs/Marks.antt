-- One store's read marks: the 256 places from m of the pool of marks. Its records are those from a up to b. Assumes nothing.
use Rattle.std.specs.Prelude.{ℕ, ◌+◌, ◌≤◌, ◌<◌, ◌≡◌, Bool, true, false, List, length, get_or}
use Rattle.model.specs.Words.{Each}
use Rattle.model.specs.State.{at}

-- none of the records is on node v
abbrev pub NoneOn : List ℕ → ℕ → ℕ → ℕ → Type 0
NoneOn node a b v = Each a b (λ i. at node i ≡ v → ⊥)

-- node v's mark is 0 where the store holds nothing of v, and never above v's length
pub record MarkFits (len node marks : List ℕ) (nodes a b m v : ℕ) : Type 0 where
  pub none : NoneOn node a b v → at marks (m + v) ≡ 0
  pub within : v < nodes → at marks (m + v) ≤ at len v

-- flags tell the nodes of the records from a up to i
pub record Flags (node : List ℕ) (flags : List Bool) (a i : ℕ) : Type 0 where
  pub long : length flags ≡ 256
  pub set : Each a i (λ k. get_or flags (at node k) false ≡ true)
  pub real : (v : ℕ) → get_or flags v false ≡ true → (k : ℕ) × (a ≤ k) × (k < i) × (at node k ≡ v)
