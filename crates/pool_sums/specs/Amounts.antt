-- What a call adds to the running sums, from plain numbers, and what is asked of a given-out list so that its sums fit 64 bits. Assumes nothing.
use Rattle.std.specs.Prelude.{ℕ, ◌≤◌, List, [], ◌∷◌, length}
use Rattle.model.specs.Refusals.{OutList}
use Rattle.model_sums.specs.Sums.{More, more, listed_sum, listed_blocks, brought_at, age_at, bytes_at, dead_at, gave_at, lookups_at, blocks_at, read_at, max_sum}
use Rattle.shape_answer.specs.Lists.{out_list}
use Rattle.pool_sums.specs.declared.OutSums.{OutSums}
-- far from the limit: the seven of a store, and the three over all
pub use Rattle.theory_sums.specs.Bounds.{Far, FarOver}

-- ---- of a given-out list

-- its first n places are there, and their sums fit
pub record Listed (n : ℕ) (l : OutList) : Type 0 where
  pub start : n ≤ length l.start
  pub end : n ≤ length l.end
  pub bytes : n ≤ length l.bytes
  pub dead : n ≤ length l.dead
  pub blocks_fit : listed_blocks n l ≤ max_sum
  pub bytes_fit : listed_sum n l.bytes ≤ max_sum
  pub dead_fit : listed_sum n l.dead ≤ max_sum

-- a list of which no more than these four columns counts
abbrev pub only_sums : List ℕ → List ℕ → List ℕ → List ℕ → OutList
only_sums starts ends bytes dead = out_list [] starts ends [] bytes dead

abbrev pub out_sums : ℕ → OutList → OutSums
out_sums n l = record { blocks = listed_blocks n l; bytes = listed_sum n l.bytes; dead = listed_sum n l.dead }

-- ---- what is added

abbrev pub out_more : ℕ → ℕ → OutSums → List More
out_more place s o = more place o.blocks ∷ more (bytes_at s) o.bytes ∷ more (dead_at s) o.dead ∷ []

abbrev pub bring_more : ℕ → ℕ → ℕ → OutSums → List More
bring_more capacity s blocks o = more (brought_at s) blocks ∷ out_more (gave_at capacity s) s o

abbrev pub expire_more : ℕ → OutSums → List More
expire_more s o = out_more (age_at s) s o

abbrev pub look_more : ℕ → ℕ → List More
look_more blocks bytes = more lookups_at 1 ∷ more blocks_at blocks ∷ more read_at bytes ∷ []
