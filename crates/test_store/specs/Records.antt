-- One store's records: the n places from a of the pool of ranges. Assumes nothing.
use Rattle.std.specs.Prelude.{ℕ, zero, suc, ◌+◌, ◌-◌, ◌≤◌, ◌<◌, ◌≡◌, List, get_or, Float}
use Rattle.std.specs.Float.{nan}
use Rattle.model.specs.Words.{Each}
use Rattle.model.specs.State.{at}
use Rattle.model.specs.Sound.{Finite}
use Rattle.test_store.specs.Places.{PairsFrom}

-- what stands at place i is nonempty and inside a node in use
pub record InsideAt (len node start end : List ℕ) (nodes i : ℕ) : Type 0 where
  pub in_use : at node i < nodes
  pub filled : at start i < at end i
  pub ends : at end i ≤ at len (at node i)

-- the range at place j stands before the one at k: by node, and on one node it ends before k's starts
pub record BeforeAt (node start end : List ℕ) (j k : ℕ) : Type 0 where
  pub by_node : at node j ≤ at node k
  pub apart : at node j ≡ at node k → at end j ≤ at start k

-- the id is from 1 and below the next, the stamp from 1 up to the store's
pub record NumberedAt (id stamp : List ℕ) (next top i : ℕ) : Type 0 where
  pub id_low : 1 ≤ at id i
  pub id_high : at id i < next
  pub stamp_low : 1 ≤ at stamp i
  pub stamp_high : at stamp i ≤ top

abbrev pub FiniteAt : List Float → ℕ → Type 0
FiniteAt touched i = Finite (get_or touched i nan)

-- how many blocks the n ranges from place a hold
unfoldable pub held_from : List ℕ → List ℕ → ℕ → ℕ → ℕ
held_from start end a zero = 0
held_from start end a (suc n) = held_from start end a n + (at end (a + n) - at start (a + n))

pub record RecordsFit (len node start end id stamp : List ℕ) (touched : List Float) (nodes next a n top held capacity : ℕ) : Type 0 where
  pub inside : Each a (a + n) (InsideAt len node start end nodes)
  pub stand : PairsFrom a (a + n) (BeforeAt node start end)
  pub numbered : Each a (a + n) (NumberedAt id stamp next top)
  pub finite : Each a (a + n) (FiniteAt touched)
  pub sum : held ≡ held_from start end a n
  pub empty : capacity ≡ 0 → held ≡ 0
