-- One store's pin entries: the n places from a of the pool of pin entries. Assumes nothing.
use Rattle.std.specs.Prelude.{ℕ, zero, suc, ◌+◌, ◌-◌, ◌*◌, ◌≤◌, ◌<◌, ◌≡◌, List}
use Rattle.model.specs.Words.{Each}
use Rattle.model.specs.State.{at}
use Rattle.test_store.specs.Places.{PairsFrom}
use Rattle.test_store.specs.Records.{InsideAt}

-- the entry at place j stands before the one at k: by node, then start, then end, and they differ
pub record PinBeforeAt (node start end : List ℕ) (j k : ℕ) : Type 0 where
  pub by_node : at node j ≤ at node k
  pub by_start : at node j ≡ at node k → at start j ≤ at start k
  pub by_end : at node j ≡ at node k → at start j ≡ at start k → at end j < at end k

abbrev pub CountedAt : List ℕ → ℕ → Type 0
CountedAt count i = 1 ≤ at count i

-- the sum of length times count of the n entries from place a
unfoldable pub pinned_from : List ℕ → List ℕ → List ℕ → ℕ → ℕ → ℕ
pinned_from start end count a zero = 0
pinned_from start end count a (suc n) = pinned_from start end count a n + (at end (a + n) - at start (a + n)) * at count (a + n)

pub record PinsFit (len node start end count : List ℕ) (nodes a n pinned : ℕ) : Type 0 where
  pub inside : Each a (a + n) (InsideAt len node start end nodes)
  pub counted : Each a (a + n) (CountedAt count)
  pub stand : PairsFrom a (a + n) (PinBeforeAt node start end)
  pub sum : pinned ≡ pinned_from start end count a n
