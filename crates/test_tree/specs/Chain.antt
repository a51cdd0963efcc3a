-- Chains by bucket, by which the code finds equal keys without comparing all pairs. `b k` is the bucket of index k, and `U k` says that k counts.
-- A link is an index, or none at the end. Assumes nothing.
use Rattle.std.specs.Prelude.{ℕ, ◌+◌, ◌≤◌, ◌<◌, ◌≡◌, List, Option, None, Some, slice_index_or}

-- how far a link reaches: 1 more than its index, and 0 at the end
abbrev pub reach : Option ℕ → ℕ
reach None = 0
reach (Some k) = k + 1

-- that of the link at place k
abbrev pub linked : List (Option ℕ) → ℕ → ℕ
linked ls k = reach (slice_index_or ls k None)

-- from each index below i that counts, the link leads to the next lower one of its bucket
pub record Chain (b : ℕ → ℕ) (U : ℕ → Type 0) (prev : List (Option ℕ)) (i : ℕ) : Type 0 where
  pub down : (k : ℕ) → k < i → U k → linked prev k ≤ k
  pub gap : (k j : ℕ) → k < i → U k → linked prev k ≤ j → j < k → U j → b j ≡ b k → ⊥
  pub link : (k j : ℕ) → k < i → U k → linked prev k ≡ j + 1 → U j × (b j ≡ b k)

-- the link of each bucket leads to its highest index below i that counts
pub record Heads (b : ℕ → ℕ) (U : ℕ → Type 0) (last : List (Option ℕ)) (i : ℕ) : Type 0 where
  pub top : (c : ℕ) → linked last c ≤ i
  pub gap : (j : ℕ) → j < i → U j → linked last (b j) ≤ j → ⊥
  pub link : (c j : ℕ) → linked last c ≡ j + 1 → U j × (b j ≡ c)

-- no two indices below n that count are alike
abbrev pub Apart : (U : ℕ → Type 0) → (ℕ → ℕ → Type 0) → ℕ → Type 0
Apart U Same n = (j k : ℕ) → j < n → k < n → U j → U k → Same j k → j ≡ k

-- none below m that counts is like i
abbrev pub New : (U : ℕ → Type 0) → (ℕ → ℕ → Type 0) → ℕ → ℕ → Type 0
New U Same m i = (k : ℕ) → k < m → U k → Same k i → ⊥
