-- Hash runs that do not overlap, and the marks by which the code finds out. Assumes nothing.
use Rattle.std.specs.Prelude.{ℕ, ◌+◌, ◌≤◌, ◌<◌, ◌≡◌, List}
use Rattle.model.specs.Words.{Each}
use Rattle.model.specs.State.{at}

-- word w is in node k's run
pub record In (run len : List ℕ) (k w : ℕ) : Type 0 where
  pub low : at run k ≤ w
  pub high : w < at run k + at len k

-- no word is in the runs of two nodes
unfoldable pub OneOwner : List ℕ → List ℕ → ℕ → Type 0
OneOwner run len nodes = (w : ℕ) → Each 1 nodes (λ j. Each 1 nodes (λ k. In run len j w → In run len k w → j ≡ k))

-- x is e with who from a up to b
pub record Filled (e x : List ℕ) (a b who : ℕ) : Type 0 where
  pub inside : Each a b (λ j. at x j ≡ who)
  pub below : (j : ℕ) → j < a → at x j ≡ at e j
  pub above : (j : ℕ) → b ≤ j → at x j ≡ at e j

-- e is 0 from a up to b
unfoldable pub Free : List ℕ → ℕ → ℕ → Type 0
Free e a b = Each a b (λ j. at e j ≡ 0)
