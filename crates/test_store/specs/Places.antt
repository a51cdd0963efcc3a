-- Facts of every two places from a up to b of a pool. Assumes nothing.
use Rattle.std.specs.Prelude.{ℕ, ◌≤◌, ◌<◌}

-- R holds of every two places from a up to b, the lower first
abbrev pub PairsFrom : ℕ → ℕ → (ℕ → ℕ → Type 0) → Type 0
PairsFrom a b R = (j k : ℕ) → a ≤ j → j < k → k < b → R j k
