-- What a page promises of its length. Assumes nothing.
use Rattle.std.specs.Prelude.{ℕ, ◌+◌, ◌≤◌, List, length}

-- at most k bytes were written: the text was l and is r
pub record Wrote (k : ℕ) (l r : List ℕ) : Type 0 where
  pub low : length l ≤ length r
  pub high : length r ≤ length l + k
