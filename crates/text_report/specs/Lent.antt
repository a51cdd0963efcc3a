-- What is written into a buffer that the caller lends. Assumes nothing.
use Rattle.std.specs.Prelude.{ℕ, ◌+◌, ◌≤◌, List}
use Rattle.text_print.specs.Print.{Put}

-- some bytes, at most k, were written at `at`, and every other is as it was: l before, l' after, r the place past them
pub record PutAtMost (at k : ℕ) (l l' : List ℕ) (r : ℕ) : Type 0 where
  pub low : at ≤ r
  pub high : r ≤ at + k
  pub text : List ℕ
  pub put : Put at text l l' r
