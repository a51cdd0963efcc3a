-- A sound state that has these small numbers: what a counter's answer speaks of. Assumes nothing.
use Rattle.std.specs.Prelude.{ℕ, ◌≡◌, List}
use Rattle.model.specs.State.{State}
use Rattle.model.specs.Sound.{Sound}

pub record Of (l : List ℕ) (st : State) : Type 0 where
  pub books : st.books ≡ l
  pub sound : Sound st
