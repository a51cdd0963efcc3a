-- What holds of the pools between two operations. Assumes nothing.
use Rattle.std.specs.Prelude.{◌≤◌}
use Rattle.model.specs.State.{State}
use Rattle.model.specs.Sound.{Sound}

-- a state that has a node was set up: it has its root
abbrev pub SoundIfSetUp : State → Type 0
SoundIfSetUp st = 1 ≤ st.tree.nodes → Sound st
