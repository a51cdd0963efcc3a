-- The facts of `Sound` that speak of the tree alone. Assumes nothing.
use Rattle.std.specs.Prelude.{◌≤◌}
use Rattle.model.specs.Sizes.{max_nodes, max_words}
use Rattle.model.specs.State.{Tree}
use Rattle.model.specs.Sound.{TreeLent, Root, ParentsInUse, DepthsAdd, EndsWithin, NodesFilled, RunsBelow, RunsApart, SiblingsDiffer}

-- lengths, counts and the root
pub record TreeSized (t : Tree) : Type 0 where
  pub lent : TreeLent t
  pub low : 1 ≤ t.nodes
  pub high : t.nodes ≤ max_nodes
  pub used : t.used ≤ max_words
  pub root : Root t

pub record TreeSound (t : Tree) : Type 0 where
  pub sized : TreeSized t
  pub parents : ParentsInUse t
  pub depths : DepthsAdd t
  pub ends : EndsWithin t
  pub filled : NodesFilled t
  pub runs_below : RunsBelow t
  pub runs_apart : RunsApart t
  pub siblings : SiblingsDiffer t
