-- What the bytes of a span ask for. Assumes nothing.
use Rattle.std.specs.Prelude.{ℕ, ◌+◌, ◌≤◌, ◌<◌, List, [], length}
use Rattle.model.specs.declared.Span.{Span}
use Rattle.model.specs.Sizes.{max_hashes, table_length}
use Rattle.model.specs.State.{Tree, at}
use Rattle.model.specs.Sound.{Rising}
use Rattle.shape_state.specs.Lent.{tree_of}

-- a span of a node, whose blocks the byte table reaches
pub record Priced (depth bytes : List ℕ) (sp : Span) : Type 0 where
  pub node : sp.node < length depth
  pub order : sp.start ≤ sp.end
  pub ends : at depth sp.node + sp.end ≤ max_hashes
  pub table : table_length ≤ length bytes
  pub rising : Rising bytes

-- bytes look at the depths of a tree alone, so they are those of any tree with these depths
abbrev pub only_depth : List ℕ → Tree
only_depth depth = tree_of [] depth [] [] [] 0 0
