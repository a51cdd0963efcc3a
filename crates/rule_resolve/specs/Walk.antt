-- A walk down the tree: what it asks of the lent columns, and what its functions answer. Assumes nothing.
use Rattle.std.specs.Prelude.{ℕ, ◌+◌, ◌≤◌, ◌<◌, ◌≡◌, List, length}
use Rattle.model.specs.Words.{Each}
use Rattle.model.specs.Sizes.{path_places}
use Rattle.model.specs.State.{Tree, at}
use Rattle.model.specs.Sound.{EachNode}
use Rattle.model.specs.Tree.{Seg, resolve}
use Rattle.model.specs.Insert.{match_end}
use Rattle.model.specs.Refusals.{PathList}
use Rattle.model.specs.Calls.{path_of, lay_path}
use Rattle.rule_resolve.specs.declared.Match.{Match}

-- ---- asked

-- the nodes in use stand in the columns of parents and of runs, and their first hashes in the words
pub record Scanned (ps rs ws : List ℕ) (nodes : ℕ) : Type 0 where
  pub parent : nodes ≤ length ps
  pub run : nodes ≤ length rs
  pub words : Each 1 nodes (λ k. at rs k < length ws)

-- node k stands in the columns of lengths and of runs, it has a block or more, and its hashes stand in the words
pub record Stored (ls rs ws : List ℕ) (k : ℕ) : Type 0 where
  pub len : k < length ls
  pub run : k < length rs
  pub filled : 1 ≤ at ls k
  pub words : at rs k + at ls k ≤ length ws

-- both of all nodes in use, and every path fits the path list
pub record Walkable (t : Tree) : Type 0 where
  pub scanned : Scanned t.parent t.run t.words t.nodes
  pub stored : EachNode t (Stored t.len t.run t.words)
  pub few : (hs : List ℕ) → length (resolve t hs) ≤ path_places

-- ---- answered

abbrev pub match_of : List Seg → Match
match_of path = record { segs = (path_of path).segs; blocks = (path_of path).blocks; node = (match_end path).node; len = (match_end path).len }

-- the path's counts and end, and the path in front of the lists
pub record Resolved (t : Tree) (hs : List ℕ) (before after : PathList) (m : Match) : Type 0 where
  pub answer : m ≡ match_of (resolve t hs)
  pub lists : after ≡ lay_path (resolve t hs) before
