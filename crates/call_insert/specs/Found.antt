-- The path of a list as insert finds it, before it writes anything. Assumes nothing.
use Rattle.std.specs.Prelude.{ℕ, ◌+◌, ◌-◌, ◌≤◌, ◌<◌, ◌≡◌, List, map, length, take}
use Rattle.model.specs.Sizes.{max_hashes, max_numbers}
use Rattle.model.specs.State.{Tree, State}
use Rattle.model.specs.Sound.{Sound}
use Rattle.model.specs.Tree.{Seg, resolve}
use Rattle.model.specs.Insert.{Inserted}
use Rattle.model.specs.Refusals.{PathList, PathFits}
use Rattle.model.specs.Calls.{lay_path}
use Rattle.rule_resolve.specs.declared.Match.{Match}
use Rattle.rule_resolve.specs.Walk.{match_of}
use Rattle.call_cut.specs.Refusal.{insert_refusal}

-- a path: its counts and its end, and its segments in front of the lists
pub record Found (ss : List Seg) (m : Match) (l : PathList) : Type 0 where
  pub match : m ≡ match_of ss
  pub node : take m.segs l.node ≡ map (λ s. s.node) ss
  pub len : take m.segs l.len ≡ map (λ s. s.len) ss

-- an insert that no test refuses, and the path of its list
pub record Passed (st : State) (l : PathList) (hs : List ℕ) (m : Match) (found : PathList) : Type 0 where
  pub sound : Sound st
  pub fits : PathFits l
  pub short : length hs ≤ max_hashes
  pub none : insert_refusal st hs ≡ 0
  pub path : Found (resolve st.tree hs) m found

-- there is room in the tree for a leaf with the rest of the list, in the small numbers for its counts, and in the lists for its segment after the path
pub record LeafRoom (ss : List Seg) (t : Tree) (bs : List ℕ) (l : PathList) (hs : List ℕ) (m : Match) (found : PathList) : Type 0 where
  pub path : Found ss m found
  pub within : m.blocks ≤ length hs
  pub parent : t.nodes < length t.parent
  pub depth : t.nodes < length t.depth
  pub len : t.nodes < length t.len
  pub run : t.nodes < length t.run
  pub words : t.used + (length hs - m.blocks) ≤ length t.words
  pub books : max_numbers ≤ length bs
  pub path_node : m.segs < length l.node
  pub path_len : m.segs < length l.len

-- st' and l' are what w says, where the lists were l
pub record Left (w : Inserted) (l : PathList) (st' : State) (l' : PathList) : Type 0 where
  pub state : st' ≡ w.state
  pub lists : l' ≡ lay_path w.path l
