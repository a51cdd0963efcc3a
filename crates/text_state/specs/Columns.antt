-- What the printers of the state ask of its columns. Assumes nothing.
use Rattle.std.specs.Prelude.{List, ℕ, ◌+◌, ◌*◌, ◌≤◌, ◌<◌, length}
use Rattle.model.specs.Words.{Each}
use Rattle.model.specs.State.{at}

-- node k has its columns, and a run of one hash word or more
pub record Run (parent depth len run words : List ℕ) (k : ℕ) : Type 0 where
  pub has_parent : k < length parent
  pub has_depth : k < length depth
  pub has_len : k < length len
  pub has_run : k < length run
  pub filled : 1 ≤ at len k
  pub below : at run k + at len k ≤ length words

pub record Nodes (parent depth len run words : List ℕ) (nodes : ℕ) : Type 0 where
  pub few : nodes ≤ 256
  pub runs : Each 1 nodes (Run parent depth len run words)

-- a span of a node: its blocks have places counted from the root, and hash words
pub record Spot (depth run words : List ℕ) (node start end : ℕ) : Type 0 where
  pub has_depth : node < length depth
  pub has_run : node < length run
  pub filled : start < end
  pub ends : at depth node + end ≤ 1024
  pub last : at run node + end ≤ length words

-- the span that stands at place i of its columns
pub record SpotAt (i : ℕ) (depth run words node start end : List ℕ) : Type 0 where
  pub has_node : i < length node
  pub has_start : i < length start
  pub has_end : i < length end
  pub spot : Spot depth run words (at node i) (at start i) (at end i)

-- the n spans of store s, which has `size` places of each column
abbrev pub Spots : ℕ → ℕ → ℕ → List ℕ → List ℕ → List ℕ → List ℕ → List ℕ → List ℕ → Type 0
Spots size s n depth run words node start end = Each 0 n (λ k. SpotAt (size * s + k) depth run words node start end)
