-- Document 01, "A list is chained with a tree if ..; then the answer is the longest stored prefix". The longest prefix is the path, not only its length: the
-- listed segments spell the first hashes of the list, and the count is theirs. Assumes nothing.
use Rattle.std.specs.Prelude.{ℕ, zero, suc, ◌≤◌, ◌≡◌, List, [], ◌∷◌, ◌++◌, take, drop}
use Rattle.model.specs.State.{Tree, at}
use Rattle.model.specs.Tree.{Seg, blocks}
use Rattle.model.specs.Chained.{hashes_of, Child, Chained, LongestStored}

-- the first n entries of a path's lists, as segments; an entry past their end would be of the root, which is no child
unfoldable pub segments : ℕ → List ℕ → List ℕ → List Seg
segments zero node len = []
segments (suc n) node len = record { node = at node 0; len = at len 0 } ∷ segments n (drop 1 node) (drop 1 len)

-- s is of a child of p in use: 1 or more of its blocks, and at most all
pub record Below (t : Tree) (p : ℕ) (s : Seg) : Type 0 where
  pub child : Child t p s.node
  pub filled : 1 ≤ s.len
  pub in_node : s.len ≤ at t.len s.node

-- a way down from p: each segment is of a child of the node before it, and each but the last is its whole node
pub data WayDown (t : Tree) : ℕ → List Seg → Type 0 where
  end : {p : ℕ} → WayDown t p []
  last : {p : ℕ} (s : Seg) → Below t p s → WayDown t p (s ∷ [])
  next : {p : ℕ} (s : Seg) (ss : List Seg) → Below t p s → s.len ≡ at t.len s.node → WayDown t s.node ss → WayDown t p (s ∷ ss)

-- the first hashes of each segment's node, as many as it has blocks, one after another
unfoldable pub spelling : Tree → List Seg → List ℕ
spelling t [] = []
spelling t (s ∷ ss) = take s.len (hashes_of t s.node) ++ spelling t ss

-- what the listed segments ss and the count n, answered for the list hs, are: for any list a way down from the root and the sum of its lengths, and for
-- one that is chained with the tree its longest stored prefix, spelt by the segments
pub record Spelt (t : Tree) (hs : List ℕ) (ss : List Seg) (n : ℕ) : Type 0 where
  pub down : WayDown t 0 ss
  pub count : n ≡ blocks ss
  pub spells : Chained t hs → spelling t ss ≡ take n hs
  pub longest : Chained t hs → LongestStored t hs n
