-- "For a list chained with the tree, resolve's answer is the longest prefix that any stored path has", of what an accepted call answers and of what it leaves
-- in the lists. Assumes nothing.
use Rattle.std.specs.Prelude.{ℕ, List}
use Rattle.model.specs.declared.Path.{Path}
use Rattle.model.specs.State.{Tree}
use Rattle.model.specs.Refusals.{PathList}
use Rattle.theory_resolve.specs.Spelt.{segments, Spelt}

-- how many blocks of the list a path covers
abbrev pub covered : Path → ℕ
covered p = p.blocks

-- the path p is answered for the hashes hs, with its segments in front of the lists l: they are a way down from the root and the count is theirs, and if hs
-- is chained they spell its first hashes, as many as the longest stored prefix has
abbrev pub LongestPath : Tree → List ℕ → PathList → Path → Type 0
LongestPath t hs l p = Spelt t hs (segments p.segs l.node l.len) (covered p)
