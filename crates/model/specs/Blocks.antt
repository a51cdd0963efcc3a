-- The blocks that a list of ranges holds, and those of a span. Assumes nothing.
use Rattle.std.specs.Prelude.{ℕ, ◌≤◌, ◌<◌, ◌≡◌, ◌⊎◌, List, [], ◌∷◌}
use Rattle.model.specs.declared.Span.{Span}
use Rattle.model.specs.State.{Range}

-- the range has a block
abbrev pub Filled : Range → Type 0
Filled r = r.start < r.end

-- block o of node n is in the range
pub record In (n o : ℕ) (r : Range) : Type 0 where
  pub node : r.node ≡ n
  pub low : r.start ≤ o
  pub high : o < r.end

-- block o of node n is in some range of the list
unfoldable pub Holds : List Range → ℕ → ℕ → Type 0
Holds [] n o = ⊥
Holds (r ∷ rs) n o = In n o r ⊎ Holds rs n o

-- block o of node n is in the span
pub record InSpan (sp : Span) (n o : ℕ) : Type 0 where
  pub node : n ≡ sp.node
  pub low : sp.start ≤ o
  pub high : o < sp.end
