-- A list of spans looked at up to span i, before the first turn: 4 where one of them is not one of the tree. Assumes nothing.
use Rattle.std.specs.Prelude.{ℕ, ◌≤◌, ◌≡◌, Bool, true, false, not, List, length, get_or}
use Rattle.model.specs.declared.Span.{Span}
use Rattle.model.specs.Words.{any}
use Rattle.model.specs.State.{Tree}
use Rattle.model.specs.Refusals.{span_in, no_span}
use Rattle.call_touch_span.specs.declared.Turn.{Turn}
use Rattle.call_touch_span.specs.Turn.{four, refusing}

abbrev pub bad : Tree → List Span → ℕ → Bool
bad t sps k = not (span_in t (get_or sps k no_span))

-- y after a look at spans of which some are bad, or none
abbrev pub looked_at : Bool → Turn → Turn
looked_at true y = refusing (four y.run.number) y
looked_at false y = y

-- the number n, or 4 before it, after a look at spans of which some are bad, or none
abbrev pub refused_by : Bool → ℕ → ℕ
refused_by true n = four n
refused_by false n = n

pub record Looking (t : Tree) (sps : List Span) (y₀ : Turn) (i : ℕ) (y : Turn) : Type 0 where
  pub high : i ≤ length sps
  pub is : y ≡ looked_at (any i (bad t sps)) y₀

-- the same on any tree with these lengths
abbrev pub Looks : List Span → List ℕ → Turn → ℕ → Turn → Type 0
Looks sps len y₀ i y = (t : Tree) → t.len ≡ len → t.nodes ≡ y₀.nodes → Looking t sps y₀ i y
