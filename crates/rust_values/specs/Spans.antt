-- The spans of a touch that three lent lists name: as many as the shortest has. Assumes nothing.
use Rattle.std.specs.Prelude.{ℕ, Bool, true, false, List, [], ◌∷◌}
use Rattle.model.specs.declared.Span.{Span}

abbrev pub span : ℕ → ℕ → ℕ → Span
span node start end = record { node = node; start = start; end = end }

unfoldable pub spans_of : List ℕ → List ℕ → List ℕ → List Span
spans_of [] start end = []
spans_of (n ∷ node) [] end = []
spans_of (n ∷ node) (a ∷ start) [] = []
spans_of (n ∷ node) (a ∷ start) (z ∷ end) = span n a z ∷ spans_of node start end

-- the refusal of more than 64 where the state is sound: 2 if there is no such store, else 3
abbrev pub too_many : Bool → ℕ
too_many true = 2
too_many false = 3
