-- Gaps by value, and a range's place among the records. Assumes nothing.
use Rattle.std.specs.Prelude.{List, [], ◌∷◌, ◌++◌, ◌≡◌, ℕ, zero, suc, ◌≤◌, length, get_or}
use Rattle.model.specs.State.{Range}
use Rattle.model.specs.Store.{insert}
use Rattle.model.specs.Bring.{Gap}
use Rattle.pool_range.specs.Cols.{insert_at}
use Rattle.rule_fill.specs.declared.Gap.{Gap as GapHere}
use Rattle.rule_fill.specs.declared.Gaps.{Gaps}

abbrev pub gap_of : GapHere → Gap
gap_of g = record { from = g.from; upto = g.upto }

-- gap i of a list
abbrev pub gap_at : List GapHere → ℕ → Gap
gap_at l i = gap_of (get_or l i (record { from = 0; upto = 0 }))

-- the first n gaps of a list
unfoldable pub gaps_in : List GapHere → ℕ → List Gap
gaps_in l zero = []
gaps_in l (suc n) = gaps_in l n ++ (gap_at l n ∷ [])

abbrev pub gaps_of : Gaps → List Gap
gaps_of g = gaps_in g.list g.n

-- place i is where a range of node n that starts at s stands among the records
pub record PlaceFor (n s : ℕ) (rs : List Range) (i : ℕ) : Type 0 where
  pub within : i ≤ length rs
  pub there : (g : Range) → g.node ≡ n → g.start ≡ s → insert g rs ≡ insert_at i g rs
