-- What the choice of a range says. Assumes nothing.
use Rattle.std.specs.Prelude.{ℕ, ◌≡◌, ◌≤◌, Bool, true, not, List, length, Option, None, Some, eqb, ltb, ◌&&◌}
use Rattle.model.specs.declared.Span.{Span}
use Rattle.model.specs.State.{Ranges, Range, Pins, range_at}
use Rattle.model.specs.Store.{ranges, pins}
use Rattle.model.specs.Trim.{is_pinned, sooner, first}
use Rattle.shape_state.specs.Lent.{pins_of}
use Rattle.shape_state.specs.declared.PinsRef.{PinsRef}

-- `overlaps`, by the numbers that it looks at
abbrev pub overlapping : Span → Span → Bool
overlapping r p = eqb r.node p.node && (ltb r.start p.end && ltb p.start r.end)

-- the record found behind record i, if there is one, is not sooner
abbrev pub leads : Ranges → ℕ → Option ℕ → Bool
leads c i None = true
leads c i (Some b) = not (sooner (range_at c b) (range_at c i))

-- the columns hold m pins
pub record HoldsPins (m : ℕ) (p : PinsRef) : Type 0 where
  pub node : m ≤ length p.node.now
  pub start : m ≤ length p.start.now
  pub end : m ≤ length p.end.now

-- the pins with counts of any kind: the choice doesn't look at them
abbrev pub counted : PinsRef → List ℕ → Pins
counted p count = pins_of p.node.now p.start.now p.end.now count

-- b says whether one of m pins overlaps a range of this node, start and end
abbrev pub PinnedIs : Span → PinsRef → ℕ → Bool → Type 0
PinnedIs r p m b = (count : List ℕ) (q : Range) → q.node ≡ r.node → q.start ≡ r.start → q.end ≡ r.end → b ≡ is_pinned (pins (counted p count) 0 m) q

-- r is the place of the first of n ranges that no pin overlaps
abbrev pub FreeIs : Ranges → ℕ → PinsRef → ℕ → Option ℕ → Type 0
FreeIs c n p m r = (count : List ℕ) → r ≡ first (λ q. not (is_pinned (pins (counted p count) 0 m) q)) (ranges c 0 n)

-- r is the place of the first of n ranges, pinned or not
abbrev pub OldestIs : Ranges → ℕ → Option ℕ → Type 0
OldestIs c n r = r ≡ first (λ q. true) (ranges c 0 n)
