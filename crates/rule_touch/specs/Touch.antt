-- A range cut in two or not, two neighbours joined, and what a touch of one span makes of a store's part. Assumes nothing.
use Rattle.std.specs.Prelude.{ℕ, ◌+◌, ◌≡◌, Bool, true, false, List, [], ◌∷◌, length, Float}
use Rattle.model.specs.declared.Span.{Span}
use Rattle.model.specs.State.{Ranges, Range}
use Rattle.model.specs.Store.{ranges, lay_ranges, part}
use Rattle.model.specs.Touch.{one_inside, restamp, recut, new_pieces, join, Touched}
use Rattle.rule_overlap.specs.Overlap.{halves}
use Rattle.rule_touch.specs.declared.Used.{Used}

abbrev pub halves_if : Bool → ℕ → ℕ → Range → List Range → List Range
halves_if true m i r rs = halves m i r rs
halves_if false m i r rs = r ∷ rs

-- a range joined with its right neighbour, "the left id and time staying"
abbrev pub merged : Range → List Range → List Range
merged r [] = r ∷ []
merged r (q ∷ rs) = part r r.node r.start q.end r.id ∷ rs

-- the ranges after a touch: restamped in place where `one` is told, otherwise cut and joined
abbrev pub touched_ranges : Bool → Span → ℕ → Float → ℕ → List Range → List Range
touched_ranges true sp stamp time next rs = restamp sp.node sp.start sp.end stamp time rs
touched_ranges false sp stamp time next rs = join sp.node (recut sp.node sp.start sp.end stamp time next rs)

-- from the part c with n records, of which those from lo up to hi are overlapped, a refreshing makes c' with m records, and needs `need`
pub record Refreshed (sp : Span) (stamp : ℕ) (time : Float) (next : ℕ) (c c' : Ranges) (n lo k m need : ℕ) : Type 0 where
  pub columns :
      c'
      ≡ lay_ranges 0 (n + need) (touched_ranges (one_inside sp.start sp.end (ranges c lo k)) sp stamp time next (ranges c 0 n)) c
  pub records : m ≡ length (touched_ranges (one_inside sp.start sp.end (ranges c lo k)) sp stamp time next (ranges c 0 n))
  pub needs : need ≡ new_pieces sp.node sp.start sp.end (ranges c 0 n)

-- from the part c with n records a touch makes c' and the marks ms' and answers r; w is what the definition says
pub record Touching (w : Touched) (c c' : Ranges) (ms' : List ℕ) (n : ℕ) (r : Used) : Type 0 where
  pub columns : c' ≡ lay_ranges 0 (n + w.need) w.store.ranges c
  pub marks : ms' ≡ w.store.marks
  pub records : r.n ≡ length w.store.ranges
  pub need : r.need ≡ w.need
  pub stamps : r.stamps ≡ w.stamps
  pub bytes : r.bytes ≡ w.bytes
