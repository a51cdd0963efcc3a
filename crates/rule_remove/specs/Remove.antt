-- What a removal leaves of one range, and what a removal of a span leaves of a store's part. Assumes nothing.
use Rattle.std.specs.Prelude.{ℕ, ◌+◌, ◌≤◌, ◌≡◌, List, ◌∷◌, length, ltb}
use Rattle.model.specs.declared.Span.{Span}
use Rattle.model.specs.State.{Ranges, Range}
use Rattle.model.specs.Store.{ranges, lay_ranges, part, put}
use Rattle.model.specs.Remove.{Removed, cut_out, middle_cuts}
use Rattle.model.specs.Calls.{front}
use Rattle.rule_remove.specs.declared.Removing.{Removing}

-- what is left of a range before a and from z on, in front of the rest
abbrev pub left_of : ℕ → ℕ → Range → List Range → List Range
left_of a z r rs = put (ltb r.start a) (part r r.node r.start a r.id) (put (ltb z r.end) (part r r.node z r.end r.id) rs)

-- the head of a range before a, and its tail from z on with id i
abbrev pub both_ends : ℕ → ℕ → ℕ → Range → List Range → List Range
both_ends a z i r rs = part r r.node r.start a r.id ∷ part r r.node z r.end i ∷ rs

-- from the part c with n records a cut makes c' with m records, and needs `need`
pub record CutTo (next need : ℕ) (sp : Span) (c c' : Ranges) (n m : ℕ) : Type 0 where
  pub columns : c' ≡ lay_ranges 0 (n + need) (cut_out sp.node sp.start sp.end next (ranges c 0 n)) c
  pub records : m ≡ length (cut_out sp.node sp.start sp.end next (ranges c 0 n))
  pub few : m ≤ n + need
  pub needs : need ≡ middle_cuts sp.node sp.start sp.end (ranges c 0 n)

-- from the part c with n records and the list ls a removal makes c', the marks ms' and ls' and answers r; w is what the definition says
pub record Freed (w : Removed) (c c' : Ranges) (ms' ls ls' : List ℕ) (n : ℕ) (r : Removing) : Type 0 where
  pub columns : c' ≡ lay_ranges 0 (n + w.need) w.store.ranges c
  pub marks : ms' ≡ w.store.marks
  pub list : ls' ≡ front w.writes ls
  pub records : r.n ≡ length w.store.ranges
  pub need : r.need ≡ w.need
  pub writes : r.writes ≡ length w.writes
  pub blocks : r.removed ≡ w.blocks
