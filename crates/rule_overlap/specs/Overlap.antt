-- Which records of a store's part a span overlaps, a list of ranges changed at one place, and what a touch and a removal need. Assumes nothing.
use Rattle.std.specs.Prelude.{ℕ, zero, suc, ◌+◌, ◌≤◌, ◌<◌, ◌≡◌, Bool, true, false, ◌&&◌, List, [], ◌∷◌, length, Float, ltb, eqb}
use Rattle.model.specs.declared.Span.{Span}
use Rattle.model.specs.Sizes.{store_records, max_stamp}
use Rattle.model.specs.Words.{Each, Pairs}
use Rattle.model.specs.State.{Tree, Ranges, Range, at}
use Rattle.model.specs.Store.{Store, ranges, part}
use Rattle.model.specs.Touch.{touch}
use Rattle.model.specs.Remove.{remove}
use Rattle.shape_state.specs.Lent.{ranges_of}
use Rattle.pool_range.specs.Part.{Sized}
use Rattle.rule_overlap.specs.declared.Needs.{Needs}

-- n records in columns that are long enough: nonempty, by node, and on a node disjoint and by start
pub record Ordered (node start end : List ℕ) (n : ℕ) : Type 0 where
  pub nodes : n ≤ length node
  pub starts : n ≤ length start
  pub ends : n ≤ length end
  pub filled : Each 0 n (λ k. at start k < at end k)
  pub by_node : Pairs n (λ j k. at node j ≤ at node k)
  pub apart : Pairs n (λ j k. at node j ≡ at node k → at end j ≤ at start k)

-- has the record at place i blocks of the span?
abbrev pub meets_at : List ℕ → List ℕ → List ℕ → Span → ℕ → Bool
meets_at node start end sp i = eqb (at node i) sp.node && (ltb (at start i) sp.end && ltb sp.start (at end i))

-- lo is the first record that the span overlaps, or n
pub record First (node start end : List ℕ) (n : ℕ) (sp : Span) (lo : ℕ) : Type 0 where
  pub within : lo ≤ n
  pub before : Each 0 lo (λ i. meets_at node start end sp i ≡ false)
  pub there : lo < n → meets_at node start end sp lo ≡ true

-- the records that the span overlaps are those from lo up to hi
pub record Overlap (node start end : List ℕ) (n : ℕ) (sp : Span) (lo hi : ℕ) : Type 0 where
  pub order : lo ≤ hi
  pub high : hi ≤ n
  pub before : Each 0 lo (λ i. meets_at node start end sp i ≡ false)
  pub hits : Each lo hi (λ i. meets_at node start end sp i ≡ true)
  pub after : Each hi n (λ i. meets_at node start end sp i ≡ false)

-- n records in the part c, of which the span overlaps those from lo up to hi
pub record Cuttable (c : Ranges) (n lo hi : ℕ) (sp : Span) : Type 0 where
  pub few : n ≤ 128
  pub sized : Sized 128 c
  pub over : Overlap c.node c.start c.end n sp lo hi

-- ---- a list changed at one place: f makes of the range there and of those behind it what stands there then

unfoldable pub at_place : ℕ → (Range → List Range → List Range) → List Range → List Range
at_place i f [] = []
at_place zero f (r ∷ rs) = f r rs
at_place (suc i) f (r ∷ rs) = r ∷ at_place i f rs

-- the range in two at m, the right part with id i
abbrev pub halves : ℕ → ℕ → Range → List Range → List Range
halves m i r rs = part r r.node r.start m r.id ∷ part r r.node m r.end i ∷ rs

-- ---- how many records and stamps a touch needs, how many records a removal needs: those of the definitions, for any store with these ranges

abbrev pub TouchNeeds : List ℕ → List ℕ → List ℕ → ℕ → Span → Bool → Needs → Type 0
TouchNeeds node start end n sp refreshes r =
    (id stamp write : List ℕ) (touched : List Float) (t : Tree) (table : List ℕ) (x : Store) (next : ℕ) (time : Float) (counted : Bool)
    → x.ranges ≡ ranges (ranges_of node start end id stamp touched write) 0 n → eqb x.book.policy 1 ≡ refreshes
    → (r.records ≡ (touch t table x next sp time counted).need) × (r.stamps ≡ (touch t table x next sp time counted).stamps)

abbrev pub RemoveNeeds : List ℕ → List ℕ → List ℕ → ℕ → Span → ℕ → Type 0
RemoveNeeds node start end n sp r =
    (id stamp write : List ℕ) (touched : List Float) (x : Store) (next : ℕ)
    → x.ranges ≡ ranges (ranges_of node start end id stamp touched write) 0 n → r ≡ (remove x next sp).need

-- the needs fit: what the refusals 8 and 11 test
pub record TouchFits (node start end : List ℕ) (n : ℕ) (sp : Span) (refreshes : Bool) (top next : ℕ) : Type 0 where
  pub needs : Needs
  pub are : TouchNeeds node start end n sp refreshes needs
  pub records : n + needs.records ≤ store_records
  pub stamps : top + needs.stamps ≤ max_stamp
  pub ids : next + needs.records ≤ max_stamp

pub record RemoveFits (node start end : List ℕ) (n : ℕ) (sp : Span) : Type 0 where
  pub need : ℕ
  pub are : RemoveNeeds node start end n sp need
  pub records : n + need ≤ store_records
