-- Document 01, "Expire". Assumes nothing.
use Rattle.std.specs.Prelude.{ℕ, zero, suc, Bool, true, false, List, [], length, Float, Option, None, Some}
use Rattle.std.specs.Float.{binary64}
use Rattle.std.specs.Float.Ieee.{sub, lt}
use Rattle.model.specs.State.{Tree, Range}
use Rattle.model.specs.Store.{Store, ranged, length_of, total, unmark}
use Rattle.model.specs.Trim.{Out, told, nth, first, evict, Trimmed, also, version_after}

-- "now minus touched, rounded once, strictly greater than the seconds"
unfoldable pub aged : Float → Float → Range → Bool
aged now seconds r = lt seconds (sub binary64 now r.touched)

-- the range at the place found, if it is aged
abbrev pub if_aged : Float → Float → List Range → Option ℕ → Option ℕ
if_aged now seconds rs None = None
if_aged now seconds rs (Some i) = elim (aged now seconds (nth rs i)) [ true ↦ Some i | false ↦ None ]

-- "the first range by stamp and id", pinned or not
unfoldable pub oldest : Float → Float → List Range → Option ℕ
unfolding first aged
oldest now seconds rs = if_aged now seconds rs (first (λ r. true) rs)

-- "give it out whole; stop at the first that hasn't"; n bounds the turns
unfoldable pub expire_by : Tree → List ℕ → Float → Float → ℕ → Option ℕ → List Range → List ℕ → Trimmed
unfolding oldest evict
expire_by t table now seconds zero c rs ms = record { ranges = rs; marks = ms; outs = []; stalled = false }
expire_by t table now seconds (suc n) None rs ms = record { ranges = rs; marks = ms; outs = []; stalled = false }
expire_by t table now seconds (suc n) (Some i) rs ms =
    let r = nth rs i in
    let rest = evict rs i (length_of r) in
    also (told t table ms r r.start r.end) (expire_by t table now seconds n (oldest now seconds rest) rest (unmark r.node rest ms))

-- the store afterwards, and what it gave out
pub record Expired : Type 0 where
  pub store : Store
  pub outs : List Out

unfoldable pub expire : Tree → List ℕ → Store → Float → Float → Expired
unfolding expire_by oldest total
expire t table x now seconds =
    let w = expire_by t table now seconds (length x.ranges) (oldest now seconds x.ranges) x.ranges x.marks in
    record {
      store = record {
        book = ranged x.book (length w.ranges) (total w.ranges) x.book.stamp (version_after x.book.version w.outs);
        ranges = w.ranges;
        pins = x.pins;
        marks = w.marks;
      };
      outs = w.outs;
    }
