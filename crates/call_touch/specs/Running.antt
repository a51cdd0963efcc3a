-- The spans of a list in turn, up to the first that is refused, with nothing put back. What the store's part was gives the state that the turns began with. Assumes nothing.
use Rattle.std.specs.Prelude.{ℕ, ◌*◌, ◌≡◌, Bool, List, Float}
use Rattle.model.specs.declared.Span.{Span}
use Rattle.model.specs.Sizes.{store_records, store_marks}
use Rattle.model.specs.State.{Ranges, State}
use Rattle.model.specs.Calls.{touch_spans, bytes_touched, store_used}
use Rattle.pool_part.specs.Parts.{back, back_ranges}
use Rattle.shape_answer.specs.declared.StoreUsed.{StoreUsed}
use Rattle.shape_answer.specs.Answers.{outcome, store_used_of}
use Rattle.pool_undo.specs.Old.{old_ranges, old_from}
use Rattle.call_touch_span.specs.declared.Run.{Run}
use Rattle.call_touch_span.specs.Turn.{Others, whole}
use Rattle.call_touch.specs.Going.{number, On}

-- before the first turn, where nothing is refused but by a turn
pub record Starts (o : Others) (x : List ℕ) (sps : List Span) (depth bytes : List ℕ) (c : Ranges) (ms : List ℕ) (s : ℕ) (refreshes : Bool) (time : Float) (counted : Bool) (y : Run) : Type 0 where
  pub number : y.number ≡ 0
  pub on : On (whole o depth bytes c ms x) s sps time counted 0 (whole o depth bytes c ms x) refreshes (old_from s c ms) y

pub record CanStart (sps : List Span) (depth bytes : List ℕ) (c : Ranges) (ms : List ℕ) (s : ℕ) (refreshes : Bool) (time : Float) (counted : Bool) (y : Run) : Type 0 where
  pub others : Others
  pub books : List ℕ
  pub starts : Starts others books sps depth bytes c ms s refreshes time counted y

-- after the last turn, or after the first that was refused
pub record Went (st₀ : State) (s : ℕ) (sps : List Span) (time : Float) (counted : Bool) (st : State) (r : Run) : Type 0 where
  pub first : r.number ≡ number st₀ s sps time counted
  pub states : r.number ≡ 0 → st ≡ touch_spans st₀ s sps time counted
  pub bytes : r.number ≡ 0 → r.sum ≡ bytes_touched st₀ s sps time counted
  pub ranges : back_ranges (store_records * s) store_records (old_ranges (old_from s st₀.ranges st₀.marks)) st.ranges ≡ st₀.ranges
  pub marks : back (store_marks * s) store_marks (old_from s st₀.ranges st₀.marks).marks st.marks ≡ st₀.marks

-- the state st' and the answer r are those of the whole call
abbrev pub Outcomes : State → ℕ → List Span → Float → Bool → State → StoreUsed → Type 0
Outcomes st s sps time counted st' r = outcome st' tt (store_used_of r) ≡ store_used st s sps time counted
