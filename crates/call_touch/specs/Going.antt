-- A touch between span i - 1 and span i of its list: what is left to do gives what all of it gives, and the store's part as it was before the first turn is kept; or a
-- turn was refused, and the pools are as they were. Assumes nothing.
use Rattle.std.specs.Prelude.{ℕ, ◌+◌, ◌*◌, ◌≤◌, ◌<◌, ◌≡◌, Bool, List, length, drop, get_or, Float}
use Rattle.model.specs.declared.Span.{Span}
use Rattle.model.specs.Sizes.{max_numbers, max_bytes}
use Rattle.model.specs.State.{Ranges, State, stores_of}
use Rattle.model.specs.Sound.{Sound, Finite}
use Rattle.model.specs.Refusals.{first_of, SpanIn, no_span, turn_refusals, store_used_refusals}
use Rattle.model.specs.Calls.{touch_spans, bytes_touched}
use Rattle.pool_part.specs.Parts.{back, back_ranges}
use Rattle.pool_undo.specs.declared.Old.{Old}
use Rattle.pool_undo.specs.Old.{old_ranges}
use Rattle.call_touch_span.specs.declared.Turn.{Turn}
use Rattle.call_touch_span.specs.declared.Run.{Run}
use Rattle.call_touch_span.specs.Turn.{Others, whole, books_with, Stands, kept_old}

abbrev pub number : State → ℕ → List Span → Float → Bool → ℕ
number st s sps time counted = first_of (store_used_refusals st s sps time counted)

-- no turn was refused before span i: the state is st, z has its numbers, and `old` is kept
pub record On (st₀ : State) (s : ℕ) (sps : List Span) (time : Float) (counted : Bool) (i : ℕ) (st : State) (refreshes : Bool) (old : Old) (z : Run) : Type 0 where
  pub stands : Stands s refreshes st.books z
  pub long : max_numbers ≤ length st₀.books
  pub sound : Sound st
  pub less : s < stores_of st
  pub tree : st.tree ≡ st₀.tree
  pub inside : (k : ℕ) → k < length sps → SpanIn st₀.tree (get_or sps k no_span)
  pub finite : Finite time
  pub few : length sps ≤ 64
  pub sum : z.sum ≤ i * (128 * max_bytes)
  pub first : first_of (turn_refusals st s (drop i sps) time counted) ≡ number st₀ s sps time counted
  pub states : touch_spans st s (drop i sps) time counted ≡ touch_spans st₀ s sps time counted
  pub bytes : z.sum + bytes_touched st s (drop i sps) time counted ≡ bytes_touched st₀ s sps time counted
  pub ranges : back_ranges (128 * s) 128 (old_ranges (kept_old i old s st.ranges st.marks)) st.ranges ≡ st₀.ranges
  pub marks : back (256 * s) 256 (kept_old i old s st.ranges st.marks).marks st.marks ≡ st₀.marks

-- one was, for k
pub record Off (st₀ : State) (s : ℕ) (sps : List Span) (time : Float) (counted : Bool) (c : Ranges) (ms : List ℕ) (k : ℕ) : Type 0 where
  pub first : k ≡ number st₀ s sps time counted
  pub ranges : c ≡ st₀.ranges
  pub marks : ms ≡ st₀.marks

-- y is this touch, at its turn i
pub record Carries (s : ℕ) (time : Float) (counted : Bool) (i : ℕ) (y : Turn) : Type 0 where
  pub store : y.s ≡ s
  pub when : y.time ≡ time
  pub counts : y.counted ≡ counted
  pub turns : y.turns ≡ i

-- before span i, with the ranges c and the marks ms; the touch began with c₀, ms₀ and the small numbers x
pub record Going (o : Others) (depth bytes : List ℕ) (c₀ : Ranges) (ms₀ x : List ℕ) (s : ℕ) (sps : List Span) (time : Float) (counted : Bool) (i : ℕ) (c : Ranges) (ms : List ℕ) (y : Turn) : Type 0 where
  pub high : i ≤ length sps
  pub carries : y.run.number ≡ 0 → Carries s time counted i y
  pub on :
      y.run.number ≡ 0
      → On (whole o depth bytes c₀ ms₀ x) s sps time counted i (whole o depth bytes c ms (books_with s y.run x)) y.refreshes y.old y.run
  pub off : (y.run.number ≡ 0 → ⊥) → Off (whole o depth bytes c₀ ms₀ x) s sps time counted c ms y.run.number

-- the first turn of a list, on some state with these columns
pub record AtFirst (sps : List Span) (depth bytes : List ℕ) (c : Ranges) (ms : List ℕ) (y : Turn) : Type 0 where
  pub others : Others
  pub books : List ℕ
  pub store : ℕ
  pub time : Float
  pub counted : Bool
  pub going : Going others depth bytes c ms books store sps time counted 0 c ms y

-- what all turns of a list make of the columns c and ms and of y, whatever state these are of
abbrev pub Turns : List Span → List ℕ → List ℕ → Ranges → List ℕ → Turn → ℕ → Ranges → List ℕ → Turn → Type 0
Turns sps depth bytes c ms y i c' ms' r =
    (o : Others) (x : List ℕ) (s : ℕ) (time : Float) (counted : Bool) → Going o depth bytes c ms x s sps time counted 0 c ms y
    → Going o depth bytes c ms x s sps time counted i c' ms' r
