-- A touch between two of its spans: what the turns so far left, the store's part as it was before the first, and what one more turn makes of it. Assumes nothing.
use Rattle.std.specs.Prelude.{ℕ, zero, suc, ◌+◌, ◌*◌, ◌≤◌, ◌<◌, ◌≡◌, Bool, true, false, ◌||◌, List, length, ltb, leb, eqb, Float}
use Rattle.model.specs.Words.{pick}
use Rattle.model.specs.declared.Span.{Span}
use Rattle.model.specs.declared.Book.{Book}
use Rattle.model.specs.declared.TouchAnswer.{TouchAnswer}
use Rattle.model.specs.Sizes.{store_records, store_marks, max_stores, max_numbers, max_marks, max_bytes, max_spans}
use Rattle.model.specs.State.{Ranges, State, nodes_in, used_in, stores_in, next_id_in, stalls_in, book_in, next_id_of, records_of, stamp_of}
use Rattle.model.specs.Sound.{Sound, RangesLent}
use Rattle.model.specs.SoundTest.{finite}
use Rattle.model.specs.Store.{lay_ranges, lay_book, lay_next, ranged}
use Rattle.model.specs.Touch.{Touched}
use Rattle.model.specs.Refusals.{SpanIn, touched_by, touch_span}
use Rattle.shape_state.specs.Lent.{tree_of, pins_of, state_of}
use Rattle.pool_part.specs.Parts.{mid, back, back_ranges}
use Rattle.rule_resolve.specs.Span.{Priced}
use Rattle.rule_overlap.specs.declared.Needs.{Needs}
use Rattle.rule_overlap.specs.Overlap.{Ordered, TouchNeeds, TouchFits}
use Rattle.rule_touch.specs.declared.Used.{Used}
use Rattle.test_arguments.specs.Need.{need_number}
use Rattle.shape_answer.specs.declared.StoreUsed.{StoreUsed}
use Rattle.shape_answer.specs.declared.StoreUsed.TheVariants.{Refused, Done}
use Rattle.pool_undo.specs.declared.Old.{Old}
use Rattle.pool_undo.specs.Old.{old_ranges, old_from}
use Rattle.call_touch_span.specs.declared.Turn.{Turn}
use Rattle.call_touch_span.specs.declared.Run.{Run}

-- ---- the state

-- the columns that a touch neither reads nor writes
pub record Others : Type 0 where
  pub parent : List ℕ
  pub len : List ℕ
  pub run : List ℕ
  pub words : List ℕ
  pub pin_node : List ℕ
  pub pin_start : List ℕ
  pub pin_end : List ℕ
  pub pin_count : List ℕ

abbrev pub whole : Others → List ℕ → List ℕ → Ranges → List ℕ → List ℕ → State
whole o depth bytes c marks x =
    state_of (tree_of o.parent depth o.len o.run o.words (nodes_in x) (used_in x)) c
    (pins_of o.pin_node o.pin_start o.pin_end o.pin_count) marks bytes x

-- ---- what a touch changes of the small numbers

-- a store's own numbers with so many records and this stamp: a touch moves no block
abbrev pub renumbered : Book → ℕ → ℕ → Book
renumbered b n top = ranged b n b.held top b.version

-- the small numbers x with those of y for store s, and its next id
abbrev pub books_with : ℕ → Run → List ℕ → List ℕ
books_with s y x = lay_next y.next (stalls_in x) (lay_book s (renumbered (book_in x s) y.n y.top) x)

-- the numbers of y are those of store s in x
pub record Stands (s : ℕ) (refreshes : Bool) (x : List ℕ) (y : Run) : Type 0 where
  pub records : y.n ≡ (book_in x s).records
  pub on : refreshes ≡ eqb (book_in x s).policy 1
  pub stamp : y.top ≡ (book_in x s).stamp
  pub next : y.next ≡ next_id_in x

-- ---- before the turns: 2, 3, 5 and, over all spans, 4

-- what n spans at a time are refused for before any span is looked at
abbrev pub first_number : ℕ → ℕ → ℕ → Float → ℕ
first_number stores s n time =
    pick (leb stores s) 2 (pick (ltb max_spans n) 3 (pick (finite time) 0 5))

pub record Fresh (k : ℕ) (refreshes : Bool) (z : Run) (s : ℕ) (time : Float) (counted : Bool) (y : Turn) : Type 0 where
  pub nodes : y.nodes ≡ k
  pub on : y.refreshes ≡ refreshes
  pub run : y.run ≡ z
  pub store : y.s ≡ s
  pub when : y.time ≡ time
  pub counts : y.counted ≡ counted
  pub turns : y.turns ≡ 0

pub record Begun (x : List ℕ) (s n : ℕ) (time : Float) (counted : Bool) (y : Turn) : Type 0 where
  pub nodes : y.nodes ≡ nodes_in x
  pub store : y.s ≡ s
  pub when : y.time ≡ time
  pub counts : y.counted ≡ counted
  pub turns : y.turns ≡ 0
  pub sum : y.run.sum ≡ 0
  pub number : y.run.number ≡ first_number (stores_in x) s n time
  pub stands : y.run.number ≡ 0 → Stands s y.refreshes x y.run

-- 4 goes before 5, and behind 2 and 3
abbrev pub four : ℕ → ℕ
four n = pick (eqb n 0 || eqb n 5) 4 n

-- a run that is refused for k
abbrev pub stop_run : ℕ → Run → Run
stop_run k y = record { n = y.n; top = y.top; next = y.next; sum = y.sum; number = k }

abbrev pub refusing : ℕ → Turn → Turn
refusing k y =
    record { nodes = y.nodes; refreshes = y.refreshes; run = stop_run k y.run; old = y.old; s = y.s; time = y.time; counted = y.counted; turns = y.turns }

-- a span looked at: `good` is whether it is one of the tree
abbrev pub looked : Bool → Turn → Turn
looked true y = y
looked false y = refusing (four y.run.number) y

-- ---- one turn

-- the records of store s stand in order in the pools
pub record Placed (s n : ℕ) (node start end : List ℕ) : Type 0 where
  pub store : s < max_stores
  pub nodes : 1024 ≤ length node
  pub starts : 1024 ≤ length start
  pub ends : 1024 ≤ length end
  pub order : Ordered (mid (store_records * s) store_records node) (mid (store_records * s) store_records start) (mid (store_records * s) store_records end) n

-- r is what the turn is refused for
pub record Judged (s n : ℕ) (node start end : List ℕ) (sp : Span) (refreshes : Bool) (top next r : ℕ) : Type 0 where
  pub needs : Needs
  pub are : TouchNeeds (mid (store_records * s) store_records node) (mid (store_records * s) store_records start) (mid (store_records * s) store_records end) n sp refreshes needs
  pub number : r ≡ need_number n needs.records top needs.stamps next

-- the pools are long enough, and the store's part is ready
pub record PoolReady (depth bytes : List ℕ) (s n : ℕ) (c : Ranges) (ms : List ℕ) (sp : Span) (refreshes : Bool) (top next : ℕ) : Type 0 where
  pub store : s < max_stores
  pub few : n ≤ store_records
  pub ranges : RangesLent c
  pub marks : max_marks ≤ length ms
  pub order : Ordered (mid (store_records * s) store_records c.node) (mid (store_records * s) store_records c.start) (mid (store_records * s) store_records c.end) n
  pub filled : sp.start < sp.end
  pub node : sp.node < store_marks
  pub priced : Priced depth bytes sp
  pub fits : TouchFits (mid (store_records * s) store_records c.node) (mid (store_records * s) store_records c.start) (mid (store_records * s) store_records c.end) n sp refreshes top next

-- in the pools c₀ and ms₀ the n records of store s became those of w
pub record TouchedAt (s : ℕ) (w : Touched) (n : ℕ) (c₀ : Ranges) (ms₀ : List ℕ) (c : Ranges) (ms : List ℕ) (r : Used) : Type 0 where
  pub cols : c ≡ lay_ranges (store_records * s) (n + w.need) w.store.ranges c₀
  pub marks : ms ≡ back (store_marks * s) store_marks w.store.marks ms₀
  pub records : r.n ≡ length w.store.ranges
  pub need : r.need ≡ w.need
  pub stamps : r.stamps ≡ w.stamps
  pub bytes : r.bytes ≡ w.bytes

-- y with the turn taken
abbrev pub run_on : Run → Used → Run
run_on y w = record { n = w.n; top = y.top + w.stamps; next = y.next + w.need; sum = y.sum + w.bytes; number = 0 }

-- a turn of a span of the tree, in a sound state with these columns; at most 63 were before
pub record RunAt (o : Others) (x : List ℕ) (sp : Span) (depth bytes : List ℕ) (c : Ranges) (marks : List ℕ) (s : ℕ) (refreshes : Bool) (y : Run) : Type 0 where
  pub stands : Stands s refreshes x y
  pub sound : Sound (whole o depth bytes c marks x)
  pub store : s < stores_in x
  pub span : SpanIn (whole o depth bytes c marks x).tree sp
  pub sum : y.sum ≤ 63 * (store_records * max_bytes)

pub record RunReady (sp : Span) (depth bytes : List ℕ) (c : Ranges) (marks : List ℕ) (s : ℕ) (refreshes : Bool) (y : Run) : Type 0 where
  pub others : Others
  pub books : List ℕ
  pub ready : RunAt others books sp depth bytes c marks s refreshes y

-- what the turn makes of the state st and of y: nothing where it is refused
pub record Ran (sp : Span) (s : ℕ) (time : Float) (counted : Bool) (st : State) (y : Run) (st' : State) (r : Run) : Type 0 where
  pub number :
      r.number
      ≡ need_number (records_of st s) (touched_by st s sp time counted).need (stamp_of st s) (touched_by st s sp time counted).stamps
      (next_id_of st)
  pub stopped : 1 ≤ r.number → (st'.ranges ≡ st.ranges) × (st'.marks ≡ st.marks)
  pub taken : r.number ≡ 0 → st' ≡ touch_span st s sp time counted
  pub sum : r.number ≡ 0 → r.sum ≡ y.sum + (touched_by st s sp time counted).bytes

-- ---- a turn of a touch that keeps the store's part: kept before the first turn, and put back if a turn is refused

-- what is kept: the part as it is before the first turn, and later what was kept then
abbrev pub kept_old : ℕ → Old → ℕ → Ranges → List ℕ → Old
kept_old zero old s c marks = old_from s c marks
kept_old (suc n) old s c marks = old

pub record TurnAt (o : Others) (x : List ℕ) (sp : Span) (depth bytes : List ℕ) (c : Ranges) (marks : List ℕ) (y : Turn) : Type 0 where
  pub run : RunAt o x sp depth bytes c marks y.s y.refreshes y.run
  pub turns : y.turns < max_spans

-- a turn of a span, where none was refused before
pub record Ready (sp : Span) (depth bytes : List ℕ) (c : Ranges) (marks : List ℕ) (y : Turn) : Type 0 where
  pub others : Others
  pub books : List ℕ
  pub ready : y.run.number ≡ 0 → TurnAt others books sp depth bytes c marks y

pub record Gone (sp : Span) (st : State) (y : Turn) (st' : State) (r : Turn) : Type 0 where
  pub on : r.refreshes ≡ y.refreshes
  pub store : r.s ≡ y.s
  pub when : r.time ≡ y.time
  pub counts : r.counted ≡ y.counted
  pub turns : r.turns ≡ y.turns + 1
  pub old : r.old ≡ kept_old y.turns y.old y.s st.ranges st.marks
  pub number :
      r.run.number
      ≡ need_number (records_of st y.s) (touched_by st y.s sp y.time y.counted).need (stamp_of st y.s)
      (touched_by st y.s sp y.time y.counted).stamps (next_id_of st)
  pub stopped :
      1 ≤ r.run.number → (st'.ranges ≡ back_ranges (store_records * y.s) store_records (old_ranges r.old) st.ranges)
      × (st'.marks ≡ back (store_marks * y.s) store_marks r.old.marks st.marks)
  pub taken : r.run.number ≡ 0 → st' ≡ touch_span st y.s sp y.time y.counted
  pub sum : r.run.number ≡ 0 → r.run.sum ≡ y.run.sum + (touched_by st y.s sp y.time y.counted).bytes

-- what a turn of the span sp makes of the pools of st and of y: nothing where one was refused before
pub record Turned (sp : Span) (st : State) (y : Turn) (st' : State) (r : Turn) : Type 0 where
  pub idle : 1 ≤ y.run.number → (st'.ranges ≡ st.ranges) × (st'.marks ≡ st.marks) × (r ≡ y)
  pub gone : y.run.number ≡ 0 → Gone sp st y st' r

-- ---- the answer

-- where nothing was refused, the numbers have a place
abbrev pub Writes : List ℕ → Turn → Type 0
Writes x y = y.run.number ≡ 0 → (y.s < max_stores) × (max_numbers ≤ length x)

abbrev pub read : ℕ → TouchAnswer
read sum = record { bytes = sum }

-- refused: the number, with the small numbers as they came
pub record Finished (x : List ℕ) (y : Turn) (x' : List ℕ) (r : StoreUsed) : Type 0 where
  pub refused : (y.run.number ≡ 0 → ⊥) → (x' ≡ x) × (r ≡ Refused y.run.number)
  pub done : y.run.number ≡ 0 → (x' ≡ books_with y.s y.run x) × (r ≡ Done (read y.run.sum))
