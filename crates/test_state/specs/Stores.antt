-- What the tests find of a state, each of few of its lists. Together they are `Sound`. Assumes nothing.
use Rattle.std.specs.Prelude.{ℕ, ◌+◌, ◌*◌, ◌≤◌, List, length, Float}
use Rattle.model.specs.Words.{Each}
use Rattle.model.specs.Sizes.{max_stores, max_stamp, max_stalls, max_marks, max_nodes, max_numbers, store_records, store_pins, store_marks}
use Rattle.model.specs.State.{State, stores_in, next_id_in, stalls_in, book_in, stores_of}
use Rattle.model.specs.Sound.{RangesLent, PinsLent, StoreCounts}
use Rattle.test_tree.specs.Nodes.{Table}
use Rattle.test_tree.specs.Tree.{TreeSound}
use Rattle.test_store.specs.Records.{RecordsFit}
use Rattle.test_store.specs.Pins.{PinsFit}
use Rattle.test_store.specs.Marks.{MarkFits}
use Rattle.test_state.specs.Ids.{Differ}

-- the small numbers but the stores' own
pub record NumbersFit (l : List ℕ) : Type 0 where
  pub some_store : 1 ≤ stores_in l
  pub stores : stores_in l ≤ max_stores
  pub first_id : 1 ≤ next_id_in l
  pub next_id : next_id_in l ≤ max_stamp
  pub stalls : stalls_in l ≤ max_stalls

-- store s's own counts, its records, pin entries and marks
abbrev pub CountsFit : List ℕ → ℕ → Type 0
CountsFit l s = StoreCounts (book_in l s)

abbrev pub StoreRecords : List ℕ → List ℕ → List ℕ → List ℕ → List ℕ → List ℕ → List Float → ℕ → List ℕ → ℕ → Type 0
StoreRecords len node start end id stamp touched nodes l s =
    RecordsFit len node start end id stamp touched nodes (next_id_in l) (store_records * s) (book_in l s).records (book_in l s).stamp (book_in l s).held
    (book_in l s).capacity

abbrev pub StorePins : List ℕ → List ℕ → List ℕ → List ℕ → List ℕ → ℕ → List ℕ → ℕ → Type 0
StorePins len node start end count nodes l s = PinsFit len node start end count nodes (store_pins * s) (book_in l s).entries (book_in l s).pinned

abbrev pub StoreMarks : List ℕ → List ℕ → List ℕ → ℕ → List ℕ → ℕ → Type 0
StoreMarks len node marks nodes l s =
    Each 0 max_nodes (MarkFits len node marks nodes (store_records * s) (store_records * s + (book_in l s).records) (store_marks * s))

pub record Tested (st : State) : Type 0 where
  pub ranges : RangesLent st.ranges
  pub pins : PinsLent st.pins
  pub marks : max_marks ≤ length st.marks
  pub books : max_numbers ≤ length st.books
  pub numbers : NumbersFit st.books
  pub counts : Each 0 (stores_of st) (CountsFit st.books)
  pub table : Table st.bytes
  pub tree : TreeSound st.tree
  pub records : Each 0 (stores_of st) (StoreRecords st.tree.len st.ranges.node st.ranges.start st.ranges.end st.ranges.id st.ranges.stamp st.ranges.touched st.tree.nodes st.books)
  pub entries : Each 0 (stores_of st) (StorePins st.tree.len st.pins.node st.pins.start st.pins.end st.pins.count st.tree.nodes st.books)
  pub marked : Each 0 (stores_of st) (StoreMarks st.tree.len st.ranges.node st.marks st.tree.nodes st.books)
  pub ids : Differ st.ranges.id st.books (store_records * stores_of st)
