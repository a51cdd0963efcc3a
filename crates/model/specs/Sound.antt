-- Document 01, "A sound state": a record of facts, one for each clause, in its order. Each is stated over positions and counts. Assumes nothing.
use Rattle.std.specs.Prelude.{ℕ, zero, suc, ◌+◌, ◌-◌, ◌*◌, ◌≤◌, ◌<◌, ◌≡◌, List, length, Float}
use Rattle.std.specs.Float.{nan, inf, fin}
use Rattle.model.specs.declared.Book.{Book}
use Rattle.model.specs.Words.{Each, Pairs}
use Rattle.model.specs.Sizes.{max_nodes, max_words, max_hashes, max_stores, max_capacity, store_records, store_pins, max_records, max_pins, max_marks, max_numbers, max_pinned, max_stamp, table_length, max_bytes, max_stalls}
use Rattle.model.specs.State.{Tree, Ranges, Pins, State, Range, Pin, at, record_of, entry_of, mark_of, first_hash, end_of, stores_of, next_id_of, stalls_of, book_of, capacity_of, records_of, held_of, stamp_of, entries_of, pinned_of}

-- ---- "Counts and the byte table are as under Sizes; no lent pool is shorter."

pub record TreeLent (t : Tree) : Type 0 where
  pub parent : max_nodes ≤ length t.parent
  pub depth : max_nodes ≤ length t.depth
  pub len : max_nodes ≤ length t.len
  pub run : max_nodes ≤ length t.run
  pub words : max_words ≤ length t.words

pub record RangesLent (c : Ranges) : Type 0 where
  pub node : max_records ≤ length c.node
  pub start : max_records ≤ length c.start
  pub end : max_records ≤ length c.end
  pub id : max_records ≤ length c.id
  pub stamp : max_records ≤ length c.stamp
  pub touched : max_records ≤ length c.touched
  pub write : max_records ≤ length c.write

pub record PinsLent (c : Pins) : Type 0 where
  pub node : max_pins ≤ length c.node
  pub start : max_pins ≤ length c.start
  pub end : max_pins ≤ length c.end
  pub count : max_pins ≤ length c.count

pub record Lent (st : State) : Type 0 where
  pub tree : TreeLent st.tree
  pub ranges : RangesLent st.ranges
  pub pins : PinsLent st.pins
  pub marks : max_marks ≤ length st.marks
  pub bytes : table_length ≤ length st.bytes
  pub books : max_numbers ≤ length st.books

-- a store's own counts; its policy is one of the two
pub record StoreCounts (b : Book) : Type 0 where
  pub capacity : b.capacity ≤ max_capacity
  pub policy : b.policy ≤ 1
  pub records : b.records ≤ store_records
  pub entries : b.entries ≤ store_pins
  pub pinned : b.pinned ≤ max_pinned
  pub stamp : b.stamp ≤ max_stamp

pub record Counts (st : State) : Type 0 where
  pub root : 1 ≤ st.tree.nodes
  pub nodes : st.tree.nodes ≤ max_nodes
  pub used : st.tree.used ≤ max_words
  pub some_store : 1 ≤ stores_of st
  pub stores : stores_of st ≤ max_stores
  pub first_id : 1 ≤ next_id_of st
  pub next_id : next_id_of st ≤ max_stamp
  pub stalls : stalls_of st ≤ max_stalls
  pub each : Each 0 (stores_of st) (λ s. StoreCounts (book_of st s))

-- "Byte table: 1,025 numbers, never falling, none above 2^48."
pub record Rising (table : List ℕ) : Type 0 where
  pub steps : Each 0 (table_length - 1) (λ k. at table k ≤ at table (suc k))
  pub small : Each 0 table_length (λ k. at table k ≤ max_bytes)

-- "0 is the root with length and depth 0"
pub record Root (t : Tree) : Type 0 where
  pub len : at t.len 0 ≡ 0
  pub depth : at t.depth 0 ≡ 0

-- ---- the tree. The facts are of the nodes in use but the root

-- a fact of every node in use but the root
abbrev pub EachNode : Tree → (ℕ → Type 0) → Type 0
EachNode t P = Each 1 t.nodes P

-- "Parents are in use"
unfoldable pub ParentsInUse : Tree → Type 0
ParentsInUse t = EachNode t (λ k. at t.parent k < t.nodes)

-- "a child's depth is its parent's depth plus length"
unfoldable pub DepthsAdd : Tree → Type 0
DepthsAdd t = EachNode t (λ k. at t.depth k ≡ end_of t (at t.parent k))

-- "depth plus length is at most 1,024"
unfoldable pub EndsWithin : Tree → Type 0
EndsWithin t = EachNode t (λ k. end_of t k ≤ max_hashes)

-- "Every node but the root has length 1 or more"
unfoldable pub NodesFilled : Tree → Type 0
NodesFilled t = EachNode t (λ k. 1 ≤ at t.len k)

-- "Hash runs lie below the count of used words"
unfoldable pub RunsBelow : Tree → Type 0
RunsBelow t = EachNode t (λ k. at t.run k + at t.len k ≤ t.used)

-- word w is in node k's run
pub record InRun (t : Tree) (k w : ℕ) : Type 0 where
  pub low : at t.run k ≤ w
  pub high : w < at t.run k + at t.len k

-- "and don't overlap": no word is in the runs of two nodes
unfoldable pub RunsApart : Tree → Type 0
RunsApart t = (w : ℕ) → EachNode t (λ j. EachNode t (λ k. InRun t j w → InRun t k w → j ≡ k))

-- "Siblings differ in their first hash"
unfoldable pub SiblingsDiffer : Tree → Type 0
SiblingsDiffer t = EachNode t (λ j. EachNode t (λ k. at t.parent j ≡ at t.parent k → first_hash t j ≡ first_hash t k → j ≡ k))

-- ---- the stores. The facts are of the stores in use and of their used records

abbrev pub EachStore : State → (ℕ → Type 0) → Type 0
EachStore st P = Each 0 (stores_of st) P

abbrev pub EachRecord : State → ℕ → (ℕ → Type 0) → Type 0
EachRecord st s P = Each 0 (records_of st s) P

-- r stands before q: by node, and on one node it ends before q starts
pub record Before (r q : Range) : Type 0 where
  pub by_node : r.node ≤ q.node
  pub apart : r.node ≡ q.node → r.end ≤ q.start

-- "Each store's records stand by node, then start; on a node the ranges are .. disjoint"
unfoldable pub RecordsStand : State → Type 0
RecordsStand st = EachStore st (λ s. Pairs (records_of st s) (λ j k. Before (record_of st s j) (record_of st s k)))

-- a range that is nonempty and inside a node in use
pub record Inside (t : Tree) (r : Range) : Type 0 where
  pub in_use : r.node < t.nodes
  pub filled : r.start < r.end
  pub ends : r.end ≤ at t.len r.node

-- "nonempty .. and inside it"
unfoldable pub RecordsInside : State → Type 0
RecordsInside st = EachStore st (λ s. EachRecord st s (λ k. Inside st.tree (record_of st s k)))

-- how many blocks the first n records of store s hold
unfoldable pub held_by : State → ℕ → ℕ → ℕ
held_by st s zero = 0
held_by st s (suc n) = held_by st s n + ((record_of st s n).end - (record_of st s n).start)

-- "Held is the sum of their lengths"
unfoldable pub HeldIsSum : State → Type 0
HeldIsSum st = EachStore st (λ s. held_of st s ≡ held_by st s (records_of st s))

-- "and 0 for a store of capacity 0"
unfoldable pub HeldNoneAtZero : State → Type 0
HeldNoneAtZero st = EachStore st (λ s. capacity_of st s ≡ 0 → held_of st s ≡ 0)

-- "Ids differ": two records of one id are one record of one store
pub record OneRecord (s j q k : ℕ) : Type 0 where
  pub store : s ≡ q
  pub place : j ≡ k

unfoldable pub IdsDiffer : State → Type 0
IdsDiffer st =
    EachStore st (λ s. EachRecord st s (λ j. EachStore st (λ q. EachRecord st q (λ k. (record_of st s j).id ≡ (record_of st q k).id → OneRecord s j q k))))

-- "and are below the next id", from 1
pub record IdBetween (next : ℕ) (r : Range) : Type 0 where
  pub low : 1 ≤ r.id
  pub high : r.id < next

unfoldable pub IdsBelowNext : State → Type 0
IdsBelowNext st = EachStore st (λ s. EachRecord st s (λ k. IdBetween (next_id_of st) (record_of st s k)))

-- "stamps are from 1 up to the store's"
pub record StampBetween (top : ℕ) (r : Range) : Type 0 where
  pub low : 1 ≤ r.stamp
  pub high : r.stamp ≤ top

unfoldable pub StampsUpToStores : State → Type 0
StampsUpToStores st = EachStore st (λ s. EachRecord st s (λ k. StampBetween (stamp_of st s) (record_of st s k)))

-- neither an infinity nor no number
abbrev pub Finite : Float → Type 0
Finite nan = ⊥
Finite (inf sign) = ⊥
Finite (fin sign m e) = Unit {0}

-- "Touched times are finite"
unfoldable pub TimesFinite : State → Type 0
TimesFinite st = EachStore st (λ s. EachRecord st s (λ k. Finite (record_of st s k).touched))

-- ---- pins

abbrev pub EachEntry : State → ℕ → (ℕ → Type 0) → Type 0
EachEntry st s P = Each 0 (entries_of st s) P

-- by node, start, end; two entries of one span are never in order
pub record PinBefore (p q : Pin) : Type 0 where
  pub by_node : p.node ≤ q.node
  pub by_start : p.node ≡ q.node → p.start ≤ q.start
  pub by_end : p.node ≡ q.node → p.start ≡ q.start → p.end < q.end

-- "Pin entries stand by node, start, end, are distinct"
unfoldable pub PinsStand : State → Type 0
PinsStand st = EachStore st (λ s. Pairs (entries_of st s) (λ j k. PinBefore (entry_of st s j) (entry_of st s k)))

-- "nonempty, inside their node and of count 1 or more"
pub record PinInside (t : Tree) (p : Pin) : Type 0 where
  pub in_use : p.node < t.nodes
  pub filled : p.start < p.end
  pub ends : p.end ≤ at t.len p.node
  pub counted : 1 ≤ p.count

unfoldable pub PinsInside : State → Type 0
PinsInside st = EachStore st (λ s. EachEntry st s (λ k. PinInside st.tree (entry_of st s k)))

-- the sum of length times count of the first n entries of store s
unfoldable pub pinned_by : State → ℕ → ℕ → ℕ
pinned_by st s zero = 0
pinned_by st s (suc n) = pinned_by st s n + ((entry_of st s n).end - (entry_of st s n).start) * (entry_of st s n).count

-- "pinned is the sum of length times count"
unfoldable pub PinnedIsSum : State → Type 0
PinnedIsSum st = EachStore st (λ s. pinned_of st s ≡ pinned_by st s (entries_of st s))

-- ---- marks, of all 256 node numbers

-- store s holds nothing of node v
abbrev pub HoldsNone : State → ℕ → ℕ → Type 0
HoldsNone st s v = EachRecord st s (λ k. (record_of st s k).node ≡ v → ⊥)

-- "A read mark is 0 where the store holds nothing of the node"
unfoldable pub MarksNone : State → Type 0
MarksNone st = EachStore st (λ s. Each 0 max_nodes (λ v. HoldsNone st s v → mark_of st s v ≡ 0))

-- "and never above the node's length"
unfoldable pub MarksWithin : State → Type 0
MarksWithin st = EachStore st (λ s. Each 0 st.tree.nodes (λ v. mark_of st s v ≤ at st.tree.len v))

-- ---- the whole

pub record Sound (st : State) : Type 0 where
  pub lent : Lent st
  pub counts : Counts st
  pub table : Rising st.bytes
  pub root : Root st.tree
  pub parents : ParentsInUse st.tree
  pub depths : DepthsAdd st.tree
  pub ends : EndsWithin st.tree
  pub filled : NodesFilled st.tree
  pub runs_below : RunsBelow st.tree
  pub runs_apart : RunsApart st.tree
  pub siblings : SiblingsDiffer st.tree
  pub stand : RecordsStand st
  pub inside : RecordsInside st
  pub held : HeldIsSum st
  pub held_none : HeldNoneAtZero st
  pub ids : IdsDiffer st
  pub ids_below : IdsBelowNext st
  pub stamps : StampsUpToStores st
  pub times : TimesFinite st
  pub pins_stand : PinsStand st
  pub pins_inside : PinsInside st
  pub pinned : PinnedIsSum st
  pub marks_none : MarksNone st
  pub marks_within : MarksWithin st
