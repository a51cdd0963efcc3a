-- The state: lent pools, and the small numbers in one lent list. A pool is the list of what stands in it, of whatever length it was lent. Assumes nothing.
use Rattle.std.specs.Prelude.{ℕ, ◌+◌, ◌*◌, Bool, List, [], ◌∷◌, get_or, take, drop, eqb, Float}
use Rattle.std.specs.Float.{nan}
use Rattle.model.specs.declared.Book.{Book}
use Rattle.model.specs.Sizes.{store_records, store_pins, store_marks, store_numbers}

-- The tree: for each node its parent, the blocks before it (depth), its number of blocks, and where its run of hash words begins;
-- how many nodes are in use, the root counted, and how many hash words
pub record Tree : Type 0 where
  pub parent : List ℕ
  pub depth : List ℕ
  pub len : List ℕ
  pub run : List ℕ
  pub words : List ℕ
  pub nodes : ℕ
  pub used : ℕ

-- the pool of ranges: store s has the 128 places from 128 times s. A write of 0 is none
pub record Ranges : Type 0 where
  pub node : List ℕ
  pub start : List ℕ
  pub end : List ℕ
  pub id : List ℕ
  pub stamp : List ℕ
  pub touched : List Float
  pub write : List ℕ

-- the pool of pin entries: store s has the 32 places from 32 times s
pub record Pins : Type 0 where
  pub node : List ℕ
  pub start : List ℕ
  pub end : List ℕ
  pub count : List ℕ

-- A read mark for each store and node: store s has the 256 places from 256 times s. The books are the small numbers; the tree's two counts stand in them
-- too, and are read from there
pub record State : Type 0 where
  pub tree : Tree
  pub ranges : Ranges
  pub pins : Pins
  pub marks : List ℕ
  pub bytes : List ℕ
  pub books : List ℕ

-- ---- what stands at a place

pub record Range : Type 0 where
  pub node : ℕ
  pub start : ℕ
  pub end : ℕ
  pub id : ℕ
  pub stamp : ℕ
  pub touched : Float
  pub write : ℕ

pub record Pin : Type 0 where
  pub node : ℕ
  pub start : ℕ
  pub end : ℕ
  pub count : ℕ

-- what stands at place i of a pool
abbrev pub at : List ℕ → ℕ → ℕ
at l i = get_or l i 0

abbrev pub range_at : Ranges → ℕ → Range
range_at c i =
    record {
      node = at c.node i;
      start = at c.start i;
      end = at c.end i;
      id = at c.id i;
      stamp = at c.stamp i;
      touched = get_or c.touched i nan;
      write = at c.write i;
    }

abbrev pub pin_at : Pins → ℕ → Pin
pin_at c i = record { node = at c.node i; start = at c.start i; end = at c.end i; count = at c.count i }

-- ---- the small numbers: five of the whole, then a part for each store, which has the store's own

-- how many nodes and hash words are in use, how many stores there are, the next id, the stalls; then the stores' parts
abbrev pub whole : ℕ → ℕ → ℕ → ℕ → ℕ → List ℕ → List ℕ
whole nodes used stores next_id stalls parts = nodes ∷ used ∷ stores ∷ next_id ∷ stalls ∷ parts

abbrev pub nodes_in : List ℕ → ℕ
nodes_in l = at l 0

abbrev pub used_in : List ℕ → ℕ
used_in l = at l 1

abbrev pub stores_in : List ℕ → ℕ
stores_in l = at l 2

abbrev pub next_id_in : List ℕ → ℕ
next_id_in l = at l 3

abbrev pub stalls_in : List ℕ → ℕ
stalls_in l = at l 4

abbrev pub parts_in : List ℕ → List ℕ
parts_in l = drop 5 l

-- a store's own numbers, as they stand in its part
abbrev pub numbers : Book → List ℕ
numbers b = b.capacity ∷ b.policy ∷ b.records ∷ b.held ∷ b.stamp ∷ b.version ∷ b.entries ∷ b.pinned ∷ []

abbrev pub book_from : List ℕ → Book
book_from l =
    record {
      capacity = at l 0;
      policy = at l 1;
      records = at l 2;
      held = at l 3;
      stamp = at l 4;
      version = at l 5;
      entries = at l 6;
      pinned = at l 7;
    }

-- as a rule changes them
abbrev pub changed : Book → ℕ → ℕ → ℕ → ℕ → ℕ → ℕ → Book
changed b records held stamp version entries pinned =
    record {
      capacity = b.capacity;
      policy = b.policy;
      records = records;
      held = held;
      stamp = stamp;
      version = version;
      entries = entries;
      pinned = pinned;
    }

unfoldable pub book_in : List ℕ → ℕ → Book
book_in l s = book_from (take store_numbers (drop (store_numbers * s) (parts_in l)))

-- a policy is a number: 1 refreshes, 0 is `Fifo`
abbrev pub refreshes : Book → Bool
refreshes b = eqb b.policy 1

-- ---- the state's, by name

abbrev pub stores_of : State → ℕ
stores_of st = stores_in st.books

abbrev pub next_id_of : State → ℕ
next_id_of st = next_id_in st.books

abbrev pub stalls_of : State → ℕ
stalls_of st = stalls_in st.books

abbrev pub book_of : State → ℕ → Book
book_of st s = book_in st.books s

abbrev pub capacity_of : State → ℕ → ℕ
capacity_of st s = (book_of st s).capacity

abbrev pub records_of : State → ℕ → ℕ
records_of st s = (book_of st s).records

abbrev pub held_of : State → ℕ → ℕ
held_of st s = (book_of st s).held

abbrev pub stamp_of : State → ℕ → ℕ
stamp_of st s = (book_of st s).stamp

abbrev pub version_of : State → ℕ → ℕ
version_of st s = (book_of st s).version

abbrev pub entries_of : State → ℕ → ℕ
entries_of st s = (book_of st s).entries

abbrev pub pinned_of : State → ℕ → ℕ
pinned_of st s = (book_of st s).pinned

-- record k, pin entry k, and the mark of node v, of store s
abbrev pub record_of : State → ℕ → ℕ → Range
record_of st s k = range_at st.ranges (store_records * s + k)

abbrev pub entry_of : State → ℕ → ℕ → Pin
entry_of st s k = pin_at st.pins (store_pins * s + k)

abbrev pub mark_of : State → ℕ → ℕ → ℕ
mark_of st s v = at st.marks (store_marks * s + v)

-- the first hash of node k, the blocks up to its end
abbrev pub first_hash : Tree → ℕ → ℕ
first_hash t k = at t.words (at t.run k)

abbrev pub end_of : Tree → ℕ → ℕ
end_of t k = at t.depth k + at t.len k
