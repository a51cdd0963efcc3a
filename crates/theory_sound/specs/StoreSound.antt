-- A sound state, store by store: the facts of one store as a value, of the tree, and of the stores together. Assumes nothing.
use Rattle.std.specs.Prelude.{ℕ, ◌≤◌, ◌<◌, false, ◌≡◌, List, length}
use Rattle.model.specs.Words.{Each}
use Rattle.model.specs.Sizes.{max_nodes, max_words, max_stores, max_capacity, store_records, store_pins, store_marks, max_pinned, max_stamp, max_stalls}
use Rattle.model.specs.State.{Tree, State, Range, Pin, at, stores_of, next_id_of, stalls_of}
use Rattle.model.specs.Sound.{TreeLent, Lent, Root, Rising, ParentsInUse, DepthsAdd, EndsWithin, NodesFilled, RunsBelow, RunsApart, SiblingsDiffer, Inside, IdBetween, StampBetween, Finite, PinInside}
use Rattle.model.specs.Store.{Store, store_of, total, on_node}
use Rattle.model.specs.Pins.{pinned_in}
use Rattle.theory_sound.specs.Facts.{All, Sorted, PinsSorted, Distinct, ApartFrom}

-- the tree's facts
pub record TreeSound (t : Tree) : Type 0 where
  pub lent : TreeLent t
  pub some : 1 ≤ t.nodes
  pub nodes : t.nodes ≤ max_nodes
  pub used : t.used ≤ max_words
  pub root : Root t
  pub parents : ParentsInUse t
  pub depths : DepthsAdd t
  pub ends : EndsWithin t
  pub filled : NodesFilled t
  pub runs_below : RunsBelow t
  pub runs_apart : RunsApart t
  pub siblings : SiblingsDiffer t

-- the facts of a store's ranges: on the tree t, with ids below next and stamps up to `top`
pub record RangesSound (t : Tree) (next top : ℕ) (rs : List Range) : Type 0 where
  pub sorted : Sorted rs
  pub inside : All (Inside t) rs
  pub distinct : Distinct rs
  pub ids : All (IdBetween next) rs
  pub stamps : All (StampBetween top) rs
  pub times : All (λ r. Finite r.touched) rs

pub record PinsSound (t : Tree) (ps : List Pin) : Type 0 where
  pub sorted : PinsSorted ps
  pub inside : All (PinInside t) ps

pub record MarksSound (t : Tree) (rs : List Range) (ms : List ℕ) : Type 0 where
  pub long : length ms ≡ store_marks
  pub none : (v : ℕ) → v < max_nodes → on_node v rs ≡ false → at ms v ≡ 0
  pub within : (v : ℕ) → v < t.nodes → at ms v ≤ at t.len v

-- one store
pub record StoreSound (t : Tree) (next : ℕ) (x : Store) : Type 0 where
  pub capacity : x.book.capacity ≤ max_capacity
  pub policy : x.book.policy ≤ 1
  pub records : x.book.records ≡ length x.ranges
  pub few : length x.ranges ≤ store_records
  pub stamp : x.book.stamp ≤ max_stamp
  pub ranges : RangesSound t next x.book.stamp x.ranges
  pub held : x.book.held ≡ total x.ranges
  pub held_none : x.book.capacity ≡ 0 → x.book.held ≡ 0
  pub entries : x.book.entries ≡ length x.pins
  pub few_pins : length x.pins ≤ store_pins
  pub pins : PinsSound t x.pins
  pub pinned : x.book.pinned ≡ pinned_in x.pins
  pub pinned_most : x.book.pinned ≤ max_pinned
  pub marks : MarksSound t x.ranges x.marks

-- the whole
pub record Parts (st : State) : Type 0 where
  pub lent : Lent st
  pub table : Rising st.bytes
  pub tree : TreeSound st.tree
  pub some : 1 ≤ stores_of st
  pub stores : stores_of st ≤ max_stores
  pub first_id : 1 ≤ next_id_of st
  pub next_id : next_id_of st ≤ max_stamp
  pub stalls : stalls_of st ≤ max_stalls
  pub each : Each 0 (stores_of st) (λ s. StoreSound st.tree (next_id_of st) (store_of st s))
  pub apart :
      (s q : ℕ) → s < stores_of st → q < stores_of st → (s ≡ q → ⊥) → ApartFrom (store_of st s).ranges (store_of st q).ranges
