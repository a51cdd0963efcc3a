-- One store as a value: its ranges, pins and marks as lists, its small numbers; how it is read from the pools and laid back. Assumes nothing.
use Rattle.std.specs.Prelude.{ℕ, zero, suc, ◌+◌, ◌-◌, ◌*◌, Bool, true, false, ◌&&◌, ◌||◌, List, [], ◌∷◌, ◌++◌, map, length, take, drop, set, replicate, ltb, leb, eqb, pos, Float}
use Rattle.std.specs.Float.{fin}
use Rattle.model.specs.declared.Book.{Book}
use Rattle.model.specs.Sizes.{store_records, store_pins, store_marks, store_numbers}
use Rattle.model.specs.State.{Ranges, Pins, State, Range, Pin, range_at, pin_at, whole, nodes_in, used_in, stores_in, next_id_in, stalls_in, parts_in, numbers, changed, book_of, records_of, entries_of}

pub record Store : Type 0 where
  pub book : Book
  pub ranges : List Range
  pub pins : List Pin
  pub marks : List ℕ

-- ---- reading

-- n records from place a on
unfoldable pub ranges : Ranges → ℕ → ℕ → List Range
ranges c a zero = []
ranges c a (suc n) = range_at c a ∷ ranges c (suc a) n

unfoldable pub pins : Pins → ℕ → ℕ → List Pin
pins c a zero = []
pins c a (suc n) = pin_at c a ∷ pins c (suc a) n

unfoldable pub store_of : State → ℕ → Store
unfolding ranges pins
store_of st s =
    record {
      book = book_of st s;
      ranges = ranges st.ranges (store_records * s) (records_of st s);
      pins = pins st.pins (store_pins * s) (entries_of st s);
      marks = take store_marks (drop (store_marks * s) st.marks);
    }

-- ---- laying back

-- A pool with the list xs from place a on. Of the k places there, those past xs are left blank, and no other place changes
unfoldable pub lay : {A : Type 0} → A → ℕ → ℕ → List A → List A → List A
lay blank a k xs pool = take a pool ++ (xs ++ (replicate (k - length xs) blank ++ drop (a + k) pool))

-- the time that a blank record has
abbrev pub no_time : Float
no_time = fin false 0 (pos 0)

unfoldable pub lay_ranges : ℕ → ℕ → List Range → Ranges → Ranges
unfolding lay
lay_ranges a k rs c =
    record {
      node = lay 0 a k (map (λ r. r.node) rs) c.node;
      start = lay 0 a k (map (λ r. r.start) rs) c.start;
      end = lay 0 a k (map (λ r. r.end) rs) c.end;
      id = lay 0 a k (map (λ r. r.id) rs) c.id;
      stamp = lay 0 a k (map (λ r. r.stamp) rs) c.stamp;
      touched = lay no_time a k (map (λ r. r.touched) rs) c.touched;
      write = lay 0 a k (map (λ r. r.write) rs) c.write;
    }

unfoldable pub lay_pins : ℕ → ℕ → List Pin → Pins → Pins
unfolding lay
lay_pins a k ps c =
    record {
      node = lay 0 a k (map (λ p. p.node) ps) c.node;
      start = lay 0 a k (map (λ p. p.start) ps) c.start;
      end = lay 0 a k (map (λ p. p.end) ps) c.end;
      count = lay 0 a k (map (λ p. p.count) ps) c.count;
    }

-- the small numbers with these counts of the tree, with this next id and these stalls, with b for store s
unfoldable pub lay_counts : ℕ → ℕ → List ℕ → List ℕ
lay_counts nodes used l = whole nodes used (stores_in l) (next_id_in l) (stalls_in l) (parts_in l)

unfoldable pub lay_next : ℕ → ℕ → List ℕ → List ℕ
lay_next next_id stalls l = whole (nodes_in l) (used_in l) (stores_in l) next_id stalls (parts_in l)

unfoldable pub lay_book : ℕ → Book → List ℕ → List ℕ
unfolding lay
lay_book s b l =
    whole (nodes_in l) (used_in l) (stores_in l) (next_id_in l) (stalls_in l) (lay 0 (store_numbers * s) store_numbers (numbers b) (parts_in l))

-- The store's ranges, marks and small numbers in the state. `need` is how many new records the call needed: no place past the used ones and these is
-- written, and of the places up to there those that aren't used any more are left blank
unfoldable pub with_ranges : ℕ → ℕ → Store → State → State
unfolding lay_ranges lay lay_book
with_ranges s need x st =
    record {
      tree = st.tree;
      ranges = lay_ranges (store_records * s) (records_of st s + need) x.ranges st.ranges;
      pins = st.pins;
      marks = lay 0 (store_marks * s) store_marks x.marks st.marks;
      bytes = st.bytes;
      books = lay_book s x.book st.books;
    }

-- the same of its pin entries
unfoldable pub with_pins : ℕ → ℕ → Store → State → State
unfolding lay_pins lay_book
with_pins s need x st =
    record {
      tree = st.tree;
      ranges = st.ranges;
      pins = lay_pins (store_pins * s) (entries_of st s + need) x.pins st.pins;
      marks = st.marks;
      bytes = st.bytes;
      books = lay_book s x.book st.books;
    }

-- the state with this next id and this number of stalls
unfoldable pub with_next : ℕ → ℕ → State → State
unfolding lay_next
with_next next stalls st =
    record {
      tree = st.tree;
      ranges = st.ranges;
      pins = st.pins;
      marks = st.marks;
      bytes = st.bytes;
      books = lay_next next stalls st.books;
    }

-- ---- a store's own numbers, as a rule changes them

-- so many ranges, the blocks they hold, a stamp and a version; so many pin entries and the blocks they pin
abbrev pub ranged : Book → ℕ → ℕ → ℕ → ℕ → Book
ranged b records held stamp version = changed b records held stamp version b.entries b.pinned

abbrev pub pinning : Book → ℕ → ℕ → Book
pinning b entries pinned = changed b b.records b.held b.stamp b.version entries pinned

-- ---- ranges

abbrev pub length_of : Range → ℕ
length_of r = r.end - r.start

-- "Held is the sum of their lengths"
unfoldable pub total : List Range → ℕ
total [] = 0
total (r ∷ rs) = length_of r + total rs

-- the range has blocks of node n from a up to z
abbrev pub meets : ℕ → ℕ → ℕ → Range → Bool
meets n a z r = eqb r.node n && (ltb r.start z && ltb a r.end)

-- is any range on node n?
unfoldable pub on_node : ℕ → List Range → Bool
on_node n [] = false
on_node n (r ∷ rs) = eqb r.node n || on_node n rs

-- g stands before r: by node, then start
abbrev pub ahead : Range → Range → Bool
ahead g r = ltb g.node r.node || (eqb g.node r.node && leb g.start r.start)

-- a range put in at its place
unfoldable pub insert : Range → List Range → List Range
insert g [] = g ∷ []
insert g (r ∷ rs) = elim (ahead g r) [ true ↦ g ∷ r ∷ rs | false ↦ r ∷ insert g rs ]

-- a range put in front, or not
abbrev pub put : Bool → Range → List Range → List Range
put true r rs = r ∷ rs
put false r rs = rs

-- a range's part from start up to end, on node n and with id i
abbrev pub part : Range → ℕ → ℕ → ℕ → ℕ → Range
part r n start end i = record { node = n; start = start; end = end; id = i; stamp = r.stamp; touched = r.touched; write = r.write }

-- "When a node's last range of a store goes, its mark becomes 0"
abbrev pub unmark : ℕ → List Range → List ℕ → List ℕ
unmark n rs ms = elim (on_node n rs) [ true ↦ ms | false ↦ set ms n 0 ]

-- one more where the test holds
abbrev pub plus : Bool → ℕ → ℕ
plus true n = suc n
plus false n = n
