-- Document 01, "Insert" and "Cut at k". Assumes nothing.
use Rattle.std.specs.Prelude.{ℕ, zero, suc, ◌+◌, ◌-◌, min, Bool, true, false, not, ◌&&◌, ◌||◌, List, [], ◌∷◌, ◌++◌, map, length, take, drop, set, ltb, eqb, Option, None, Some}
use Rattle.model.specs.declared.Cut.{Cut}
use Rattle.model.specs.State.{Tree, State, Range, Pin, at, changed, stores_of, next_id_of, stalls_of}
use Rattle.model.specs.Tree.{Seg, blocks}
use Rattle.model.specs.Store.{Store, store_of, with_ranges, with_pins, with_next, lay_counts, ranged, lay, part, put, plus, on_node}
use Rattle.model.specs.Pins.{add_pin, pinned_in}

-- ---- which numbers and words are free (the places that request P7 changes)

-- "Numbers are the next unused ones"
abbrev pub next_node : Tree → ℕ
next_node t = t.nodes

-- where new hash words go
abbrev pub next_word : Tree → ℕ
next_word t = t.used

-- ---- the tree's half of a cut

-- the children of j become m's; the root's own parent is not looked at
abbrev pub adopt : ℕ → ℕ → ℕ → ℕ
adopt j m p = elim (eqb p j) [ true ↦ m | false ↦ p ]

unfoldable pub reparent : ℕ → ℕ → ℕ → List ℕ → List ℕ
reparent j m nodes parent = take 1 parent ++ (map (adopt j m) (take (nodes - 1) (drop 1 parent)) ++ drop nodes parent)

-- "the old number keeps the first k blocks, the new node takes the rest and the children"
unfoldable pub cut_tree : ℕ → ℕ → Tree → Tree
unfolding reparent
cut_tree j k t =
    let m = next_node t in
    record {
      parent = set (reparent j m t.nodes t.parent) m j;
      depth = set t.depth m (at t.depth j + k);
      len = set (set t.len j k) m (at t.len j - k);
      run = set t.run m (at t.run j + k);
      words = t.words;
      nodes = suc t.nodes;
      used = t.used;
    }

-- ---- a store's half of a cut of node j at k, where m is the new node

-- the range has blocks on both sides
abbrev pub across : ℕ → ℕ → Range → Bool
across j k r = eqb r.node j && (ltb r.start k && ltb k r.end)

-- the range has blocks at or above k
abbrev pub beyond : ℕ → ℕ → Range → Bool
beyond j k r = eqb r.node j && ltb k r.end

-- "A range across k keeps its id on the head"
abbrev pub head : Bool → ℕ → Range → Range
head true k r = part r r.node r.start k r.id
head false k r = r

unfoldable pub heads : ℕ → ℕ → List Range → List Range
heads j k [] = []
heads j k (r ∷ rs) = put (across j k r || not (beyond j k r)) (head (across j k r) k r) (heads j k rs)

-- "the tail gets a new id, same stamp, time and write"
abbrev pub tail : Bool → ℕ → ℕ → ℕ → Range → Range
tail true k m next r = part r m 0 (r.end - k) next
tail false k m next r = part r m (r.start - k) (r.end - k) r.id

unfoldable pub tails : ℕ → ℕ → ℕ → ℕ → List Range → List Range
tails j k m next [] = []
tails j k m next (r ∷ rs) = put (beyond j k r) (tail (across j k r) k m next r) (tails j k m (plus (across j k r) next) rs)

unfoldable pub ranges_across : ℕ → ℕ → List Range → ℕ
ranges_across j k [] = 0
ranges_across j k (r ∷ rs) = plus (across j k r) (ranges_across j k rs)

-- "Pins across k become two entries of the same count; equal entries add up"
abbrev pub pin_across : ℕ → ℕ → Pin → Bool
pin_across j k p = eqb p.node j && (ltb p.start k && ltb k p.end)

abbrev pub put_pin : Bool → Pin → List Pin → List Pin
put_pin true p ps = add_pin p ps
put_pin false p ps = ps

-- the part of a pin below k, and its part from k on
abbrev pub pin_head : ℕ → Pin → Pin
pin_head k p = record { node = p.node; start = p.start; end = min p.end k; count = p.count }

abbrev pub pin_tail : ℕ → ℕ → Pin → Pin
pin_tail k m p = record { node = m; start = p.start - k; end = p.end - k; count = p.count }

abbrev pub pin_pieces : Bool → ℕ → ℕ → Pin → List Pin → List Pin
pin_pieces true k m p ps = put_pin (ltb p.start k) (pin_head k p) (put_pin (ltb k p.end) (pin_tail k m p) ps)
pin_pieces false k m p ps = add_pin p ps

unfoldable pub cut_pins : ℕ → ℕ → ℕ → List Pin → List Pin
unfolding add_pin
cut_pins j k m [] = []
cut_pins j k m (p ∷ ps) = pin_pieces (eqb p.node j) k m p (cut_pins j k m ps)

unfoldable pub pins_across : ℕ → ℕ → List Pin → ℕ
pins_across j k [] = 0
pins_across j k (p ∷ ps) = plus (pin_across j k p) (pins_across j k ps)

-- "or 0 where nothing is held", judged for head and tail separately
abbrev pub if_held : Bool → ℕ → ℕ
if_held true m = m
if_held false m = 0

-- "A read mark m becomes min(m, k) and max(m - k, 0)"
unfoldable pub cut_marks : ℕ → ℕ → ℕ → List Range → List ℕ → List ℕ
unfolding on_node
cut_marks j k m rs ms = set (set ms j (if_held (on_node j rs) (min (at ms j) k))) m (if_held (on_node m rs) (at ms j - k))

-- the ranges of node m put in where they belong: behind those of lower nodes
unfoldable pub placed : ℕ → List Range → List Range → List Range
placed m new [] = new
placed m new (r ∷ rs) = elim (ltb r.node m) [ true ↦ r ∷ placed m new rs | false ↦ new ++ (r ∷ rs) ]

unfoldable pub cut_store : ℕ → ℕ → ℕ → ℕ → Store → Store
unfolding heads tails placed cut_pins cut_marks pinned_in
cut_store j k m next x =
    let rs = placed m (tails j k m next x.ranges) (heads j k x.ranges) in
    let ps = cut_pins j k m x.pins in
    let b = x.book in
    record {
      book = changed b (length rs) b.held b.stamp b.version (length ps) (pinned_in ps);
      ranges = rs;
      pins = ps;
      marks = cut_marks j k m rs x.marks;
    }

-- the ranges' half of y beside the pins of x
abbrev pub ranges_from : Store → Store → Store
ranges_from y x =
    let b = y.book in
    record { book = ranged x.book b.records b.held b.stamp b.version; ranges = y.ranges; pins = x.pins; marks = y.marks }

-- store s after the cut, in the state; the next id is the state's
unfoldable pub cut_store_in : ℕ → ℕ → ℕ → ℕ → State → State
unfolding cut_store store_of with_ranges with_pins with_next ranges_across pins_across
cut_store_in j k m s st =
    let x = store_of st s in
    let y = cut_store j k m (next_id_of st) x in
    let new = ranges_across j k x.ranges in
    with_next (next_id_of st + new) (stalls_of st) (with_pins s (pins_across j k x.pins) y (with_ranges s new (ranges_from y x) st))

-- "New ids go by store, then start": n stores from s on
unfoldable pub cut_stores : ℕ → ℕ → ℕ → ℕ → ℕ → State → State
unfolding cut_store_in
cut_stores j k m s zero st = st
cut_stores j k m s (suc n) st = cut_stores j k m (suc s) n (cut_store_in j k m s st)

-- the state with another tree, whose counts stand in the books too
unfoldable pub with_tree : Tree → State → State
unfolding lay_counts
with_tree t st =
    record {
      tree = t;
      ranges = st.ranges;
      pins = st.pins;
      marks = st.marks;
      bytes = st.bytes;
      books = lay_counts t.nodes t.used st.books;
    }

unfoldable pub cut : ℕ → ℕ → State → State
unfolding cut_tree cut_stores with_tree
cut j k st = cut_stores j k (next_node st.tree) 0 (stores_of st) (with_tree (cut_tree j k st.tree) st)

-- ---- the leaf

-- "then add one leaf with the rest": below p, at depth d
unfoldable pub add_leaf : ℕ → ℕ → List ℕ → Tree → Tree
unfolding lay
add_leaf p d rest t =
    let m = next_node t in
    record {
      parent = set t.parent m p;
      depth = set t.depth m d;
      len = set t.len m (length rest);
      run = set t.run m (next_word t);
      words = lay 0 (next_word t) (length rest) rest t.words;
      nodes = suc t.nodes;
      used = t.used + length rest;
    }

-- ---- insert

-- where the match ends: in this node (the root where nothing matched), after this many of its blocks
unfoldable pub last_seg : Seg → List Seg → Seg
last_seg before [] = before
last_seg before (s ∷ ss) = last_seg s ss

abbrev pub match_end : List Seg → Seg
match_end path = last_seg (record { node = 0; len = 0 }) path

-- is there a block to add? does the match end inside a node?
abbrev pub adds : List ℕ → List Seg → Bool
adds hs path = ltb (blocks path) (length hs)

abbrev pub ends_inside : Tree → List Seg → Bool
ends_inside t path = ltb (match_end path).len (at t.len (match_end path).node)

-- the path, and the cut: the node, k and the new number, or none
pub record Inserted : Type 0 where
  pub state : State
  pub path : List Seg
  pub split : Option Cut

-- the state with the leaf under the match's end, and the path that goes on to it
unfoldable pub with_leaf : List ℕ → List Seg → Option Cut → State → Inserted
unfolding add_leaf blocks last_seg with_tree
with_leaf hs path split st =
    let rest = drop (blocks path) hs in
    record {
      state = with_tree (add_leaf (match_end path).node (blocks path) rest st.tree) st;
      path = path ++ (record { node = next_node st.tree; len = length rest } ∷ []);
      split = split;
    }

-- "if the match ends inside a node at k, cut it"
abbrev pub cut_first : Bool → List ℕ → List Seg → State → Inserted
cut_first true hs path st =
    let e = match_end path in
    with_leaf hs path (Some (record { node = e.node; at = e.len; new = next_node st.tree })) (cut e.node e.len st)
cut_first false hs path st = with_leaf hs path None st

-- "nothing changes if all matched, the empty list included"
abbrev pub grow : Bool → List ℕ → List Seg → State → Inserted
grow true hs path st = cut_first (ends_inside st.tree path) hs path st
grow false hs path st = record { state = st; path = path; split = None }

unfoldable pub insert_path : List ℕ → List Seg → State → Inserted
unfolding with_leaf cut blocks last_seg
insert_path hs path st = grow (adds hs path) hs path st
