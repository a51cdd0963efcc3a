-- The loop over the stores: each turn is the cut of one store in the state, and keeps what the next turn asks. Assumes nothing.
use mathlib.Core.Path.{◌≡◌, refl, sym, ap, ap₂, subst, ◌∙◌}
use mathlib.Core.List.{List, [], ◌∷◌}
use Prim.Native.Nat.{ℕ, zero, suc, ◌+◌, ◌-◌, ◌*◌, ◌≤◌, ◌<◌, zero-le}
use native.Mathlib.Numerals.{add-one}
use native.Mathlib.Omega.{arith}
use native.Mathlib.Nat.{le_refl, le_of_eq, mul-le-mul_right, sub-zero}
use lib.ListN.{length}
use Rattle.model.specs.Sizes.{max_stores, max_numbers, max_stamp}
use Rattle.model.specs.State.{Tree, Ranges, Pins, Pin, Range, State, at, nodes_in, used_in, stores_in, next_id_in, book_in, stores_of, next_id_of}
use Rattle.model.specs.Sound.{EndsWithin, RunsBelow, PinInside}
use Rattle.model.specs.Store.{Store, ranges, store_of, lay_book, lay_next, lay_counts, with_ranges, with_pins, with_next}
use Rattle.model.specs.Words.{sum_to}
use Rattle.model.specs.Pins.{pinned_in}
use Rattle.model.specs.Insert.{next_node, ranges_across, cut_tree, cut_store_in, cut_stores, with_tree, cut}
use Rattle.shape_state.specs.Lent.{tree_of, state_of}
use Rattle.pool_book.specs.Books.{records_in}
use Rattle.theory_lay.proofs.Books.{counts_length}
use Rattle.theory_lay.proofs.Store.{records_length, entries_length}
use Rattle.theory_sound.specs.Facts.{All}
use Rattle.theory_sound.specs.StoreSound.{TreeSound, StoreSound, Parts}
use Rattle.theory_cut.proofs.CutTree.{cut_tree-sound}
use Rattle.theory_cut.proofs.CutStore.{below-nodes, cut_store-ids, cut_store_length, cut_store-pins, cut_store-sound}
use Rattle.theory_calls.proofs.Parts.{sound-parts}
use Rattle.theory_calls.proofs.Cut.{Cutting, Room, StoreCut, needs, first-turn, cut_in_is, fits, next-turn}
use Rattle.rule_cut_pins.specs.Entries.{counts}
use Rattle.call_cut.specs.Needs.{ids_below}
use Rattle.call_cut.specs.Halves.{RangesRoom, StoreRoom}
use Rattle.pool_book.proofs.Laws.{records-at}
use Rattle.call_cut.specs.Room.{Cuttable, StoresCuttable}

-- ---- a pin of a block or more is at least its count

one_more_lem : (a b n : ℕ) → a < b → n ≤ (b - a) * n
one_more_lem a b n l = let h : 1 * n ≤ (b - a) * n = mul-le-mul_right n (omega arith) in omega arith

counts-pinned : (t : Tree) (ps : List Pin) → All (PinInside t) ps → counts ps ≤ pinned_in ps
unfolding All counts pinned_in
counts-pinned t [] h = le_refl 0
counts-pinned t (p ∷ ps) h =
    omega (arith, counts-pinned t ps h.1, one_more_lem p.start p.end p.count h.0.filled)

-- ---- what a cut keeps, from what it asks

pub ids-are : (j k : ℕ) (st : State) (n : ℕ) → n ≤ max_stores → ids_below j k st.ranges (records_in st.books) n ≡ sum_to (needs j k st) n
unfolding ids_below sum_to store_of
ids-are j k st zero h = refl
ids-are j k st (suc n) h =
    ap (λ (i : ℕ). i + ranges_across j k (ranges st.ranges (128 * n) (at (records_in st.books) n))) (ids-are j k st n (omega arith))
    ∙ ap (λ (i : ℕ). sum_to (needs j k st) n + ranges_across j k (ranges st.ranges (128 * n) i)) (records-at st.books n (omega arith))

module _ (j k : ℕ) (st : State) (h : Cuttable j k st) where
  parts : Parts st
  parts = sound-parts st h.sound

  pub tree-cut : TreeSound (cut_tree j k st.tree)
  tree-cut = cut_tree-sound j k st.tree parts.tree h.not_root h.in_use h.some h.inside h.room

  store_kept : (next : ℕ) (x : Store) → 1 ≤ next → StoreSound st.tree next x → Room j k x
      → StoreCut j k (next_node st.tree) (cut_tree j k st.tree) next x
  store_kept next x first s r =
      let below = below-nodes st.tree x.ranges s.ranges.inside in
      record {
        sound = cut_store-sound j k st.tree parts.tree h.not_root h.in_use h.room s r.records r.entries;
        ids = cut_store-ids j k (next_node st.tree) next x below;
        few = le_of_eq (cut_store_length j k (next_node st.tree) next x below);
        few_pins = cut_store-pins j k (next_node st.tree) next x;
      }

  room : (q : ℕ) → q < stores_of st → Room j k (store_of st q)
  room q less = record { records = rw records_length (h.records q zero-le less); entries = rw entries_length (h.entries q zero-le less) }

  last : next_id_of st + sum_to (needs j k st) (stores_of st) ≤ max_stamp
  last = rw (ids-are j k st (stores_of st) h.sound.counts.stores) at h.ids

  pub begin : Cutting j k st (cut_tree j k st.tree) 0 (with_tree (cut_tree j k st.tree) st)
  begin = first-turn j k st (cut_tree j k st.tree) parts tree-cut

  module _ (s : ℕ) (now : State) (w : Cutting j k st (cut_tree j k st.tree) s now) (less : s < stores_of st) where
    pub go_on : Cutting j k st (cut_tree j k st.tree) (suc s) (cut_store_in j k st.tree.nodes s now)
    go_on =
        subst (Cutting j k st (cut_tree j k st.tree) (suc s)) (cut_in_is j k st.tree.nodes s now)
        (next-turn j k st.tree.nodes st (cut_tree j k st.tree) store_kept room last s now w less)

    -- the room in the store whose turn it is
    own : Room j k (store_of now s)
    own = fits j k st.tree.nodes st (cut_tree j k st.tree) store_kept room last s now w less

    store-now : StoreSound st.tree (next_id_of now) (store_of now s)
    store-now = w.way.from s (le_refl s) (rw w.stores less)

    next_fits : next_id_of now ≤ max_stamp
    next_fits = w.way.frame.next_id

-- what the cut of store s asks of the pools as they are at its turn
module _ (j k m : ℕ) (st : State) (h : Cuttable j k st) (new : st.tree.nodes ≡ m) (s : ℕ) (t : Tree) (c : Ranges) (p : Pins) (marks bytes l : List ℕ)
    (w : Cutting j k st (cut_tree j k st.tree) s (state_of t c p marks bytes l)) (less : s < stores_of st) where
  ranges-room : RangesRoom j k m s (book_in l s).records (next_id_in l) c marks
  unfolding store_of
  ranges-room =
      let now = state_of t c p marks bytes l in
      let rs : List Range = ranges c (128 * s) (book_in l s).records in
      record {
        store = omega (arith, h.sound.counts.stores);
        node = omega (arith, h.in_use, h.room);
        new = omega (arith, h.room);
        records = rw (records_length now s) at (own j k st h s now w less).records;
        below = subst (λ (n : ℕ). All (λ r. r.node < n) rs) new (below-nodes st.tree rs (store-now j k st h s now w less).ranges.inside);
        high = next_fits j k st h s now w less;
        lent = w.way.frame.lent.ranges;
        marks = w.way.frame.lent.marks;
      }

  store-room : StoreRoom j k m s c p marks l
  unfolding store_of
  store-room =
      let now = state_of t c p marks bytes l in
      let y = store-now j k st h s now w less in
      record {
        half = ranges-room;
        entries = rw (entries_length now s) at (own j k st h s now w less).entries;
        few = omega (arith, counts-pinned st.tree (store_of now s).pins y.pins.inside, y.pinned, y.pinned_most);
        pinned = y.pinned;
        lent = w.way.frame.lent.pins;
        books = w.way.frame.lent.books;
      }

-- ---- the loop

-- the tree's counts are none of the stores'
stores_same : (j k m : ℕ) (c : Ranges) (p : Pins) (ms l : List ℕ) (h : StoresCuttable j k m c p ms l) → stores_in l ≡ stores_in h.old
unfolding lay_counts
stores_same j k m c p ms l h = ap stores_in h.counted

-- the list is as long as the old one
pub stores-long : (j k m : ℕ) (c : Ranges) (p : Pins) (ms l : List ℕ) → StoresCuttable j k m c p ms l → max_numbers ≤ length l
stores-long j k m c p ms l h =
    let long = h.whole.sound.lent.books in
    rw (h.counted, counts_length h.old long (cut_tree j k h.tree).nodes (cut_tree j k h.tree).used) long

-- the invariant: what is left to cut gives what was to be cut, and the state is on its way
pub record Turning (j k m : ℕ) (c₀ : Ranges) (p₀ : Pins) (ms₀ l₀ : List ℕ) (s : ℕ) (c : Ranges) (p : Pins) (ms l : List ℕ) : Type 0 where
  pub left : (t : Tree) (bytes : List ℕ)
      → cut_stores j k m s (stores_in l₀ - s) (state_of t c p ms bytes l) ≡ cut_stores j k m 0 (stores_in l₀) (state_of t c₀ p₀ ms₀ bytes l₀)
  pub way : (h : StoresCuttable j k m c₀ p₀ ms₀ l₀)
      → Cutting j k (state_of h.tree c₀ p₀ ms₀ h.bytes h.old) (cut_tree j k h.tree) s (state_of (cut_tree j k h.tree) c p ms h.bytes l)

module _ (j k m : ℕ) (c₀ : Ranges) (p₀ : Pins) (ms₀ l₀ : List ℕ) where
  at_first : (h : StoresCuttable j k m c₀ p₀ ms₀ l₀)
      → Cutting j k (state_of h.tree c₀ p₀ ms₀ h.bytes h.old) (cut_tree j k h.tree) 0 (state_of (cut_tree j k h.tree) c₀ p₀ ms₀ h.bytes l₀)
  unfolding with_tree
  at_first h =
      let u = cut_tree j k h.tree in
      let st = state_of h.tree c₀ p₀ ms₀ h.bytes h.old in
      subst (λ (l : List ℕ). Cutting j k st u 0 (state_of u c₀ p₀ ms₀ h.bytes l)) (sym h.counted) (begin j k st h.whole)

  pub turning_start : Turning j k m c₀ p₀ ms₀ l₀ 0 c₀ p₀ ms₀ l₀
  turning_start =
      record {
        left = λ t bytes. ap (λ (n : ℕ). cut_stores j k m 0 n (state_of t c₀ p₀ ms₀ bytes l₀)) (sub-zero (stores_in l₀));
        way = at_first;
      }

  one-cut : (s n : ℕ) (st : State) → cut_stores j k m s (suc n) st ≡ cut_stores j k m (suc s) n (cut_store_in j k m s st)
  unfolding cut_stores
  one-cut s n st = refl

  none-cut : (s : ℕ) (st : State) → cut_stores j k m s 0 st ≡ st
  unfolding cut_stores
  none-cut s st = refl

  module _ (s : ℕ) (c : Ranges) (p : Pins) (ms l : List ℕ) (w : Turning j k m c₀ p₀ ms₀ l₀ s c p ms l) where
    pub turning_asks : StoresCuttable j k m c₀ p₀ ms₀ l₀ → s < stores_in l₀ → StoreRoom j k m s c p ms l
    turning_asks h less =
        store-room j k m (state_of h.tree c₀ p₀ ms₀ h.bytes h.old) h.whole h.new s (cut_tree j k h.tree) c p ms h.bytes l (w.way h)
        (rw (← stores_same j k m c₀ p₀ ms₀ l₀ h) less)

    pub turning_turn : (c' : Ranges) (p' : Pins) (ms' l' : List ℕ) → s < stores_in l₀
        → ((t : Tree) (bytes : List ℕ) → state_of t c' p' ms' bytes l' ≡ cut_store_in j k m s (state_of t c p ms bytes l))
        → Turning j k m c₀ p₀ ms₀ l₀ (s + 1) c' p' ms' l'
    turning_turn c' p' ms' l' less e =
        rw (add-one s)
        (record {
          left = λ t bytes. ap (cut_stores j k m (suc s) (stores_in l₀ - suc s)) (e t bytes) ∙ sym (one-cut s (stores_in l₀ - suc s) (state_of t c p ms bytes l))
              ∙ ap (λ (n : ℕ). cut_stores j k m s n (state_of t c p ms bytes l)) (one_less (stores_in l₀) s less) ∙ w.left t bytes;
          way = λ h. let u = cut_tree j k h.tree in
              let st = state_of h.tree c₀ p₀ ms₀ h.bytes h.old in
              subst (Cutting j k st u (suc s)) (ap (λ (n : ℕ). cut_store_in j k n s (state_of u c p ms h.bytes l)) h.new ∙ sym (e u h.bytes))
              (go_on j k st h.whole s (state_of u c p ms h.bytes l) (w.way h) (rw (← stores_same j k m c₀ p₀ ms₀ l₀ h) less));
        })
      where
        one_less : (n i : ℕ) → i < n → suc (n - suc i) ≡ n - i
        one_less n i l = omega arith

    pub turning_end : stores_in l₀ ≤ s → (t : Tree) (bytes : List ℕ)
        → state_of t c p ms bytes l ≡ cut_stores j k m 0 (stores_in l₀) (state_of t c₀ p₀ ms₀ bytes l₀)
    turning_end past t bytes =
        sym (none-cut s (state_of t c p ms bytes l)) ∙ ap (λ (n : ℕ). cut_stores j k m s n (state_of t c p ms bytes l)) (none_left (stores_in l₀) s past) ∙ w.left t bytes
      where
        none_left : (n i : ℕ) → n ≤ i → 0 ≡ n - i
        none_left n i l = omega arith

-- ---- the tree first, then the stores

-- what the tree's half asks
pub tree_asks : (j k : ℕ) (st : State) → Cuttable j k st
    → (1 ≤ st.tree.nodes) × (st.tree.nodes < length st.tree.parent) × (st.tree.nodes < length st.tree.depth) × (st.tree.nodes < length st.tree.len) × (st.tree.nodes < length st.tree.run) × (j < st.tree.nodes) × (k ≤ at st.tree.len j) × (at st.tree.depth j + k ≤ 1024) × (at st.tree.run j + k ≤ 4096)
unfolding EndsWithin RunsBelow
tree_asks j k st h =
    let l = h.sound.lent.tree in
    let inside = h.inside in
    let ends = h.sound.ends j h.not_root h.in_use in
    let runs = h.sound.runs_below j h.not_root h.in_use in
    (omega (arith, h.in_use), omega (arith, h.room, l.parent), omega (arith, h.room, l.depth), omega (arith, h.room, l.len), omega (arith, h.room, l.run), h.in_use, omega arith, omega arith, omega (arith, h.sound.counts.used))

-- the cut of a store leaves them
store-counts : (j k m s : ℕ) (st : State) → (nodes_in (cut_store_in j k m s st).books ≡ nodes_in st.books) × (used_in (cut_store_in j k m s st).books ≡ used_in st.books)
unfolding cut_store_in with_next with_pins with_ranges lay_next lay_book
store-counts j k m s st = (refl, refl)

stores-counts : (j k m s n : ℕ) (st : State) → (nodes_in (cut_stores j k m s n st).books ≡ nodes_in st.books) × (used_in (cut_stores j k m s n st).books ≡ used_in st.books)
unfolding cut_stores
stores-counts j k m s zero st = (refl, refl)
stores-counts j k m s (suc n) st =
    let one = store-counts j k m s st in
    let rest = stores-counts j k m (suc s) n (cut_store_in j k m s st) in
    (rest.0 ∙ one.0, rest.1 ∙ one.1)

module _ (j k : ℕ) (t : Tree) (parent depth len run words : List ℕ) (c c' : Ranges) (p p' : Pins) (ms ms' bytes l l₁ l' : List ℕ)
    (tree : tree_of parent depth len run words (t.nodes + 1) t.used ≡ cut_tree j k t) (written : l₁ ≡ lay_counts (t.nodes + 1) t.used l)
    (stores : (u : Tree) (bytes : List ℕ) → state_of u c' p' ms' bytes l' ≡ cut_stores j k t.nodes 0 (stores_in l₁) (state_of u c p ms bytes l₁)) where
  counts-left : (nodes_in l' ≡ t.nodes + 1) × (used_in l' ≡ t.used)
  unfolding lay_counts
  counts-left =
      let e = ap (λ (s : State). s.books) (stores t bytes) in
      let q = stores-counts j k t.nodes 0 (stores_in l₁) (state_of t c p ms bytes l₁) in
      (ap nodes_in e ∙ q.0 ∙ ap nodes_in written, ap used_in e ∙ q.1 ∙ ap used_in written)

  pub all-is : state_of (tree_of parent depth len run words (nodes_in l') (used_in l')) c' p' ms' bytes l' ≡ cut j k (state_of t c p ms bytes l)
  unfolding cut with_tree lay_counts
  all-is =
      let u : Tree = tree_of parent depth len run words (t.nodes + 1) t.used in
      ap₂ (λ (n i : ℕ). state_of (tree_of parent depth len run words n i) c' p' ms' bytes l') counts-left.0 counts-left.1
      ∙ stores u bytes
      ∙ ap (λ (i : List ℕ). cut_stores j k t.nodes 0 (stores_in i) (state_of u c p ms bytes i)) written
      ∙ ap (λ (v : Tree). cut_stores j k t.nodes 0 (stores_in l) (state_of v c p ms bytes (lay_counts v.nodes v.used l))) tree
