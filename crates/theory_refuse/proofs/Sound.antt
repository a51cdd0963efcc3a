-- Each computed test of a sound state says exactly its fact, and `sound` says `Sound`: the proof of a test is written as the test is, and `search` turns
-- the product of facts that comes out into the record. Assumes nothing.
use Prim.Native.Nat.{ℕ, zero, suc, ◌+◌, ◌≤◌, min, max, zero-le}
use mathlib.Core.Path.{◌≡◌}
use mathlib.Core.Bool.{Bool, true, false, ◌&&◌, ◌||◌}
use mathlib.Core.List.{List, [], ◌∷◌}
use native.Mathlib.Nat.{le_of_suc-le-suc}
use native.Mathlib.Omega.{arith}
use lib.ListN.{length}
use lib.Dec.{leb, ltb, eqb}
use lib.Ieee.{Float, nan, inf, fin}
use Rattle.model.specs.declared.Book.{Book}
use Rattle.model.specs.Words.{Says, Each}
use Rattle.model.specs.Sizes.{max_nodes, max_words, max_hashes, max_stores, max_capacity, store_records, store_pins, max_records, max_pins, max_marks, max_numbers, max_pinned, max_stamp, table_length, max_bytes, max_stalls}
use Rattle.model.specs.State.{Tree, Ranges, Pins, State, Range, Pin, at, record_of, entry_of, mark_of, first_hash, end_of, stores_of, next_id_of, stalls_of, book_of, capacity_of, records_of, held_of, stamp_of, entries_of, pinned_of}
use Rattle.model.specs.Sound.{TreeLent, RangesLent, PinsLent, Lent, StoreCounts, Counts, Rising, Root, EachNode, ParentsInUse, DepthsAdd, EndsWithin, NodesFilled, RunsBelow, InRun, RunsApart, SiblingsDiffer, EachStore, EachRecord, Before, RecordsStand, Inside, RecordsInside, held_by, HeldIsSum, HeldNoneAtZero, OneRecord, IdsDiffer, IdBetween, IdsBelowNext, StampBetween, StampsUpToStores, Finite, TimesFinite, EachEntry, PinBefore, PinsStand, PinInside, PinsInside, pinned_by, PinnedIsSum, HoldsNone, MarksNone, MarksWithin, Sound}
use Rattle.model.specs.SoundTest.{tree_lent, ranges_lent, pins_lent, lent, store_counts, counts, rises_from, rising, root, each_node, parents_in_use, depths_add, ends_within, nodes_filled, runs_below, run_apart, runs_apart, siblings_differ, each_store, each_record, before, records_stand, inside, records_inside, held_is_sum, held_none_at_zero, ids_differ, ids_below_next, stamps_up_to_stores, finite, times_finite, each_entry, pin_before, pins_stand, pin_inside, pins_inside, pinned_is_sum, holds_none, marks_none, marks_within, sound}
use Rattle.theory_refuse.proofs.Says.{Sure, sure, le_sure, lt_sure, eq_sure, map_sure, map_says, ◌and◌, or_else_sure, not_sure, implies_sure, unless_sure, all_sure, from-one_sure, pairs_sure}

-- ---- pools and counts

pub tree_lent_sure : (t : Tree) → Sure (tree_lent t) (TreeLent t)
unfolding tree_lent
tree_lent_sure t =
    map_sure (λ h. search) (λ h. search)
    (le_sure max_nodes (length t.parent)
    and le_sure max_nodes (length t.depth)
    and le_sure max_nodes (length t.len)
    and le_sure max_nodes (length t.run)
    and le_sure max_words (length t.words))

pub ranges_lent_sure : (c : Ranges) → Sure (ranges_lent c) (RangesLent c)
unfolding ranges_lent
ranges_lent_sure c =
    map_sure (λ h. search) (λ h. search)
    (le_sure max_records (length c.node)
    and le_sure max_records (length c.start)
    and le_sure max_records (length c.end)
    and le_sure max_records (length c.id)
    and le_sure max_records (length c.stamp)
    and le_sure max_records (length c.touched)
    and le_sure max_records (length c.write))

pub pins_lent_sure : (c : Pins) → Sure (pins_lent c) (PinsLent c)
unfolding pins_lent
pins_lent_sure c =
    map_sure (λ h. search) (λ h. search)
    (le_sure max_pins (length c.node)
    and le_sure max_pins (length c.start)
    and le_sure max_pins (length c.end)
    and le_sure max_pins (length c.count))

pub lent_says : (st : State) → Says (lent st) (Lent st)
unfolding lent
lent_says st =
    map_says (lent st) (λ h. search) (λ h. search)
    (tree_lent_sure st.tree
    and ranges_lent_sure st.ranges
    and pins_lent_sure st.pins
    and le_sure max_marks (length st.marks)
    and le_sure table_length (length st.bytes)
    and le_sure max_numbers (length st.books))

store_counts_sure : (b : Book) → Sure (store_counts b) (StoreCounts b)
unfolding store_counts
store_counts_sure b =
    map_sure (λ h. search) (λ h. search)
    (le_sure b.capacity max_capacity
    and le_sure b.policy 1
    and le_sure b.records store_records
    and le_sure b.entries store_pins
    and le_sure b.pinned max_pinned
    and le_sure b.stamp max_stamp)

pub counts-says : (st : State) → Says (counts st) (Counts st)
unfolding counts
counts-says st =
    map_says (counts st) (λ h. search) (λ h. search)
    (le_sure 1 st.tree.nodes
    and le_sure st.tree.nodes max_nodes
    and le_sure st.tree.used max_words
    and le_sure 1 (stores_of st)
    and le_sure (stores_of st) max_stores
    and le_sure 1 (next_id_of st)
    and le_sure (next_id_of st) max_stamp
    and le_sure (stalls_of st) max_stalls
    and all_sure (stores_of st) (λ s. store_counts_sure (book_of st s)))

-- ---- the byte table

-- number k is not above 2^48 or below the one before it, which for the first is b
abbrev Climbs : ℕ → List ℕ → ℕ → Type 0
Climbs b xs k = (at (b ∷ xs) k ≤ at xs k) × (at xs k ≤ max_bytes)

first_then : {n : ℕ} (P : ℕ → Type 0) → P 0 → Each 0 n (λ k. P (suc k)) → Each 0 (suc n) P
first_then P p h zero f l = p
first_then P p h (suc k) f l = h k zero-le (le_of_suc-le-suc l)

-- past its end a list has zeros
past_end : (k : ℕ) → at (0 ∷ []) k ≤ 0
past_end zero = zero-le
past_end (suc k) = zero-le

rises_sure : (b n : ℕ) (xs : List ℕ) → Sure (rises_from b n xs) (Each 0 n (Climbs b xs))
unfolding rises_from
rises_sure b zero xs = sure true (λ k f l. absurd (omega arith))
rises_sure b (suc n) [] =
    map_sure (λ h. first_then (Climbs b []) (h.0, zero-le) (λ k f l. (zero-le, zero-le)))
    (λ h. ((h 0 zero-le (omega arith)).0, λ k f l. (past_end k, zero-le))) (le_sure b 0 and rises_sure 0 n [])
rises_sure b (suc n) (x ∷ xs) =
    map_sure (λ h. first_then (Climbs b (x ∷ xs)) (h.0, h.1.0) h.1.1)
    (λ h. let p = h 0 zero-le (omega arith) in (p.0, (p.1, λ k f l. h (suc k) zero-le (omega arith))))
    (le_sure b x and le_sure x max_bytes and rises_sure x n xs)

pub rising-says : (table : List ℕ) → Says (rising table) (Rising table)
unfolding rising
rising-says table =
    map_says (rising table) (λ h. record { steps = λ k f l. (h (suc k) zero-le (omega arith)).0; small = λ k f l. (h k f l).1 })
    (λ h. first_then (Climbs 0 table) (zero-le, h.small 0 zero-le (omega arith)) (λ k f l. (h.steps k f l, h.small (suc k) zero-le (omega arith))))
    (rises_sure 0 table_length table)

-- ---- the tree

module _ (t : Tree) where
  each-node : {f : ℕ → Bool} {P : ℕ → Type 0} → ((k : ℕ) → Sure (f k) (P k)) → Sure (each_node t f) (EachNode t P)
  each-node f = from-one_sure t.nodes f

  pub root-says : Says (root t) (Root t)
  unfolding root
  root-says = map_says (root t) (λ h. search) (λ h. search) (eq_sure (at t.len 0) 0 and eq_sure (at t.depth 0) 0)

  pub parents_in_use-says : Says (parents_in_use t) (ParentsInUse t)
  unfolding parents_in_use ParentsInUse
  parents_in_use-says = (each-node (λ k. lt_sure (at t.parent k) t.nodes)).says

  pub depths_add-says : Says (depths_add t) (DepthsAdd t)
  unfolding depths_add DepthsAdd
  depths_add-says = (each-node (λ k. eq_sure (at t.depth k) (end_of t (at t.parent k)))).says

  pub ends_within-says : Says (ends_within t) (EndsWithin t)
  unfolding ends_within EndsWithin
  ends_within-says = (each-node (λ k. le_sure (end_of t k) max_hashes)).says

  pub nodes_filled-says : Says (nodes_filled t) (NodesFilled t)
  unfolding nodes_filled NodesFilled
  nodes_filled-says = (each-node (λ k. le_sure 1 (at t.len k))).says

  pub runs_below-says : Says (runs_below t) (RunsBelow t)
  unfolding runs_below RunsBelow
  runs_below-says = (each-node (λ k. le_sure (at t.run k + at t.len k) t.used)).says

  -- no word is in both runs, or they are one: of two that overlap, the last start is a word of both
  run_apart_sure : (j k : ℕ) → Sure (run_apart t j k || eqb j k) ((w : ℕ) → InRun t j w → InRun t k w → j ≡ k)
  run_apart_sure j k =
      let first = min (at t.run j + at t.len j) (at t.run k + at t.len k) in
      let last = max (at t.run j) (at t.run k) in
      map_sure (λ h w p q. h (λ le. omega arith)) (λ h n. h last (omega arith) (omega arith)) (or_else_sure (le_sure first last) (eq_sure j k))

  pub runs_apart-says : Says (runs_apart t) (RunsApart t)
  unfolding runs_apart RunsApart
  runs_apart-says =
      map_says (runs_apart t) (λ h w j a b k c d. h j a b k c d w) (λ h j a b k c d w. h w j a b k c d) (each-node (λ j. each-node (run_apart_sure j)))

  pub siblings_differ-says : Says (siblings_differ t) (SiblingsDiffer t)
  unfolding siblings_differ SiblingsDiffer
  siblings_differ-says =
      (each-node
      (λ j. each-node
      (λ k. implies_sure (eq_sure (at t.parent j) (at t.parent k)) (implies_sure (eq_sure (first_hash t j) (first_hash t k)) (eq_sure j k))))
      ).says

-- ---- the stores

before_sure : (r q : Range) → Sure (before r q) (Before r q)
before_sure r q =
    map_sure (λ h. search) (λ h. search) (le_sure r.node q.node and implies_sure (eq_sure r.node q.node) (le_sure r.end q.start))

inside_sure : (t : Tree) (r : Range) → Sure (inside t r) (Inside t r)
inside_sure t r =
    map_sure (λ h. search) (λ h. search)
    (lt_sure r.node t.nodes and lt_sure r.start r.end and le_sure r.end (at t.len r.node))

one_record_sure : (s j q k : ℕ) → Sure (eqb s q && eqb j k) (OneRecord s j q k)
one_record_sure s j q k = map_sure (λ h. search) (λ h. search) (eq_sure s q and eq_sure j k)

id_between_sure : (next : ℕ) (r : Range) → Sure (leb 1 r.id && ltb r.id next) (IdBetween next r)
id_between_sure next r = map_sure (λ h. search) (λ h. search) (le_sure 1 r.id and lt_sure r.id next)

stamp_between_sure : (top : ℕ) (r : Range) → Sure (leb 1 r.stamp && leb r.stamp top) (StampBetween top r)
stamp_between_sure top r = map_sure (λ h. search) (λ h. search) (le_sure 1 r.stamp and le_sure r.stamp top)

pub finite_sure : (x : Float) → Sure (finite x) (Finite x)
finite_sure nan = sure false (λ h. h)
finite_sure (inf sign) = sure false (λ h. h)
finite_sure (fin sign m e) = sure true tt

pin_before_sure : (p q : Pin) → Sure (pin_before p q) (PinBefore p q)
pin_before_sure p q =
    map_sure (λ h. search) (λ h. search)
    (le_sure p.node q.node
    and implies_sure (eq_sure p.node q.node) (le_sure p.start q.start)
    and implies_sure (eq_sure p.node q.node) (implies_sure (eq_sure p.start q.start) (lt_sure p.end q.end)))

pin_inside_sure : (t : Tree) (p : Pin) → Sure (pin_inside t p) (PinInside t p)
pin_inside_sure t p =
    map_sure (λ h. search) (λ h. search)
    (lt_sure p.node t.nodes and lt_sure p.start p.end and le_sure p.end (at t.len p.node) and le_sure 1 p.count)

module _ (st : State) where
  each-store : {f : ℕ → Bool} {P : ℕ → Type 0} → ((s : ℕ) → Sure (f s) (P s)) → Sure (each_store st f) (EachStore st P)
  each-store f = all_sure (stores_of st) f

  each_record_lem : {f : ℕ → Bool} {P : ℕ → Type 0} (s : ℕ) → ((k : ℕ) → Sure (f k) (P k)) → Sure (each_record st s f) (EachRecord st s P)
  each_record_lem s f = all_sure (records_of st s) f

  each_entry_lem : {f : ℕ → Bool} {P : ℕ → Type 0} (s : ℕ) → ((k : ℕ) → Sure (f k) (P k)) → Sure (each_entry st s f) (EachEntry st s P)
  each_entry_lem s f = all_sure (entries_of st s) f

  pub records_stand-says : Says (records_stand st) (RecordsStand st)
  unfolding records_stand RecordsStand
  records_stand-says = (each-store (λ s. pairs_sure (records_of st s) (λ j k. before_sure (record_of st s j) (record_of st s k)))).says

  pub records_inside-says : Says (records_inside st) (RecordsInside st)
  unfolding records_inside RecordsInside
  records_inside-says = (each-store (λ s. each_record_lem s (λ k. inside_sure st.tree (record_of st s k)))).says

  pub held_is_sum-says : Says (held_is_sum st) (HeldIsSum st)
  unfolding held_is_sum HeldIsSum
  held_is_sum-says = (each-store (λ s. eq_sure (held_of st s) (held_by st s (records_of st s)))).says

  pub held_none_at_zero-says : Says (held_none_at_zero st) (HeldNoneAtZero st)
  unfolding held_none_at_zero HeldNoneAtZero
  held_none_at_zero-says = (each-store (λ s. implies_sure (eq_sure (capacity_of st s) 0) (eq_sure (held_of st s) 0))).says

  pub ids_differ-says : Says (ids_differ st) (IdsDiffer st)
  unfolding ids_differ IdsDiffer
  ids_differ-says =
      (each-store
      (λ s. each_record_lem s
      (λ j. each-store
      (λ q. each_record_lem q (λ k. implies_sure (eq_sure (record_of st s j).id (record_of st q k).id) (one_record_sure s j q k)))))
      ).says

  pub ids_below_next-says : Says (ids_below_next st) (IdsBelowNext st)
  unfolding ids_below_next IdsBelowNext
  ids_below_next-says = (each-store (λ s. each_record_lem s (λ k. id_between_sure (next_id_of st) (record_of st s k)))).says

  pub stamps_up_to_stores-says : Says (stamps_up_to_stores st) (StampsUpToStores st)
  unfolding stamps_up_to_stores StampsUpToStores
  stamps_up_to_stores-says = (each-store (λ s. each_record_lem s (λ k. stamp_between_sure (stamp_of st s) (record_of st s k)))).says

  pub times_finite-says : Says (times_finite st) (TimesFinite st)
  unfolding times_finite TimesFinite
  times_finite-says = (each-store (λ s. each_record_lem s (λ k. finite_sure (record_of st s k).touched))).says

  -- ---- pins

  pub pins_stand-says : Says (pins_stand st) (PinsStand st)
  unfolding pins_stand PinsStand
  pins_stand-says = (each-store (λ s. pairs_sure (entries_of st s) (λ j k. pin_before_sure (entry_of st s j) (entry_of st s k)))).says

  pub pins_inside-says : Says (pins_inside st) (PinsInside st)
  unfolding pins_inside PinsInside
  pins_inside-says = (each-store (λ s. each_entry_lem s (λ k. pin_inside_sure st.tree (entry_of st s k)))).says

  pub pinned_is_sum-says : Says (pinned_is_sum st) (PinnedIsSum st)
  unfolding pinned_is_sum PinnedIsSum
  pinned_is_sum-says = (each-store (λ s. eq_sure (pinned_of st s) (pinned_by st s (entries_of st s)))).says

  -- ---- marks

  holds_none_sure : (s v : ℕ) → Sure (holds_none st s v) (HoldsNone st s v)
  holds_none_sure s v = each_record_lem s (λ k. not_sure (eq_sure (record_of st s k).node v))

  pub marks_none-says : Says (marks_none st) (MarksNone st)
  unfolding marks_none MarksNone
  marks_none-says = (each-store (λ s. all_sure max_nodes (λ v. unless_sure (holds_none_sure s v) (eq_sure (mark_of st s v) 0)))).says

  pub marks_within-says : Says (marks_within st) (MarksWithin st)
  unfolding marks_within MarksWithin
  marks_within-says = (each-store (λ s. all_sure st.tree.nodes (λ v. le_sure (mark_of st s v) (at st.tree.len v)))).says

  -- ---- the whole

  pub sound-says : Says (sound st) (Sound st)
  unfolding sound
  sound-says =
      let t = st.tree in
      map_says (sound st) (λ h. search) (λ h. search)
      (sure (lent st) (lent_says st)
      and sure (counts st) (counts-says st)
      and sure (rising st.bytes) (rising-says st.bytes)
      and sure (root t) (root-says t)
      and sure (parents_in_use t) (parents_in_use-says t)
      and sure (depths_add t) (depths_add-says t)
      and sure (ends_within t) (ends_within-says t)
      and sure (nodes_filled t) (nodes_filled-says t)
      and sure (runs_below t) (runs_below-says t)
      and sure (runs_apart t) (runs_apart-says t)
      and sure (siblings_differ t) (siblings_differ-says t)
      and sure (records_stand st) records_stand-says
      and sure (records_inside st) records_inside-says
      and sure (held_is_sum st) held_is_sum-says
      and sure (held_none_at_zero st) held_none_at_zero-says
      and sure (ids_differ st) ids_differ-says
      and sure (ids_below_next st) ids_below_next-says
      and sure (stamps_up_to_stores st) stamps_up_to_stores-says
      and sure (times_finite st) times_finite-says
      and sure (pins_stand st) pins_stand-says
      and sure (pins_inside st) pins_inside-says
      and sure (pinned_is_sum st) pinned_is_sum-says
      and sure (marks_none st) marks_none-says
      and sure (marks_within st) marks_within-says)
