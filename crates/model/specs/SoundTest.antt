-- The sound state as a test that computes: one for each fact of `Sound`, under its name. `theory_refuse` proves that each says exactly its fact.
-- Assumes nothing.
use Rattle.std.specs.Prelude.{ℕ, zero, suc, ◌+◌, min, max, Bool, true, false, not, ◌&&◌, ◌||◌, List, [], ◌∷◌, length, leb, ltb, eqb, Float}
use Rattle.std.specs.Float.{nan, inf, fin}
use Rattle.model.specs.declared.Book.{Book}
use Rattle.model.specs.Words.{all, pairs, implies}
use Rattle.model.specs.Sizes.{max_nodes, max_words, max_hashes, max_stores, max_capacity, store_records, store_pins, max_records, max_pins, max_marks, max_numbers, max_pinned, max_stamp, table_length, max_bytes, max_stalls}
use Rattle.model.specs.State.{Tree, Ranges, Pins, State, Range, Pin, at, record_of, entry_of, mark_of, first_hash, end_of, stores_of, next_id_of, stalls_of, book_of, capacity_of, records_of, held_of, stamp_of, entries_of, pinned_of}
use Rattle.model.specs.Sound.{held_by, pinned_by}

unfoldable pub tree_lent : Tree → Bool
tree_lent t =
    leb max_nodes (length t.parent)
    && (leb max_nodes (length t.depth) && (leb max_nodes (length t.len) && (leb max_nodes (length t.run) && leb max_words (length t.words))))

unfoldable pub ranges_lent : Ranges → Bool
ranges_lent c =
    leb max_records (length c.node)
    && (leb max_records (length c.start)
    && (leb max_records (length c.end)
    && (leb max_records (length c.id)
    && (leb max_records (length c.stamp) && (leb max_records (length c.touched) && leb max_records (length c.write))))))

unfoldable pub pins_lent : Pins → Bool
pins_lent c =
    leb max_pins (length c.node)
    && (leb max_pins (length c.start) && (leb max_pins (length c.end) && leb max_pins (length c.count)))

unfoldable pub lent : State → Bool
unfolding tree_lent ranges_lent pins_lent
lent st =
    tree_lent st.tree
    && (ranges_lent st.ranges
    && (pins_lent st.pins && (leb max_marks (length st.marks) && (leb table_length (length st.bytes) && leb max_numbers (length st.books)))))

unfoldable pub store_counts : Book → Bool
store_counts b =
    leb b.capacity max_capacity
    && (leb b.policy 1
    && (leb b.records store_records && (leb b.entries store_pins && (leb b.pinned max_pinned && leb b.stamp max_stamp))))

unfoldable pub counts : State → Bool
unfolding store_counts all
counts st =
    leb 1 st.tree.nodes
    && (leb st.tree.nodes max_nodes
    && (leb st.tree.used max_words
    && (leb 1 (stores_of st)
    && (leb (stores_of st) max_stores
    && (leb 1 (next_id_of st)
    && (leb (next_id_of st) max_stamp && (leb (stalls_of st) max_stalls && all (stores_of st) (λ s. store_counts (book_of st s)))))))))

-- n numbers of the list, none below the one before it or above 2^48
unfoldable pub rises_from : ℕ → ℕ → List ℕ → Bool
rises_from before zero xs = true
rises_from before (suc n) [] = leb before 0 && rises_from 0 n []
rises_from before (suc n) (x ∷ xs) = leb before x && (leb x max_bytes && rises_from x n xs)

unfoldable pub rising : List ℕ → Bool
unfolding rises_from
rising table = rises_from 0 table_length table

unfoldable pub root : Tree → Bool
root t = eqb (at t.len 0) 0 && eqb (at t.depth 0) 0

-- ---- the tree

-- the test at every node in use but the root
abbrev pub each_node : Tree → (ℕ → Bool) → Bool
each_node t f = all t.nodes (λ k. implies (leb 1 k) (f k))

unfoldable pub parents_in_use : Tree → Bool
unfolding all
parents_in_use t = each_node t (λ k. ltb (at t.parent k) t.nodes)

unfoldable pub depths_add : Tree → Bool
unfolding all
depths_add t = each_node t (λ k. eqb (at t.depth k) (end_of t (at t.parent k)))

unfoldable pub ends_within : Tree → Bool
unfolding all
ends_within t = each_node t (λ k. leb (end_of t k) max_hashes)

unfoldable pub nodes_filled : Tree → Bool
unfolding all
nodes_filled t = each_node t (λ k. leb 1 (at t.len k))

unfoldable pub runs_below : Tree → Bool
unfolding all
runs_below t = each_node t (λ k. leb (at t.run k + at t.len k) t.used)

-- two runs share no word: the first end comes before the last start
abbrev pub run_apart : Tree → ℕ → ℕ → Bool
run_apart t j k = leb (min (at t.run j + at t.len j) (at t.run k + at t.len k)) (max (at t.run j) (at t.run k))

unfoldable pub runs_apart : Tree → Bool
unfolding all
runs_apart t = each_node t (λ j. each_node t (λ k. run_apart t j k || eqb j k))

unfoldable pub siblings_differ : Tree → Bool
unfolding all
siblings_differ t =
    each_node t (λ j. each_node t (λ k. implies (eqb (at t.parent j) (at t.parent k)) (implies (eqb (first_hash t j) (first_hash t k)) (eqb j k))))

-- ---- the stores

abbrev pub each_store : State → (ℕ → Bool) → Bool
each_store st f = all (stores_of st) f

abbrev pub each_record : State → ℕ → (ℕ → Bool) → Bool
each_record st s f = all (records_of st s) f

abbrev pub before : Range → Range → Bool
before r q = leb r.node q.node && implies (eqb r.node q.node) (leb r.end q.start)

unfoldable pub records_stand : State → Bool
unfolding all pairs
records_stand st = each_store st (λ s. pairs (records_of st s) (λ j k. before (record_of st s j) (record_of st s k)))

abbrev pub inside : Tree → Range → Bool
inside t r = ltb r.node t.nodes && (ltb r.start r.end && leb r.end (at t.len r.node))

unfoldable pub records_inside : State → Bool
unfolding all
records_inside st = each_store st (λ s. each_record st s (λ k. inside st.tree (record_of st s k)))

unfoldable pub held_is_sum : State → Bool
unfolding all held_by
held_is_sum st = each_store st (λ s. eqb (held_of st s) (held_by st s (records_of st s)))

unfoldable pub held_none_at_zero : State → Bool
unfolding all
held_none_at_zero st = each_store st (λ s. implies (eqb (capacity_of st s) 0) (eqb (held_of st s) 0))

unfoldable pub ids_differ : State → Bool
unfolding all
ids_differ st =
    each_store st
    (λ s. each_record st s (λ j. each_store st (λ q. each_record st q (λ k. implies (eqb (record_of st s j).id (record_of st q k).id) (eqb s q && eqb j k)))))

unfoldable pub ids_below_next : State → Bool
unfolding all
ids_below_next st = each_store st (λ s. each_record st s (λ k. leb 1 (record_of st s k).id && ltb (record_of st s k).id (next_id_of st)))

unfoldable pub stamps_up_to_stores : State → Bool
unfolding all
stamps_up_to_stores st =
    each_store st (λ s. each_record st s (λ k. leb 1 (record_of st s k).stamp && leb (record_of st s k).stamp (stamp_of st s)))

abbrev pub finite : Float → Bool
finite nan = false
finite (inf sign) = false
finite (fin sign m e) = true

unfoldable pub times_finite : State → Bool
unfolding all
times_finite st = each_store st (λ s. each_record st s (λ k. finite (record_of st s k).touched))

-- ---- pins

abbrev pub each_entry : State → ℕ → (ℕ → Bool) → Bool
each_entry st s f = all (entries_of st s) f

abbrev pub pin_before : Pin → Pin → Bool
pin_before p q =
    leb p.node q.node
    && (implies (eqb p.node q.node) (leb p.start q.start)
    && implies (eqb p.node q.node) (implies (eqb p.start q.start) (ltb p.end q.end)))

unfoldable pub pins_stand : State → Bool
unfolding all pairs
pins_stand st = each_store st (λ s. pairs (entries_of st s) (λ j k. pin_before (entry_of st s j) (entry_of st s k)))

abbrev pub pin_inside : Tree → Pin → Bool
pin_inside t p = ltb p.node t.nodes && (ltb p.start p.end && (leb p.end (at t.len p.node) && leb 1 p.count))

unfoldable pub pins_inside : State → Bool
unfolding all
pins_inside st = each_store st (λ s. each_entry st s (λ k. pin_inside st.tree (entry_of st s k)))

unfoldable pub pinned_is_sum : State → Bool
unfolding all pinned_by
pinned_is_sum st = each_store st (λ s. eqb (pinned_of st s) (pinned_by st s (entries_of st s)))

-- ---- marks

abbrev pub holds_none : State → ℕ → ℕ → Bool
holds_none st s v = each_record st s (λ k. not (eqb (record_of st s k).node v))

unfoldable pub marks_none : State → Bool
unfolding all
marks_none st = each_store st (λ s. all max_nodes (λ v. eqb (mark_of st s v) 0 || not (holds_none st s v)))

unfoldable pub marks_within : State → Bool
unfolding all
marks_within st = each_store st (λ s. all st.tree.nodes (λ v. leb (mark_of st s v) (at st.tree.len v)))

-- ---- the whole

unfoldable pub sound : State → Bool
unfolding lent counts rising root parents_in_use depths_add ends_within nodes_filled runs_below runs_apart siblings_differ records_stand records_inside held_is_sum held_none_at_zero ids_differ ids_below_next stamps_up_to_stores times_finite pins_stand pins_inside pinned_is_sum marks_none marks_within
sound st =
    lent st
    && (counts st
    && (rising st.bytes
    && (root st.tree
    && (parents_in_use st.tree
    && (depths_add st.tree
    && (ends_within st.tree
    && (nodes_filled st.tree
    && (runs_below st.tree
    && (runs_apart st.tree
    && (siblings_differ st.tree
    && (records_stand st
    && (records_inside st
    && (held_is_sum st
    && (held_none_at_zero st
    && (ids_differ st
    && (ids_below_next st
    && (stamps_up_to_stores st
    && (times_finite st
    && (pins_stand st
    && (pins_inside st && (pinned_is_sum st && (marks_none st && marks_within st))))))))))))))))))))))
