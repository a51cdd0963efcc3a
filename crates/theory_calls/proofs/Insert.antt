-- An insert keeps the state sound: it adds a leaf to the tree, after the cut of a node in the tree and in every store where the match ends inside one; or it
-- changes nothing. Assumes nothing.
use Prim.Native.Nat.{ℕ, suc, ◌+◌, ◌-◌, ◌≤◌, ◌<◌}
use mathlib.Core.Path.{◌≡◌, refl}
use mathlib.Core.Bool.{Bool, true, false}
use mathlib.Core.List.{List}
use native.Mathlib.Omega.{arith}
use native.Mathlib.Nat.{le_of_eq}
use lib.ListN.{length, drop, length-drop}
use borrow.Author.Tests.{ltb-true, ltb-false}
use Rattle.model.specs.Words.{Each, sum_to}
use Rattle.model.specs.Sizes.{max_nodes, max_words, max_hashes, max_stamp, store_records, store_pins}
use Rattle.model.specs.State.{Tree, State, at, stores_of, next_id_of, records_of, entries_of}
use Rattle.model.specs.Sound.{Sound}
use Rattle.model.specs.Tree.{Seg, resolve, blocks}
use Rattle.model.specs.Store.{Store, store_of, plus}
use Rattle.model.specs.Insert.{next_node, pins_across, cut_tree, add_leaf, match_end, adds, ends_inside, with_tree, with_leaf, cut, cut_first, grow, insert_path}
use Rattle.model.specs.Refusals.{node_need, new_blocks, cuts, cut_records, cut_entries, cut_ids}
use Rattle.theory_sound.specs.StoreSound.{TreeSound, StoreSound, Parts}
use Rattle.theory_cut.proofs.CutTree.{CutTo, cut_to, cut_tree-sound}
use Rattle.theory_cut.proofs.CutStore.{below-nodes, cut_store-ids, cut_store_length, cut_store-pins, cut_store-sound}
use Rattle.theory_cut.proofs.Leaf.{leaf_store}
use Rattle.theory_cut.proofs.Insert.{EndsAt, match-end, leaf_here, store-here, leaf_cut}
use Rattle.theory_calls.proofs.Parts.{sound-parts, parts-sound}
use Rattle.theory_calls.proofs.Changed.{tree_grown}
use Rattle.theory_calls.proofs.Cut.{StoreCut, Room, AfterCut, cut-kept, needs, records-counted, entries-counted, ids-counted}

module _ (st : State) (hs : List ℕ) (n : ℕ) (e : Seg) (h : Parts st) (ends : EndsAt st.tree hs n e) (more : n < length hs) (short : length hs ≤ max_hashes)
    (words : st.tree.used + (length hs - n) ≤ max_words) where
  -- at the end of a node, or of the root
  leaf_parts : e.len ≡ at st.tree.len e.node → st.tree.nodes < max_nodes → Parts (with_tree (add_leaf e.node n (drop n hs) st.tree) st)
  leaf_parts full room =
      tree_grown st (add_leaf e.node n (drop n hs) st.tree) h (leaf_here h.tree ends more short words full room)
      (λ next x. store-here h.tree ends more short words room)

  -- inside a node: cut it first
  module _ (inside : e.len < at st.tree.len e.node) (room : suc st.tree.nodes < max_nodes)
      (records : Each 0 (stores_of st) (λ s. records_of st s + needs e.node e.len st s ≤ store_records))
      (entries : Each 0 (stores_of st) (λ s. entries_of st s + pins_across e.node e.len (store_of st s).pins ≤ store_pins))
      (last : next_id_of st + sum_to (needs e.node e.len st) (stores_of st) ≤ max_stamp) where
    was-cut : CutTo e.node e.len st.tree (cut_tree e.node e.len st.tree)
    was-cut = cut_to e.node e.len st.tree h.tree.lent (ends.in_node inside).0 ends.in_use (omega arith)

    tree-cut : TreeSound (cut_tree e.node e.len st.tree)
    tree-cut = cut_tree-sound e.node e.len st.tree h.tree (ends.in_node inside).0 ends.in_use (ends.in_node inside).1 inside (omega arith)

    store_kept : (next : ℕ) (x : Store) → 1 ≤ next → StoreSound st.tree next x → Room e.node e.len x
        → StoreCut e.node e.len (next_node st.tree) (cut_tree e.node e.len st.tree) next x
    store_kept next x first s fits =
        let below = below-nodes st.tree x.ranges s.ranges.inside in
        record {
          sound = cut_store-sound e.node e.len st.tree h.tree (ends.in_node inside).0 ends.in_use (omega arith) s fits.records fits.entries;
          ids = cut_store-ids e.node e.len (next_node st.tree) next x below;
          few = le_of_eq (cut_store_length e.node e.len (next_node st.tree) next x below);
          few_pins = cut_store-pins e.node e.len (next_node st.tree) next x;
        }

    pub after-cut : AfterCut e.node e.len st
    after-cut = cut-kept e.node e.len st h tree-cut store_kept records entries last

    over_leaf : (next : ℕ) (x : Store) → StoreSound (cut_tree e.node e.len st.tree) next x
        → StoreSound (add_leaf e.node n (drop n hs) (cut_tree e.node e.len st.tree)) next x
    over_leaf next x =
        leaf_store e.node n (drop n hs) (cut_tree e.node e.len st.tree) tree-cut (omega (arith, was-cut.nodes))
        (omega (arith, was-cut.used, length-drop n hs))

    cut_parts : Parts (with_tree (add_leaf e.node n (drop n hs) (cut e.node e.len st).tree) (cut e.node e.len st))
    cut_parts =
        tree_grown (cut e.node e.len st) (add_leaf e.node n (drop n hs) (cut e.node e.len st).tree) after-cut.parts
        (rw after-cut.tree (leaf_cut h.tree ends more short words inside room)) (rw after-cut.tree over_leaf)

-- ---- the whole: the hypotheses are that the refusals 3, 6, 7, 8, 9 and 11 do not hold

pub insert_path-sound : (st : State) (hs : List ℕ) → Sound st → length hs ≤ max_hashes → st.tree.nodes + node_need st hs ≤ max_nodes
    → st.tree.used + new_blocks st hs ≤ max_words
    → Each 0 (stores_of st) (λ s. records_of st s + cut_records st hs s ≤ store_records)
    → Each 0 (stores_of st) (λ s. entries_of st s + cut_entries st hs s ≤ store_pins)
    → next_id_of st + cut_ids st hs (stores_of st) ≤ max_stamp → Sound (insert_path hs (resolve st.tree hs) st).state
unfolding insert_path node_need new_blocks with_leaf
insert_path-sound st hs sound short nodes words records entries last = go (adds hs (resolve st.tree hs)) refl nodes
  where
    t : Tree
    t = st.tree

    path : List Seg
    path = resolve st.tree hs

    h : Parts st
    h = sound-parts st sound

    inside : (b : Bool) → ends_inside t path ≡ b → adds hs path ≡ true → t.nodes + plus b 1 ≤ max_nodes → Sound (cut_first b hs path st).state
    inside true q p room =
        let does : cuts st hs ≡ true = rw (p, q) in
        parts-sound _
        (cut_parts st hs (blocks path) (match_end path) h (match-end t h.tree hs p) (ltb-true _ _ p) short words (ltb-true _ _ q) (omega arith)
        (λ s low less. rw (records-counted st hs does s) at (records s low less))
        (λ s low less. rw (entries-counted st hs does s) at (entries s low less))
        (rw (ids-counted st hs does (stores_of st)) at last))
    inside false q p room =
        let ends = match-end t h.tree hs p in
        let past : at t.len (match_end path).node ≤ (match_end path).len = ltb-false _ _ q in
        parts-sound _
        (leaf_parts st hs (blocks path) (match_end path) h ends (ltb-true _ _ p) short words (omega (arith, ends.within)) (omega arith))

    go : (b : Bool) → adds hs path ≡ b → t.nodes + (elim b as (λ z. ℕ) [ true ↦ plus (ends_inside t path) 1 | false ↦ 0 ]) ≤ max_nodes
        → Sound (grow b hs path st).state
    go true p room = inside (ends_inside t path) refl p room
    go false p room = sound
