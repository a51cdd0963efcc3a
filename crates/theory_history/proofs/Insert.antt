-- An insert changes no name: the cut moves a store's blocks with their names, and the leaf leaves them. Assumes nothing.
use Prim.Native.Nat.{ℕ, zero, suc, ◌+◌, ◌-◌, ◌≤◌, ◌<◌}
use mathlib.Core.Bool.{Bool, true, false}
use mathlib.Core.Path.{◌≡◌, refl, sym, ap, subst, ◌∙◌}
use mathlib.Core.Logic.{◌⊎◌, inl, inr}
use mathlib.Core.List.{List}
use native.Mathlib.Omega.{arith}
use native.Mathlib.Decide.{ℕ_discrete}
use lib.ListN.{length, drop, length-drop}
use borrow.Author.Tests.{ltb-true, ltb-false}
use Rattle.model.specs.Words.{Each, sum_to}
use Rattle.model.specs.Sizes.{max_nodes, max_words, max_hashes, max_stamp, store_records, store_pins}
use Rattle.model.specs.State.{Tree, State, at, stores_of, next_id_of, records_of, entries_of, book_in}
use Rattle.model.specs.Sound.{Sound}
use Rattle.model.specs.Tree.{Seg, blocks}
use Rattle.model.specs.Tree as Trees
use Rattle.model.specs.Store.{store_of, lay, plus, lay_counts}
use Rattle.model.specs.Insert.{next_node, pins_across, cut_tree, add_leaf, match_end, adds, ends_inside, with_tree, with_leaf, cut, cut_first, grow, insert_path}
use Rattle.model.specs.Refusals.{first_of, PathList, node_need, new_blocks, cuts, cut_records, cut_entries, cut_ids, insert_refusals}
use Rattle.model.specs.Calls as Calls
use Rattle.model.specs.Calls.{done, unless}
use Rattle.theory_refuse.proofs.Refused.{insert-kept}
use Rattle.theory_sound.specs.StoreSound.{TreeSound, Parts}
use Rattle.theory_cut.proofs.CutTree.{CutTo, cut_to, cut_tree-sound}
use Rattle.theory_cut.proofs.Leaf.{leaf_to}
use Rattle.theory_cut.proofs.Insert.{match-end, leaf_here, leaf_cut, cut-tree}
use Rattle.theory_calls.proofs.Parts.{sound-parts}
use Rattle.theory_calls.proofs.Cut.{needs, records-counted, entries-counted, ids-counted}
use Rattle.theory_calls.proofs.Accepted.{NoneHolds, each_fits, none_where}
use Rattle.theory_calls.proofs.Insert.{after-cut}
use Rattle.model.specs.Blocks.{Holds}
use Rattle.theory_history.specs.Names.{name_of, Stored}
use Rattle.theory_history.specs.History.{silent, History, next}
use Rattle.theory_history.proofs.Grown.{leaf_name, stay_name, move_name}
use Rattle.theory_history.proofs.Blocks.{lt_or_le, cut_holds, cut-stays, cut_moves}
use Rattle.theory_history.proofs.CutStores.{WasCut, stores-cut}
use Rattle.theory_history.proofs.Exact.{real-parts, Exact, Renames, renames_exact}

renames_same : (a : State) → Renames a a
renames_same a = record { stores = refl; came = λ q w l x. x; kept = λ q w l x. x }

renames_then : {a b c : State} → Renames a b → Renames b c → Renames a c
renames_then f g =
    record {
      stores = g.stores ∙ f.stores;
      came = λ q w l x. f.came q w l (g.came q w (rw f.stores l) x);
      kept = λ q w l x. g.kept q w (rw f.stores l) (f.kept q w l x);
    }

or_same : {L A : Type 0} (a b : State) (l l' : L) (v : A) (n : ℕ) → (n ≡ 0 → Renames a b)
    → Renames a (unless n a l (record { state = b; lists = l'; answer = done v })).state
or_same a b l l' v zero k = k refl
or_same a b l l' v (suc n) k = renames_same a

-- ---- the leaf

module _ (st : State) (h : Parts st) (p d : ℕ) (rest : List ℕ) (room : st.tree.nodes < max_nodes) (words : st.tree.used + length rest ≤ max_words)
    (v : TreeSound (add_leaf p d rest st.tree)) where
  grown_words : (add_leaf p d rest st.tree).words ≡ lay 0 st.tree.used (length rest) rest st.tree.words
  unfolding add_leaf
  grown_words = refl

  same_name : (q n o : ℕ) → q < stores_of st → Holds (store_of st q).ranges n o → name_of (add_leaf p d rest st.tree) n o ≡ name_of st.tree n o
  same_name q n o l x =
      let k = real-parts st q h l n o x in
      leaf_name h.tree (leaf_to p d rest st.tree h.tree.lent room words) grown_words words v n o k.root k.node k.offset

  same_store : (q : ℕ) → store_of (with_tree (add_leaf p d rest st.tree) st) q ≡ store_of st q
  unfolding store_of with_tree lay_counts book_in
  same_store q = refl

  leaf_renames : Renames st (with_tree (add_leaf p d rest st.tree) st)
  unfolding with_tree lay_counts
  leaf_renames =
      record {
        stores = refl;
        came =
            λ q w l x.
            let y : Holds (store_of st q).ranges x.node x.offset = rw (same_store q) at x.is in
            record { node = x.node; offset = x.offset; is = y; name = sym (same_name q x.node x.offset l y) ∙ x.name };
        kept =
            λ q w l x.
            record {
              node = x.node;
              offset = x.offset;
              is = rw (same_store q) x.is;
              name = same_name q x.node x.offset l x.is ∙ x.name;
            };
      }

-- ---- the cut

module _ (st : State) (h : Parts st) (j k : ℕ) (low : 1 ≤ j) (in_use : j < st.tree.nodes) (some : 0 < k) (inside : k < at st.tree.len j)
    (room : st.tree.nodes < max_nodes)
    (records : Each 0 (stores_of st) (λ s. records_of st s + needs j k st s ≤ store_records))
    (entries : Each 0 (stores_of st) (λ s. entries_of st s + pins_across j k (store_of st s).pins ≤ store_pins))
    (last : next_id_of st + sum_to (needs j k st) (stores_of st) ≤ max_stamp) (stores : stores_of (cut j k st) ≡ stores_of st) where
  abbrev m : ℕ
  m = next_node st.tree

  was-cut : CutTo j k st.tree (cut_tree j k st.tree)
  was-cut = cut_to j k st.tree h.tree.lent low in_use room

  cut-sound : TreeSound (cut_tree j k st.tree)
  cut-sound = cut_tree-sound j k st.tree h.tree low in_use some inside room

  cut-store : (q : ℕ) → q < stores_of st → WasCut j k m st q (cut j k st)
  cut-store = stores-cut j k st h low in_use some inside room records entries last

  stays : (q n o : ℕ) → q < stores_of st → Holds (store_of st q).ranges n o → (n ≡ j → o < k) → name_of (cut j k st).tree n o ≡ name_of st.tree n o
  stays q n o l x f =
      let y = real-parts st q h l n o x in
      rw (cut-tree j k st) (stay_name h.tree cut-sound low in_use some inside was-cut n o y.root y.node y.offset f)

  moves : (q o : ℕ) → q < stores_of st → Holds (store_of st q).ranges j (k + o) → name_of (cut j k st).tree m o ≡ name_of st.tree j (k + o)
  moves q o l x =
      let y = real-parts st q h l j (k + o) x in rw (cut-tree j k st) (move_name h.tree cut-sound low in_use some inside was-cut o y.offset)

  came : (q : ℕ) (w : List ℕ) → q < stores_of st → Stored (cut j k st) q w → Stored st q w
  came q w l x = go (cut_holds j k m (store_of st q).ranges c.next x.node x.offset (rw c.ranges at x.is))
    where
      c : WasCut j k m st q (cut j k st)
      c = cut-store q l

      go : (Holds (store_of st q).ranges x.node x.offset × (x.node ≡ j → x.offset < k))
          ⊎ ((x.node ≡ m) × Holds (store_of st q).ranges j (k + x.offset))
          → Stored st q w
      go (inl (y, f)) = record { node = x.node; offset = x.offset; is = y; name = sym (stays q x.node x.offset l y f) ∙ x.name }
      go (inr (e, y)) =
          record {
            node = j;
            offset = k + x.offset;
            is = y;
            name = sym (moves q x.offset l y) ∙ (ap (λ n. name_of (cut j k st).tree n x.offset) (sym e) ∙ x.name);
          }

  kept : (q : ℕ) (w : List ℕ) → q < stores_of st → Stored st q w → Stored (cut j k st) q w
  kept q w l x = go (ℕ_discrete x.node j) (lt_or_le x.offset k)
    where
      c : WasCut j k m st q (cut j k st)
      c = cut-store q l

      here : (x.node ≡ j → x.offset < k) → Stored (cut j k st) q w
      here f =
          record {
            node = x.node;
            offset = x.offset;
            is = rw c.ranges (cut-stays j k m (store_of st q).ranges c.next x.node x.offset x.is f);
            name = stays q x.node x.offset l x.is f ∙ x.name;
          }

      there : x.node ≡ j → k ≤ x.offset → Stored (cut j k st) q w
      there e b =
          let s : k + (x.offset - k) ≡ x.offset = omega arith in
          let y : Holds (store_of st q).ranges j (k + (x.offset - k)) =
          subst (Holds (store_of st q).ranges j) (sym s) (subst (λ n. Holds (store_of st q).ranges n x.offset) e x.is)
          in
          record {
            node = m;
            offset = x.offset - k;
            is = rw c.ranges (cut_moves j k m (store_of st q).ranges c.next (x.offset - k) y);
            name =
                moves q (x.offset - k) l y
                ∙ (ap (name_of st.tree j) s ∙ (ap (λ n. name_of st.tree n x.offset) (sym e) ∙ x.name));
          }

      go : Dec (x.node ≡ j) → (x.offset < k) ⊎ (k ≤ x.offset) → Stored (cut j k st) q w
      go (yes e) (inl b) = here (λ f. b)
      go (yes e) (inr b) = there e b
      go (no d) b = here (λ e. absurd (d e))

  cut_renames : Renames st (cut j k st)
  cut_renames = record { stores = stores; came = came; kept = kept }

-- ---- the whole: what the refusals 3, 6, 7, 8, 9 and 11 test

path_renames : (st : State) (hs : List ℕ) → Parts st → length hs ≤ max_hashes → st.tree.nodes + node_need st hs ≤ max_nodes
    → st.tree.used + new_blocks st hs ≤ max_words
    → Each 0 (stores_of st) (λ s. records_of st s + cut_records st hs s ≤ store_records)
    → Each 0 (stores_of st) (λ s. entries_of st s + cut_entries st hs s ≤ store_pins)
    → next_id_of st + cut_ids st hs (stores_of st) ≤ max_stamp
    → Renames st (insert_path hs (Trees.resolve st.tree hs) st).state
unfolding insert_path node_need new_blocks with_leaf
path_renames st hs h short nodes words records entries last = go (adds hs path) refl nodes
  where
    t : Tree
    t = st.tree

    path : List Seg
    path = Trees.resolve st.tree hs

    e : Seg
    e = match_end path

    inside : (b : Bool) → ends_inside t path ≡ b → adds hs path ≡ true → t.nodes + plus b 1 ≤ max_nodes → Renames st (cut_first b hs path st).state
    inside true q p room =
        let does : cuts st hs ≡ true = rw (p, q) in
        let ends = match-end t h.tree hs p in
        let more : blocks path < length hs = ltb-true _ _ p in
        let within : e.len < at t.len e.node = ltb-true _ _ q in
        let i = ends.in_node within in
        let r : Each 0 (stores_of st) (λ s. records_of st s + needs e.node e.len st s ≤ store_records) =
        λ s low less. rw (records-counted st hs does s) at (records s low less) in
        let n : Each 0 (stores_of st) (λ s. entries_of st s + pins_across e.node e.len (store_of st s).pins ≤ store_pins) =
        λ s low less. rw (entries-counted st hs does s) at (entries s low less) in
        let l : next_id_of st + sum_to (needs e.node e.len st) (stores_of st) ≤ max_stamp =
        rw (ids-counted st hs does (stores_of st)) at last in
        let c = cut_to e.node e.len t h.tree.lent i.0 ends.in_use (omega arith) in
        let a = after-cut st hs (blocks path) e h ends more short words within (omega arith) r n l in
        renames_then (cut_renames st h e.node e.len i.0 ends.in_use i.1 within (omega arith) r n l a.stores)
        (leaf_renames (cut e.node e.len st) a.parts e.node (blocks path) (drop (blocks path) hs)
        (rw a.tree (omega (arith, c.nodes))) (rw a.tree (omega (arith, c.used, length-drop (blocks path) hs)))
        (rw a.tree (leaf_cut h.tree ends more short words within (omega arith))))
    inside false q p room =
        let ends = match-end t h.tree hs p in
        let past : at t.len e.node ≤ e.len = ltb-false _ _ q in
        leaf_renames st h e.node (blocks path) (drop (blocks path) hs) (omega arith) (omega (arith, length-drop (blocks path) hs))
        (leaf_here h.tree ends (ltb-true _ _ p) short words (omega (arith, ends.within)) (omega arith))

    go : (b : Bool) → adds hs path ≡ b → t.nodes + (elim b as (λ z. ℕ) [ true ↦ plus (ends_inside t path) 1 | false ↦ 0 ]) ≤ max_nodes
        → Renames st (grow b hs path st).state
    go true p room = inside (ends_inside t path) refl p room
    go false p room = renames_same st

module _ (a : State) (l : PathList) (hs : List ℕ) (h : History) (sound : Sound a) (exact : Exact a h) where
  path-of : NoneHolds (insert_refusals a l hs) → Renames a (insert_path hs (Trees.resolve a.tree hs) a).state
  path-of (unsound, (short, (many, (few_nodes, (few_words, (few_records, (few_entries, (late, end)))))))) =
      path_renames a hs (sound-parts a sound) (omega arith) (omega arith) (omega arith)
      (each_fits (λ s. records_of a s + cut_records a hs s) (stores_of a) store_records few_records)
      (each_fits (λ s. entries_of a s + cut_entries a hs s) (stores_of a) store_pins few_entries) (omega arith)

  insert_renames : Renames a (Calls.insert a l hs).state
  unfolding Calls.insert
  insert_renames = or_same a _ l _ _ (first_of (insert_refusals a l hs)) (λ e. path-of (none_where _ _ _ (insert-kept a l hs) e))

  pub insert_exact : Exact (Calls.insert a l hs).state (next a.tree silent h)
  insert_exact = renames_exact a (Calls.insert a l hs).state h insert_renames exact
