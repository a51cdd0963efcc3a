-- Where the match of a list ends, and that an insert may cut and add a leaf there: the leaf's parent has no child that begins with the leaf's first hash,
-- and after a cut its one child begins with a hash that differs from it. So the tree and each store stay sound. Assumes nothing.
use Prim.Native.Nat.{ℕ, zero, suc, ◌+◌, ◌-◌, ◌≤◌, ◌<◌}
use mathlib.Core.Path.{◌≡◌, refl, sym, ap, ◌∙◌}
use mathlib.Core.Bool.{true}
use mathlib.Core.List.{List}
use native.Mathlib.Omega.{arith}
use native.Mathlib.Nat.{add-zero}
use lib.ListN.{length, drop, length-drop}
use lib.Seq.{get_or-drop}
use borrow.Author.Tests.{ltb-true}
use Rattle.model.specs.Sizes.{max_nodes, max_words, max_hashes}
use Rattle.model.specs.State.{Tree, State, at, end_of, stores_of}
use Rattle.model.specs.Sound.{DepthsAdd}
use Rattle.model.specs.Tree.{Seg, hash_at, resolve, blocks}
use Rattle.model.specs.Store.{Store}
use Rattle.model.specs.Insert.{next_node, cut_tree, add_leaf, last_seg, match_end, adds, with_tree, cut_store_in, cut_stores, cut}
use Rattle.theory_sound.specs.StoreSound.{TreeSound, StoreSound}
use Rattle.theory_resolve.proofs.Walked.{Enters, Walked, ends, part, whole, resolve_walked}
use Rattle.theory_cut.proofs.Facts.{each_more}
use Rattle.theory_cut.proofs.CutTree.{CutTo, cut_to, cut_tree-sound, head-end, only_child}
use Rattle.theory_cut.proofs.Leaf.{NoChild, leaf_sound, leaf_store}

-- ---- the match's end

-- the match of n blocks ends in this node after this many of its blocks; there is one more in the list
pub record EndsAt (t : Tree) (hs : List ℕ) (n : ℕ) (e : Seg) : Type 0 where
  pub in_use : e.node < t.nodes
  pub within : e.len ≤ at t.len e.node
  pub deep : at t.depth e.node + e.len ≡ n
  pub in_node : e.len < at t.len e.node → (1 ≤ e.node) × (0 < e.len) × (hash_at t e.node e.len ≡ at hs n → ⊥)
  pub at_end : e.len ≡ at t.len e.node → NoChild t e.node (at hs n)

module _ (t : Tree) (s : TreeSound t) (hs : List ℕ) where
  enters_deep : {pos p k m : ℕ} → pos ≡ end_of t p → Enters t hs pos p k m → at t.depth k ≡ pos
  unfolding DepthsAdd
  enters_deep h e = s.depths _ e.child.not_root e.child.in_use ∙ ap (end_of t) e.child.parent ∙ sym h

  walked_end : {pos p : ℕ} {ss : List Seg} → Walked t hs pos p ss → (c n : ℕ) → c ≡ at t.len p → n ≡ pos + blocks ss → p < t.nodes → pos ≡ end_of t p
      → n < length hs → EndsAt t hs n (last_seg (record { node = p; len = c }) ss)
  unfolding blocks last_seg
  walked_end {pos} {p} (ends x) c n full sum in_use h more =
      let here : n ≡ pos = omega arith in
      record {
        in_use = in_use;
        within = omega arith;
        deep = omega arith;
        in_node = λ l. absurd (omega arith);
        at_end = λ l i low high a b. x i (record { not_root = low; in_use = high; parent = a }) (omega arith) (b ∙ ap (at hs) here);
      }
  walked_end {pos} {p} (part k m e l) c n full sum in_use h more =
      let here : pos + m ≡ n = omega arith in
      record {
        in_use = e.child.in_use;
        within = e.in_node;
        deep = omega (arith, enters_deep h e);
        in_node = λ q. (e.child.not_root, e.filled, λ f. e.next l (omega arith) (ap (at hs) here ∙ sym f));
        at_end = λ q. absurd (omega arith);
      }
  walked_end {pos} {p} (whole k m ss e l w) c n full sum in_use h more =
      walked_end w m n l (omega arith) e.child.in_use (omega (arith, enters_deep h e)) more

  pub match-end : adds hs (resolve t hs) ≡ true → EndsAt t hs (blocks (resolve t hs)) (match_end (resolve t hs))
  match-end more =
      walked_end (resolve_walked t s.filled hs) 0 (blocks (resolve t hs)) (sym s.root.len) (omega arith) s.some
      (omega (arith, s.root.len, s.root.depth)) (ltb-true _ _ more)

-- ---- the leaf under it

-- the hashes that are left, from the n-th on
rest-first : (hs : List ℕ) (n : ℕ) → at (drop n hs) 0 ≡ at hs n
rest-first hs n = get_or-drop n hs 0 0 ∙ ap (at hs) (add-zero n)

rest_length : (hs : List ℕ) (n : ℕ) → n < length hs → n + length (drop n hs) ≡ length hs
rest_length hs n more = simp length-drop (omega arith)

-- after a cut the one child of j is the new node, and it begins with j's hash k
cut_no_child : {j k h : ℕ} {t u : Tree} → TreeSound t → 1 ≤ j → j < t.nodes → 0 < k → k < at t.len j → CutTo j k t u → (hash_at t j k ≡ h → ⊥)
    → NoChild u j h
cut_no_child s low in_use some inside c differs =
    each_more _ c.nodes (λ e f. differs (rw (c.words, c.new_run) at f)) (λ i l h e f. absurd (only_child s low in_use some inside c i l h e))

module _ {t : Tree} {hs : List ℕ} {n : ℕ} {e : Seg} (s : TreeSound t) (a : EndsAt t hs n e) (more : n < length hs) (short : length hs ≤ max_hashes)
    (words : t.used + (length hs - n) ≤ max_words) where
  -- at the end of a node, or of the root
  pub leaf_here : e.len ≡ at t.len e.node → t.nodes < max_nodes → TreeSound (add_leaf e.node n (drop n hs) t)
  leaf_here full room =
      let long : n + length (drop n hs) ≡ length hs = rest_length hs n more in
      leaf_sound e.node n (drop n hs) t s a.in_use (omega (arith, a.deep)) (omega arith) (omega arith) room (omega arith)
      (rw (rest-first hs n) (a.at_end full))

  pub store-here : t.nodes < max_nodes → {next : ℕ} {x : Store} → StoreSound t next x → StoreSound (add_leaf e.node n (drop n hs) t) next x
  store-here room = leaf_store e.node n (drop n hs) t s room (omega (arith, rest_length hs n more))

  -- inside a node: cut it first
  module _ (inside : e.len < at t.len e.node) (room : suc t.nodes < max_nodes) where
    cut-tree-sound : TreeSound (cut_tree e.node e.len t)
    cut-tree-sound = cut_tree-sound e.node e.len t s (a.in_node inside).0 a.in_use (a.in_node inside).1 inside (omega arith)

    was-cut : CutTo e.node e.len t (cut_tree e.node e.len t)
    was-cut = cut_to e.node e.len t s.lent (a.in_node inside).0 a.in_use (omega arith)

    pub leaf_cut : TreeSound (add_leaf e.node n (drop n hs) (cut_tree e.node e.len t))
    leaf_cut =
        let long : n + length (drop n hs) ≡ length hs = rest_length hs n more in
        let i = a.in_node inside in
        leaf_sound e.node n (drop n hs) (cut_tree e.node e.len t) cut-tree-sound (omega (arith, a.in_use, was-cut.nodes))
        (head-end s i.0 a.in_use i.1 inside was-cut ∙ a.deep) (omega arith) (omega arith) (omega (arith, was-cut.nodes))
        (omega (arith, was-cut.used))
        (rw (rest-first hs n) (cut_no_child s i.0 a.in_use i.1 inside was-cut i.2))

-- ---- the tree that a cut leaves

cut-store-tree : (j k m s : ℕ) (st : State) → (cut_store_in j k m s st).tree ≡ st.tree
unfolding cut_store_in
cut-store-tree j k m s st = refl

cut-stores-tree : (j k m s n : ℕ) (st : State) → (cut_stores j k m s n st).tree ≡ st.tree
unfolding cut_stores
cut-stores-tree j k m s zero st = refl
cut-stores-tree j k m s (suc n) st = cut-stores-tree j k m (suc s) n (cut_store_in j k m s st) ∙ cut-store-tree j k m s st

pub cut-tree : (j k : ℕ) (st : State) → (cut j k st).tree ≡ cut_tree j k st.tree
unfolding cut
cut-tree j k st = cut-stores-tree j k (next_node st.tree) 0 (stores_of st) (with_tree (cut_tree j k st.tree) st)
