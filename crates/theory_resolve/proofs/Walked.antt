-- What a walk down the tree does, as a type: node by node it enters the one child that goes on with the list, and stops where there is none or where a node
-- matches in part. All that holds of resolve is then an induction on that type, with neither tests nor the bound on the turns. Assumes nothing.
use Prim.Native.Nat.{ℕ, zero, suc, ◌+◌, ◌-◌, ◌≤◌, ◌<◌, min}
use mathlib.Core.Bool.{Bool, true, false, ◌&&◌}
use mathlib.Core.List.{List, [], ◌∷◌}
use Rattle.std.specs.Prelude.{Option, None, Some}
use mathlib.Core.Path.{◌≡◌, refl, sym, ap, ◌∙◌}
use mathlib.Core.Logic.{⊎_elim}
use native.Mathlib.Omega.{arith}
use native.Mathlib.Nat.{add-zero, eq-or-lt_of_le}
use native.Mathlib.Numerals.{lt_of_le_of_ne}
use lib.ListN.{length}
use lib.Dec.{ltb, eqb}
use borrow.Author.Tests.{ltb-true, ltb-false, eqb-true, eqb-false, eq-eqb}
use Rattle.model.specs.Words.{Each}
use Rattle.model.specs.State.{Tree, State, at, first_hash, end_of}
use Rattle.model.specs.Sound.{DepthsAdd, NodesFilled, Sound}
use Rattle.model.specs.Chained.{Child}
use Rattle.model.specs.Tree.{Seg, hash_at, child_from, child, agrees, matched, next_child, onward, walk, resolve, blocks}
use Rattle.theory_resolve.proofs.Halving.{matching_edge}
use Rattle.theory_resolve.proofs.Deep.{deep, deep-most, deep_drops}

-- ---- the next child

-- what is found among the n nodes from k on
abbrev FoundFrom : Tree → ℕ → ℕ → ℕ → ℕ → Option ℕ → Type 0
FoundFrom t p h k n None = Each k (k + n) (λ j. at t.parent j ≡ p → first_hash t j ≡ h → ⊥)
FoundFrom t p h k n (Some j) = (k ≤ j) × (j < k + n) × (at t.parent j ≡ p) × (first_hash t j ≡ h)

child-from : (t : Tree) (p h k n : ℕ) → FoundFrom t p h k n (child_from t p h k n)
unfolding child_from
child-from t p h k zero = λ j l u. absurd (omega arith)
child-from t p h k (suc n) = go (eqb (at t.parent k) p) (eqb (first_hash t k) h) refl refl (child_from t p h (suc k) n) (child-from t p h (suc k) n)
  where
    later : (o : Option ℕ) → ((at t.parent k ≡ p) → (first_hash t k ≡ h) → ⊥) → FoundFrom t p h (suc k) n o → FoundFrom t p h k (suc n) o
    later None not f = λ j l u a b. ⊎_elim (λ (e : k ≡ j). not (rw e a) (rw e b)) (λ (m : k < j). f j m (omega arith) a b) (eq-or-lt_of_le l)
    later (Some j) not f = (omega (arith, f.0), omega (arith, f.1), f.2, f.3)

    go : (x y : Bool) → eqb (at t.parent k) p ≡ x → eqb (first_hash t k) h ≡ y → (o : Option ℕ) → FoundFrom t p h (suc k) n o
        → FoundFrom t p h k (suc n) (elim (x && y) as (λ z. Option ℕ) [ true ↦ Some k | false ↦ o ])
    go true true a b o f = (omega arith, omega arith, eqb-true _ _ a, eqb-true _ _ b)
    go true false a b o f = later o (λ e. eqb-false _ _ b) f
    go false y a b o f = later o (λ e g. eqb-false _ _ a e) f

-- the child of p that goes on with the list from pos, or that there is none
abbrev pub Next : Tree → List ℕ → ℕ → ℕ → Option ℕ → Type 0
Next t hs pos p None = (k : ℕ) → Child t p k → pos < length hs → first_hash t k ≡ at hs pos → ⊥
Next t hs pos p (Some k) = Child t p k × (pos < length hs) × (first_hash t k ≡ at hs pos)

pub next-child : (t : Tree) (hs : List ℕ) (pos p : ℕ) → Next t hs pos p (next_child t hs pos p)
unfolding next_child child
next-child t hs pos p = go (ltb pos (length hs)) refl (child_from t p (at hs pos) 1 (t.nodes - 1)) (child-from t p (at hs pos) 1 (t.nodes - 1))
  where
    go : (b : Bool) → ltb pos (length hs) ≡ b → (o : Option ℕ) → FoundFrom t p (at hs pos) 1 (t.nodes - 1) o
        → Next t hs pos p (elim b as (λ z. Option ℕ) [ true ↦ o | false ↦ None ])
    go true e None f = λ k c l. f k c.not_root (omega (arith, c.in_use, c.not_root)) c.parent
    go true e (Some k) f = (record { not_root = f.0; in_use = omega (arith, f.0, f.1); parent = f.2 }, ltb-true _ _ e, f.3)
    go false e o f = λ k c l. absurd (omega (arith, ltb-false))

-- ---- one node

-- m blocks of p's child k match the list from pos on; if there is one more of both, that does not
pub record Enters (t : Tree) (hs : List ℕ) (pos p k m : ℕ) : Type 0 where
  pub child : Child t p k
  pub first : first_hash t k ≡ at hs pos
  pub filled : 1 ≤ m
  pub in_node : m ≤ at t.len k
  pub in_list : pos + m ≤ length hs
  pub last : at hs (pos + (m - 1)) ≡ hash_at t k (m - 1)
  pub next : m < at t.len k → pos + m < length hs → at hs (pos + m) ≡ hash_at t k m → ⊥

enters : (t : Tree) → NodesFilled t → (hs : List ℕ) (pos p k : ℕ) → Next t hs pos p (Some k) → Enters t hs pos p k (matched t hs pos k)
unfolding NodesFilled matched
enters t filled hs pos p k x =
    let c : ℕ = min (length hs - pos) (at t.len k) in
    let left : pos < length hs = x.1 in
    let full : 1 ≤ at t.len k = filled k x.0.not_root x.0.in_use in
    let e = matching_edge (agrees t hs pos k) c (omega arith) (eq-eqb (at hs (pos + 0)) (hash_at t k 0) (simp add-zero (sym x.2))) in
    record {
      child = x.0;
      first = x.2;
      filled = e.filled;
      in_node = omega (arith, e.within);
      in_list = omega (arith, e.within);
      last = eqb-true _ _ e.last;
      next = λ a b. eqb-false _ _ (e.next (omega arith));
    }

-- ---- the walk

-- ss is where a walk from below p and from pos on goes
pub data Walked (t : Tree) (hs : List ℕ) : ℕ → ℕ → List Seg → Type 0 where
  ends : {pos p : ℕ} → Next t hs pos p None → Walked t hs pos p []
  part : {pos p : ℕ} (k m : ℕ) → Enters t hs pos p k m → m < at t.len k → Walked t hs pos p (record { node = k; len = m } ∷ [])
  whole : {pos p : ℕ} (k m : ℕ) (ss : List Seg) → Enters t hs pos p k m → m ≡ at t.len k → Walked t hs (pos + m) k ss
      → Walked t hs pos p (record { node = k; len = m } ∷ ss)

walk_none : (t : Tree) (hs : List ℕ) (n pos : ℕ) → walk t hs n pos None ≡ []
unfolding walk
walk_none t hs zero pos = refl
walk_none t hs (suc n) pos = refl

walk_walked : (t : Tree) → NodesFilled t → (hs : List ℕ) (n pos p : ℕ) (o : Option ℕ) → length hs ≤ pos + n → Next t hs pos p o
    → Walked t hs pos p (walk t hs n pos o)
unfolding walk
walk_walked t filled hs zero pos p o f x = ends {pos = pos} {p = p} (λ k c l e. omega arith)
walk_walked t filled hs (suc n) pos p None f x = ends x
walk_walked t filled hs (suc n) pos p (Some k) f x =
    go (eqb m (at t.len k)) refl (λ l. walk_walked t filled hs n (pos + m) k (next_child t hs (pos + m) k) l (next-child t hs (pos + m) k))
  where
    m : ℕ
    m = matched t hs pos k

    e : Enters t hs pos p k m
    e = enters t filled hs pos p k x

    go : (b : Bool) → eqb m (at t.len k) ≡ b → (length hs ≤ pos + m + n → Walked t hs (pos + m) k (walk t hs n (pos + m) (next_child t hs (pos + m) k)))
        → Walked t hs pos p (record { node = k; len = m } ∷ walk t hs n (pos + m) (onward b t hs (pos + m) k))
    go true q ih = whole k m _ e (eqb-true _ _ q) (ih (omega (arith, e.filled)))
    go false q ih = rw walk_none (part k m e (lt_of_le_of_ne e.in_node (eqb-false _ _ q)))

pub resolve_walked : (t : Tree) → NodesFilled t → (hs : List ℕ) → Walked t hs 0 0 (resolve t hs)
unfolding resolve
resolve_walked t filled hs = walk_walked t filled hs (length hs) 0 0 (next_child t hs 0 0) (omega arith) (next-child t hs 0 0)

-- ---- what every walk has

-- a segment is 1 or more blocks of a node in use, not the root
pub record SegIn (t : Tree) (s : Seg) : Type 0 where
  pub not_root : 1 ≤ s.node
  pub in_use : s.node < t.nodes
  pub filled : 1 ≤ s.len
  pub ends : s.len ≤ at t.len s.node

seg_in : {t : Tree} {hs : List ℕ} {pos p k m : ℕ} → Enters t hs pos p k m → SegIn t (record { node = k; len = m })
seg_in e = record { not_root = e.child.not_root; in_use = e.child.in_use; filled = e.filled; ends = e.in_node }

abbrev pub SegsIn : Tree → List Seg → Type 0
SegsIn t [] = Unit {0}
SegsIn t (s ∷ ss) = SegIn t s × SegsIn t ss

module _ (t : Tree) (hs : List ℕ) where
  segs_in : {pos p : ℕ} {ss : List Seg} → Walked t hs pos p ss → SegsIn t ss
  segs_in (ends x) = tt
  segs_in (part k m e l) = (seg_in e, tt)
  segs_in (whole k m ss e l w) = (seg_in e, segs_in w)

  blocks-within : {pos p : ℕ} {ss : List Seg} → pos ≤ length hs → Walked t hs pos p ss → pos + blocks ss ≤ length hs
  unfolding blocks
  blocks-within h (ends x) = omega arith
  blocks-within h (part k m e l) = omega (arith, e.in_list)
  blocks-within h (whole k m ss e l w) = omega (arith, blocks-within e.in_list w)

  -- a walk enters a node at the node's depth, and goes on deeper
  falls : DepthsAdd t → {pos p k m : ℕ} → pos ≡ end_of t p → Enters t hs pos p k m
      → (pos ≡ at t.depth k) × (deep t.depth (pos + m) (t.nodes - 1) < deep t.depth pos (t.nodes - 1))
  unfolding DepthsAdd
  falls add {pos} {p} {k} {m} h e =
      let at-pos : pos ≡ at t.depth k = h ∙ sym (add k e.child.not_root e.child.in_use ∙ ap (end_of t) e.child.parent) in
      let below : k ≤ t.nodes - 1 = omega (arith, e.child.in_use) in
      (at-pos, deep_drops t.depth pos (pos + m) (t.nodes - 1) k e.child.not_root below (omega arith) (omega (arith, e.filled)))

  segs-few : DepthsAdd t → {pos p : ℕ} {ss : List Seg} → pos ≡ end_of t p → Walked t hs pos p ss → length ss ≤ deep t.depth pos (t.nodes - 1)
  segs-few add h (ends x) = omega arith
  segs-few add h (part k m e l) = omega (arith, (falls add h e).1)
  segs-few add h (whole k m ss e l w) = omega (arith, (falls add h e).1, segs-few add (omega (arith, (falls add h e).0)) w)

module _ (st : State) (s : Sound st) (hs : List ℕ) where
  pub resolve-segs : SegsIn st.tree (resolve st.tree hs)
  resolve-segs = segs_in _ hs (resolve_walked _ s.filled hs)

  pub resolve-within : blocks (resolve st.tree hs) ≤ length hs
  resolve-within = omega (arith, blocks-within _ hs (omega arith) (resolve_walked _ s.filled hs))

  -- fewer than nodes in use, the root counted
  pub resolve-few : length (resolve st.tree hs) < st.tree.nodes
  resolve-few =
      let top : end_of st.tree 0 ≡ 0 = omega (arith, s.root.len, s.root.depth) in
      let walked = resolve_walked st.tree s.filled hs in
      omega (arith, s.counts.root, deep-most st.tree.depth 0 (st.tree.nodes - 1), segs-few st.tree hs s.depths (sym top) walked)

  pub resolve_255 : length (resolve st.tree hs) ≤ 255
  resolve_255 = omega (arith, resolve-few, s.counts.nodes)
