-- On a chained list resolve finds the longest stored prefix: a stored path that agrees with the list for longer than a node matches goes through that node,
-- since siblings differ in their first hash; and a node of a chained list that agrees at one position agrees at all earlier ones. Assumes nothing.
use Prim.Native.Nat.{ℕ, ◌+◌, ◌-◌, ◌≤◌, ◌<◌}
use mathlib.Core.Bool.{Bool, true, false}
use mathlib.Core.List.{List, [], ◌++◌}
use Rattle.std.specs.Prelude.{None}
use mathlib.Core.Path.{◌≡◌, refl, sym, ◌∙◌, subst}
use mathlib.Core.Logic.{◌⊎◌, inl, inr, ⊎_elim}
use native.Mathlib.Omega.{arith}
use native.Mathlib.Nat.{add-zero, zero-add, add_assoc, eq-or-lt_of_le}
use lib.Dec.{leb}
use lib.ListN.{length, length-append, length-take, length-drop, get_or-append}
use lib.Seq.{get_or-take, get_or-drop, get_or-append-add}
use borrow.Author.Tests.{leb-true, leb-false}
use Rattle.model.specs.State.{Tree, State, at, first_hash}
use Rattle.model.specs.Sound.{EachNode, NodesFilled, RunsBelow, SiblingsDiffer, Sound}
use Rattle.model.specs.Chained.{hashes_of, Child, Down, stop, into, SamePrefix, Chained, LongestStored}
use Rattle.model.specs.Tree.{Seg, hash_at, resolve, blocks}
use Rattle.theory_resolve.proofs.Walked.{Next, Enters, Walked, ends, part, whole, resolve_walked}

-- all that is needed of the tree
pub record TreeFacts (t : Tree) : Type 0 where
  pub filled : NodesFilled t
  pub runs : EachNode t (λ k. at t.run k + at t.len k ≤ length t.words)
  pub siblings : SiblingsDiffer t

-- ---- the same as `SamePrefix`, `Chained` and `LongestStored`, below p and for the list from pos on

record SameFrom (hs : List ℕ) (pos n : ℕ) (path : List ℕ) : Type 0 where
  in_left : n ≤ length path
  in_right : pos + n ≤ length hs
  equal : (i : ℕ) → i < n → at path i ≡ at hs (pos + i)

ChainedFrom : Tree → List ℕ → ℕ → ℕ → Type 0
ChainedFrom t hs pos p =
    (path : List ℕ) → Down t p path → (i j : ℕ) → i ≤ j → j < length path → pos + j < length hs → at path j ≡ at hs (pos + j) → at path i ≡ at hs (pos + i)

record LongestFrom (t : Tree) (hs : List ℕ) (pos p n : ℕ) : Type 0 where
  path : List ℕ
  stored : Down t p path
  same : SameFrom hs pos n path
  longest : (other : List ℕ) → Down t p other → (k : ℕ) → SameFrom hs pos k other → k ≤ n

-- beyond the m blocks that match of node k: all of k's match, and n more of a path below it
record Beyond (t : Tree) (hs : List ℕ) (pos k m n : ℕ) : Type 0 where
  whole : m ≡ at t.len k
  path : List ℕ
  below : Down t k path
  same : SameFrom hs (pos + m) n path

le_or_lt : (a b : ℕ) → (a ≤ b) ⊎ (b < a)
le_or_lt a b = go (leb a b) refl
  where
    go : (x : Bool) → leb a b ≡ x → (a ≤ b) ⊎ (b < a)
    go true e = inl (leb-true a b e)
    go false e = inr (leb-false a b e)

module _ (t : Tree) (facts : TreeFacts t) (hs : List ℕ) where
  -- ---- a path that begins with a node

  hashes_length : {p k : ℕ} → Child t p k → length (hashes_of t k) ≡ at t.len k
  hashes_length {k = k} c = rw (length-take, length-drop) (omega (arith, facts.runs k c.not_root c.in_use))

  module _ {p k : ℕ} (c : Child t p k) (ys : List ℕ) where
    path_length : length (hashes_of t k ++ ys) ≡ at t.len k + length ys
    path_length = rw (length-append, hashes_length c)

    path-here : (i : ℕ) → i < at t.len k → at (hashes_of t k ++ ys) i ≡ hash_at t k i
    path-here i h = get_or-append (hashes_of t k) ys 0 i (rw (hashes_length c) h) ∙ rw (get_or-take, get_or-drop)

    path-after : (m i : ℕ) → m ≡ at t.len k → at (hashes_of t k ++ ys) (m + i) ≡ at ys i
    path-after m i q = rw q (rw (hashes_length c) at (get_or-append-add (hashes_of t k) ys i 0))

    path-first : (pos n : ℕ) → SameFrom hs pos n (hashes_of t k ++ ys) → 0 < n → first_hash t k ≡ at hs pos
    unfolding NodesFilled
    path-first pos n s h = simp add-zero at (sym (path-here 0 (facts.filled k c.not_root c.in_use)) ∙ s.equal 0 h)

  -- ---- no path agrees for longer

  none-agrees : {pos p n : ℕ} {path : List ℕ} → Next t hs pos p None → Down t p path → SameFrom hs pos n path → n ≤ 0
  none-agrees x stop s = s.in_left
  none-agrees {pos} {n = n} x (into k ys c d) s =
      ⊎_elim (λ (z : n ≤ 0). z) (λ (z : 0 < n). absurd (x k c (omega (arith, s.in_right)) (path-first c ys pos n s z))) (le_or_lt n 0)

  goes_beyond : {pos p k m n : ℕ} {ys : List ℕ} → Enters t hs pos p k m → Down t k ys → m < n → SameFrom hs pos n (hashes_of t k ++ ys)
      → Beyond t hs pos k m (n - m)
  goes_beyond {pos} {k = k} {m} {n} {ys} e d h s = go (eq-or-lt_of_le e.in_node)
    where
      go : (m ≡ at t.len k) ⊎ (m < at t.len k) → Beyond t hs pos k m (n - m)
      go (inl q) =
          record {
            whole = q;
            path = ys;
            below = d;
            same = record {
              in_left = omega (arith, s.in_left, path_length e.child ys);
              in_right = omega (arith, s.in_right);
              equal = λ i l. sym (path-after e.child ys m i q) ∙ s.equal (m + i) (omega arith) ∙ rw add_assoc;
            };
          }
      go (inr l) = absurd (e.next l (omega (arith, s.in_right)) (sym (s.equal m h) ∙ path-here e.child ys m l))

  -- a path agrees for no longer than the node entered, or goes through that node
  agrees_or : {pos p k m n : ℕ} {path : List ℕ} → Enters t hs pos p k m → Down t p path → SameFrom hs pos n path → (n ≤ m) ⊎ Beyond t hs pos k m (n - m)
  unfolding SiblingsDiffer
  agrees_or e stop s = inl (omega (arith, s.in_left))
  agrees_or {pos} {p} {k} {m} {n} e (into j ys c d) s = ⊎_elim inl (λ l. inr (past l)) (le_or_lt n m)
    where
      past : m < n → Beyond t hs pos k m (n - m)
      past l =
          let b = e.child in
          let first = path-first c ys pos n s (omega arith) ∙ sym e.first in
          let same : j ≡ k = facts.siblings j c.not_root c.in_use k b.not_root b.in_use (c.parent ∙ sym b.parent) first in
          goes_beyond e (rw same at d) l (rw same at s)

  -- ---- and one agrees for as long

  chained_below : {pos p k m : ℕ} → ChainedFrom t hs pos p → Enters t hs pos p k m → m ≡ at t.len k → ChainedFrom t hs (pos + m) k
  unfolding ChainedFrom
  chained_below {k = k} {m} ch e q ys d i j a b l x =
      sym (path-after e.child ys m i q)
      ∙ ch (hashes_of t k ++ ys) (into k ys e.child d) (m + i) (m + j) (omega arith) (omega (arith, path_length e.child ys)) (omega arith)
      (path-after e.child ys m j q ∙ (rw add_assoc at x))
      ∙ rw add_assoc

  -- a path through the node entered agrees for as long as the node does, and further if what is below does
  covers : {pos p k m : ℕ} {ys : List ℕ} → ChainedFrom t hs pos p → Enters t hs pos p k m → Down t k ys → SameFrom hs pos m (hashes_of t k ++ ys)
  unfolding ChainedFrom
  covers {pos} {k = k} {m} {ys} ch e d =
      let size = path_length e.child ys in
      record {
        in_left = omega (arith, e.in_node);
        in_right = e.in_list;
        equal = λ i h.
            ch (hashes_of t k ++ ys) (into k ys e.child d) i (m - 1) (omega arith) (omega (arith, e.in_node)) (omega (arith, e.in_list))
            (path-here e.child ys (m - 1) (omega (arith, e.in_node)) ∙ sym e.last);
      }

  covers_on : {pos p k m n : ℕ} {ys : List ℕ} → Child t p k → m ≡ at t.len k → SameFrom hs pos m (hashes_of t k ++ ys) → SameFrom hs (pos + m) n ys
      → SameFrom hs pos (m + n) (hashes_of t k ++ ys)
  covers_on {pos} {k = k} {m} {n} {ys} c q s r =
      record {
        in_left = omega (arith, path_length c ys, r.in_left);
        in_right = omega (arith, r.in_right);
        equal = λ i h. ⊎_elim (λ (l : m ≤ i). after i h l) (s.equal i) (le_or_lt m i);
      }
    where
      after : (i : ℕ) → i < m + n → m ≤ i → at (hashes_of t k ++ ys) i ≡ at hs (pos + i)
      after i h l =
          let back : m + (i - m) ≡ i = omega arith in
          subst (λ (j : ℕ). at (hashes_of t k ++ ys) j ≡ at hs (pos + j)) back (path-after c ys m (i - m) q ∙ r.equal (i - m) (omega arith) ∙ rw add_assoc)

  walked_longest : {pos p : ℕ} {ss : List Seg} → ChainedFrom t hs pos p → pos ≤ length hs → Walked t hs pos p ss → LongestFrom t hs pos p (blocks ss)
  unfolding blocks
  walked_longest ch h (ends x) =
      record {
        path = [];
        stored = stop;
        same = record { in_left = omega arith; in_right = omega arith; equal = λ i l. absurd (omega arith) };
        longest = λ other d n. none-agrees x d;
      }
  walked_longest ch h (part k m e l) =
      rw add-zero record {
        path = hashes_of t k ++ [];
        stored = into k [] e.child stop;
        same = covers ch e stop;
        longest = λ other d n s. ⊎_elim (λ (z : n ≤ m). z) (λ b. absurd (omega (arith, b.whole))) (agrees_or e d s);
      }
  walked_longest ch h (whole k m ss e l w) =
      let r = walked_longest (chained_below ch e l) e.in_list w in
      record {
        path = hashes_of t k ++ r.path;
        stored = into k r.path e.child r.stored;
        same = covers_on e.child l (covers ch e r.stored) r.same;
        longest = λ other d n s.
            ⊎_elim (λ (z : n ≤ m). omega arith) (λ b. omega (arith, r.longest b.path b.below (n - m) b.same)) (agrees_or e d s);
      }

-- ---- the theorem

from_start : {hs path : List ℕ} {n : ℕ} → SameFrom hs 0 n path → SamePrefix n path hs
from_start s = record { in_left = s.in_left; in_right = omega (arith, s.in_right); equal = λ i h. simp zero-add at (s.equal i h) }

to_start : {hs path : List ℕ} {n : ℕ} → SamePrefix n path hs → SameFrom hs 0 n path
to_start s = record { in_left = s.in_left; in_right = omega (arith, s.in_right); equal = λ i h. simp zero-add (s.equal i h) }

pub tree-longest : (t : Tree) → TreeFacts t → (hs : List ℕ) → Chained t hs → LongestStored t hs (blocks (resolve t hs))
unfolding Chained ChainedFrom
tree-longest t facts hs ch =
    let r = walked_longest t facts hs (simp zero-add ch) (omega arith) (resolve_walked t facts.filled hs) in
    record { path = r.path; stored = r.stored; same = from_start r.same; longest = λ other d k s. r.longest other d k (to_start s) }

pub resolve-longest : (st : State) → Sound st → (hs : List ℕ) → Chained st.tree hs → LongestStored st.tree hs (blocks (resolve st.tree hs))
unfolding RunsBelow
resolve-longest st s hs ch =
    tree-longest st.tree record {
      filled = s.filled;
      runs = λ k a b. omega (arith, s.runs_below k a b, s.counts.used, s.lent.tree.words);
      siblings = s.siblings;
    } hs ch
