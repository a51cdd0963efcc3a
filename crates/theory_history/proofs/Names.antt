-- In a sound tree every block has one name, and two blocks have two: a name read from the root goes down by the first hash of each child, and siblings
-- differ in it. Assumes nothing.
use Prim.Native.Nat.{ℕ, zero, suc, ◌+◌, ◌≤◌, ◌<◌, min}
use mathlib.Core.List.{List, [], ◌++◌, append_assoc}
use mathlib.Core.Path.{◌≡◌, refl, sym, ap, subst, ◌∙◌}
use mathlib.Core.Logic.{◌⊎◌, inl, inr, ⊎_elim}
use native.Mathlib.Omega.{arith}
use lib.ListN.{length, take, drop, length-append, length-take, length-drop, get_or-append}
use lib.Seq.{get_or-take, get_or-drop, drop-append_seam}
use native.Mathlib.Nat.{add-zero}
use borrow.Author.Tests.{ne_eqb}
use Rattle.model.specs.Sizes.{max_hashes}
use Rattle.model.specs.State.{Tree, at, first_hash, end_of}
use Rattle.model.specs.Sound.{ParentsInUse, DepthsAdd, EndsWithin, NodesFilled, RunsBelow, SiblingsDiffer}
use Rattle.model.specs.Chained.{hashes_of, Child}
use Rattle.theory_sound.specs.StoreSound.{TreeSound}
use Rattle.theory_history.specs.Names.{above, name_of}

-- from node p down: the hashes of the nodes on the way, and the first o + 1 of node n
pub data At (t : Tree) : ℕ → ℕ → ℕ → List ℕ → Type 0 where
  here : {p : ℕ} (n o : ℕ) → Child t p n → o < at t.len n → At t p n o (take (suc o) (hashes_of t n))
  below : {p : ℕ} (k n o : ℕ) (w : List ℕ) → Child t p k → At t k n o w → At t p n o (hashes_of t k ++ w)

-- the hashes from the root to the end of a node
pub data Above (t : Tree) : ℕ → List ℕ → Type 0 where
  root : Above t 0 []
  step : {p : ℕ} {ws : List ℕ} (k : ℕ) → Child t p k → Above t p ws → Above t k (ws ++ hashes_of t k)

zero_or : (k : ℕ) → (k ≡ 0) ⊎ (1 ≤ k)
zero_or zero = inl refl
zero_or (suc k) = inr (omega arith)

above_root : (t : Tree) (n : ℕ) → above t n 0 ≡ []
unfolding above
above_root t zero = refl
above_root t (suc n) = refl

above_step : (t : Tree) (n k : ℕ) → 1 ≤ k → above t (suc n) k ≡ above t n (at t.parent k) ++ hashes_of t k
unfolding above
above_step t n k low = rw (ne_eqb k 0 (λ (e : k ≡ 0). omega arith), above) refl

-- ---- the hashes of a node

module _ (t : Tree) (h : TreeSound t) where
  pub hashes_length : (k : ℕ) → 1 ≤ k → k < t.nodes → length (hashes_of t k) ≡ at t.len k
  unfolding RunsBelow
  hashes_length k low high =
      let r : at t.run k + at t.len k ≤ t.used = h.runs_below k low high in
      length-take (at t.len k) (drop (at t.run k) t.words)
      ∙ (ap (min (at t.len k)) (length-drop (at t.run k) t.words) ∙ omega (arith, h.used, h.lent.words))

  filled : (k : ℕ) → 1 ≤ k → k < t.nodes → 1 ≤ at t.len k
  unfolding NodesFilled
  filled k low high = h.filled k low high

  first_hash_lem : (k : ℕ) → 1 ≤ k → k < t.nodes → at (hashes_of t k) 0 ≡ first_hash t k
  first_hash_lem k low high =
      get_or-take (at t.len k) (drop (at t.run k) t.words) 0 0 (filled k low high)
      ∙ (get_or-drop (at t.run k) t.words 0 0 ∙ ap (at t.words) (add-zero (at t.run k)))

  -- the first hash of a name is that of the child it goes into
  into-child : (k : ℕ) (w : List ℕ) → 1 ≤ k → k < t.nodes → at (hashes_of t k ++ w) 0 ≡ first_hash t k
  into-child k w low high = get_or-append (hashes_of t k) w 0 0 (omega (arith, hashes_length k low high, filled k low high)) ∙ first_hash_lem k low high

  in_child : (k o : ℕ) → 1 ≤ k → k < t.nodes → at (take (suc o) (hashes_of t k)) 0 ≡ first_hash t k
  in_child k o low high = get_or-take (suc o) (hashes_of t k) 0 0 (omega arith) ∙ first_hash_lem k low high

  part_length : (k o : ℕ) → 1 ≤ k → k < t.nodes → o < at t.len k → length (take (suc o) (hashes_of t k)) ≡ suc o
  part_length k o low high l = length-take (suc o) (hashes_of t k) ∙ omega (arith, hashes_length k low high)

  same-child : (p j k : ℕ) → Child t p j → Child t p k → first_hash t j ≡ first_hash t k → j ≡ k
  unfolding SiblingsDiffer
  same-child p j k a b e = h.siblings j a.not_root a.in_use k b.not_root b.in_use (a.parent ∙ sym b.parent) e

  long : {p n o : ℕ} {w : List ℕ} → At t p n o w → 1 ≤ length w
  long (here n o c l) = omega (arith, part_length n o c.not_root c.in_use l)
  long (below k n o w c a) = rw (length-append (hashes_of t k) w) (omega (arith, hashes_length k c.not_root c.in_use, filled k c.not_root c.in_use))

  -- ---- one name, one block

  cancel : (j k : ℕ) (v w : List ℕ) → j ≡ k → hashes_of t j ++ v ≡ hashes_of t k ++ w → v ≡ w
  cancel j k v w e f =
      sym (drop-append_seam (hashes_of t j) v)
      ∙ (ap (drop (length (hashes_of t j))) (f ∙ ap (λ i. hashes_of t i ++ w) (sym e)) ∙ drop-append_seam (hashes_of t j) w)

  pub one_block : {p n o m q : ℕ} {v w : List ℕ} → At t p n o v → At t p m q w → v ≡ w → (n ≡ m) × (o ≡ q)
  one_block {p} (here n o c l) (here m q d k) e =
      let s : n ≡ m =
      same-child p n m c d (sym (in_child n o c.not_root c.in_use) ∙ (ap (λ x. at x 0) e ∙ in_child m q d.not_root d.in_use))
      in
      let f = ap length e in
      (s, omega (arith, part_length n o c.not_root c.in_use l, part_length m q d.not_root d.in_use k))
  one_block {p} (here n o c l) (below k m q w d b) e =
      let s : n ≡ k =
      same-child p n k c d (sym (in_child n o c.not_root c.in_use) ∙ (ap (λ x. at x 0) e ∙ into-child k w d.not_root d.in_use))
      in
      let f = sym (part_length n o c.not_root c.in_use l) ∙ (ap length e ∙ length-append (hashes_of t k) w) in
      let g = ap (λ x. at t.len x) s in
      absurd (omega (arith, hashes_length k d.not_root d.in_use, long b))
  one_block {p} (below k n o w c a) (here m q d l) e =
      let s : k ≡ m =
      same-child p k m c d (sym (into-child k w c.not_root c.in_use) ∙ (ap (λ x. at x 0) e ∙ in_child m q d.not_root d.in_use))
      in
      let f = sym (length-append (hashes_of t k) w) ∙ (ap length e ∙ part_length m q d.not_root d.in_use l) in
      let g = ap (λ x. at t.len x) s in
      absurd (omega (arith, hashes_length k c.not_root c.in_use, long a))
  one_block {p} (below k n o v c a) (below j m q w d b) e =
      let s : k ≡ j =
      same-child p k j c d (sym (into-child k v c.not_root c.in_use) ∙ (ap (λ x. at x 0) e ∙ into-child j w d.not_root d.in_use))
      in
      one_block a (subst (λ i. At t i m q w) (sym s) b) (cancel k j v w s e)

  -- ---- the name by parents

  above-one : {k : ℕ} {v w : List ℕ} → Above t k v → Above t k w → v ≡ w
  above-one root root = refl
  above-one root (step k c a) = absurd (omega (arith, c.not_root))
  above-one (step k c a) root = absurd (omega (arith, c.not_root))
  above-one (step {p = p} {ws = v} k c a) (step {p = q} {ws = w} j d b) =
      ap (λ x. x ++ hashes_of t k) (above-one a (subst (λ i. Above t i w) (sym d.parent ∙ c.parent) b))

  pub from-root : {p n o : ℕ} {v w : List ℕ} → Above t p v → At t p n o w → At t 0 n o (v ++ w)
  from-root root a = a
  from-root {p} {n} {o} {v} {w} (step {p = q} {ws = u} k c b) a =
      subst (At t 0 n o) (sym (append_assoc u (hashes_of t k) w)) (from-root b (below k n o w c a))

  child-of : (k : ℕ) → 1 ≤ k → k < t.nodes → Child t (at t.parent k) k
  child-of k low high = record { not_root = low; in_use = high; parent = refl }

  at-root : (n k : ℕ) → k ≡ 0 → Above t k (above t n k)
  at-root n k e = rw (e, above_root t n) root

  one_up : (n k : ℕ) → 1 ≤ k → k < t.nodes → at t.depth k < suc n
      → ((p : ℕ) → p < t.nodes → (1 ≤ p → at t.depth p < n) → Above t p (above t n p))
      → Above t k (above t (suc n) k)
  unfolding DepthsAdd ParentsInUse
  one_up n k low less d up =
      let p = at t.parent k in
      let e : at t.depth k ≡ end_of t p = h.depths k low less in
      let below : p < t.nodes = h.parents k low less in
      subst (Above t k) (sym (above_step t n k low)) (step k (child-of k low less) (up p below (λ l. omega (arith, filled p l below))))

  -- the way up from node k, where n is more than its depth
  above-is : (n k : ℕ) → k < t.nodes → (1 ≤ k → at t.depth k < n) → Above t k (above t n k)
  above-is zero k less d = ⊎_elim (λ (e : k ≡ 0). at-root 0 k e) (λ (l : 1 ≤ k). absurd (omega (arith, d l))) (zero_or k)
  above-is (suc n) k less d =
      ⊎_elim (λ (e : k ≡ 0). at-root (suc n) k e) (λ (l : 1 ≤ k). one_up n k l less (d l) (λ p below f. above-is n p below f)) (zero_or k)

  way_up : (n : ℕ) → 1 ≤ n → n < t.nodes → Above t (at t.parent n) (above t max_hashes (at t.parent n))
  unfolding EndsWithin ParentsInUse DepthsAdd
  way_up n low high =
      let p = at t.parent n in
      let below : p < t.nodes = h.parents n low high in
      let e : at t.depth n ≡ end_of t p = h.depths n low high in
      let f : end_of t n ≤ max_hashes = h.ends n low high in
      above-is max_hashes p below (λ k. omega (arith, filled p k below, filled n low high))

  -- every block has its name
  pub named : (n o : ℕ) → 1 ≤ n → n < t.nodes → o < at t.len n → At t 0 n o (name_of t n o)
  unfolding name_of
  named n o low high l = from-root (way_up n low high) (here n o (child-of n low high) l)

  name-from : {p n o : ℕ} {v w : List ℕ} → Above t p v → At t p n o w → name_of t n o ≡ v ++ w
  unfolding name_of
  name-from {v = v} a (here n o c l) =
      ap (λ x. x ++ take (suc o) (hashes_of t n))
      (above-one (way_up n c.not_root c.in_use) (subst (λ i. Above t i v) (sym c.parent) a))
  name-from {v = v} a (below k n o u c b) = name-from (step k c a) b ∙ append_assoc v (hashes_of t k) u

  -- and no other
  pub name-is : {n o : ℕ} {w : List ℕ} → At t 0 n o w → name_of t n o ≡ w
  name-is a = name-from root a

  pub same_name : (n o m q : ℕ) → 1 ≤ n → n < t.nodes → o < at t.len n → 1 ≤ m → m < t.nodes → q < at t.len m → name_of t n o ≡ name_of t m q
      → (n ≡ m) × (o ≡ q)
  same_name n o m q a b c d e f g = one_block (named n o a b c) (named m q d e f) g
