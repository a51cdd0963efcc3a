-- A cut and a leaf change no name: the way down to a block goes through the same hashes, after a cut of node j by way of its two halves. Assumes nothing.
use Prim.Native.Nat.{ℕ, suc, ◌+◌, ◌-◌, ◌≤◌, ◌<◌}
use mathlib.Core.List.{List, ◌++◌, append_assoc}
use mathlib.Core.Path.{◌≡◌, refl, sym, ap, subst, ◌∙◌}
use mathlib.Core.Logic.{inl, ◌≢◌}
use native.Mathlib.Omega.{arith}
use native.Mathlib.Nat.{le_refl}
use native.Mathlib.Decide.{ℕ_discrete}
use lib.ListN.{length, take, drop}
use lib.Seq.{take-append-le, take-append-add, take-add, drop-drop}
use borrow.Author.Tests.{eq-eqb, ne_eqb}
use Rattle.model.specs.Sizes.{max_words}
use Rattle.model.specs.State.{Tree, at}
use Rattle.model.specs.Sound.{RunsBelow}
use Rattle.model.specs.Chained.{hashes_of, Child}
use Rattle.model.specs.Store.{lay}
use Rattle.model.specs.Insert.{adopt}
use Rattle.theory_lay.proofs.Lay.{lay_window}
use Rattle.theory_sound.specs.StoreSound.{TreeSound}
use Rattle.theory_cut.proofs.CutTree.{CutTo}
use Rattle.theory_cut.proofs.Leaf.{LeafTo}
use Rattle.theory_history.specs.Names.{name_of}
use Rattle.theory_history.proofs.Names.{At, here, below, named, name-is, hashes_length}

-- ---- a leaf

module _ {p d : ℕ} {rest : List ℕ} {t u : Tree} (h : TreeSound t) (c : LeafTo p d rest t u) (words : u.words ≡ lay 0 t.used (length rest) rest t.words)
    (room : t.used + length rest ≤ max_words) where
  leaf_hashes : (k : ℕ) → 1 ≤ k → k < t.nodes → hashes_of u k ≡ hashes_of t k
  unfolding RunsBelow
  leaf_hashes k low high =
      let r : at t.run k + at t.len k ≤ t.used = h.runs_below k low high in
      rw (c.len k high, c.run k high, words)
      (lay_window 0 t.used (length rest) rest t.words (le_refl (length rest)) (omega (arith, h.lent.words)) (at t.run k) (at t.len k) (inl r))

  leaf_child : (q k : ℕ) → Child t q k → Child u q k
  leaf_child q k a = record { not_root = a.not_root; in_use = omega (arith, a.in_use, c.nodes); parent = c.parent k a.in_use ∙ a.parent }

  leaf_at : {q n o : ℕ} {w : List ℕ} → At t q n o w → At u q n o w
  leaf_at {q} (here n o a l) =
      subst (At u q n o) (ap (take (suc o)) (leaf_hashes n a.not_root a.in_use)) (here n o (leaf_child q n a) (rw (c.len n a.in_use) l))
  leaf_at {q} (below k n o w a b) =
      subst (At u q n o) (ap (λ x. x ++ w) (leaf_hashes k a.not_root a.in_use)) (below k n o w (leaf_child q k a) (leaf_at b))

  pub leaf_name : TreeSound u → (n o : ℕ) → 1 ≤ n → n < t.nodes → o < at t.len n → name_of u n o ≡ name_of t n o
  leaf_name k n o low high l = name-is u k (leaf_at (named t h n o low high l))

-- ---- a cut of node j at k

adopt-other : (j m p : ℕ) → p ≢ j → adopt j m p ≡ p
adopt-other j m p d = rw (ne_eqb p j d, adopt) refl

adopt-own : (j m : ℕ) → adopt j m j ≡ m
adopt-own j m = rw (eq-eqb j j refl, adopt) refl

module _ {j k : ℕ} {t u : Tree} (h : TreeSound t) (v : TreeSound u) (low : 1 ≤ j) (in_use : j < t.nodes) (some : 0 < k) (inside : k < at t.len j) (c : CutTo j k t u) where
  abbrev m : ℕ
  m = t.nodes

  same_hashes : (i : ℕ) → i < t.nodes → i ≢ j → hashes_of u i ≡ hashes_of t i
  same_hashes i less d = rw (c.len i less d, c.run i less, c.words) refl

  halves : hashes_of t j ≡ hashes_of u j ++ hashes_of u m
  halves =
      let l = drop (at t.run j) t.words in
      let e : k + (at t.len j - k) ≡ at t.len j = omega arith in
      ap (λ x. take x l) (sym e)
      ∙ (take-add k (at t.len j - k) l
      ∙ rw (c.head, c.run j in_use, c.new_len, c.new_run, c.words, drop-drop k (at t.run j) t.words) refl)

  head_length : length (hashes_of u j) ≡ k
  head_length = hashes_length u v j low (omega (arith, c.nodes)) ∙ c.head

  into-same : (q i : ℕ) → Child t q i → Child u (adopt j m q) i
  into-same q i a =
      record {
        not_root = a.not_root;
        in_use = omega (arith, a.in_use, c.nodes);
        parent = c.parent i a.not_root a.in_use ∙ ap (adopt j m) a.parent;
      }

  into_new : Child u j m
  into_new = record { not_root = omega arith; in_use = omega (arith, c.nodes); parent = c.new_parent }

  -- through node i, which may be j
  through : (q i n o : ℕ) (w : List ℕ) → Child t q i → At u (adopt j m i) n o w → At u (adopt j m q) n o (hashes_of t i ++ w)
  through q i n o w a b = go (ℕ_discrete i j)
    where
      go : Dec (i ≡ j) → At u (adopt j m q) n o (hashes_of t i ++ w)
      go (yes e) =
          let x : At u m n o w = subst (λ z. At u z n o w) (ap (adopt j m) e ∙ adopt-own j m) b in
          let y : At u (adopt j m q) n o (hashes_of u j ++ (hashes_of u m ++ w)) =
          below j n o (hashes_of u m ++ w) (into-same q j (subst (Child t q) e a)) (below m n o w into_new x)
          in
          subst (At u (adopt j m q) n o)
          (sym (append_assoc (hashes_of u j) (hashes_of u m) w) ∙ ap (λ z. z ++ w) (sym halves ∙ ap (hashes_of t) (sym e))) y
      go (no d) =
          subst (At u (adopt j m q) n o) (ap (λ z. z ++ w) (same_hashes i a.in_use d))
          (below i n o w (into-same q i a) (subst (λ z. At u z n o w) (adopt-other j m i d) b))

  head-here : (q o : ℕ) → Child t q j → o < k → At u (adopt j m q) j o (take (suc o) (hashes_of t j))
  head-here q o a l =
      subst (At u (adopt j m q) j o)
      (sym (take-append-le (suc o) (hashes_of u j) (hashes_of u m) (omega (arith, head_length))) ∙ ap (take (suc o)) (sym halves))
      (here j o (into-same q j a) (rw c.head l))

  stay_at : {q n o : ℕ} {w : List ℕ} → At t q n o w → (n ≡ j → o < k) → At u (adopt j m q) n o w
  stay_at {q} (here n o a l) f = go (ℕ_discrete n j)
    where
      go : Dec (n ≡ j) → At u (adopt j m q) n o (take (suc o) (hashes_of t n))
      go (yes e) =
          subst (λ z. At u (adopt j m q) z o (take (suc o) (hashes_of t z))) (sym e) (head-here q o (subst (Child t q) e a) (f e))
      go (no d) =
          subst (At u (adopt j m q) n o) (ap (take (suc o)) (same_hashes n a.in_use d))
          (here n o (into-same q n a) (rw (c.len n a.in_use d) l))
  stay_at {q} (below i n o w a b) f = through q i n o w a (stay_at b f)

  tail-here : (q o : ℕ) → Child t q j → k + o < at t.len j → At u (adopt j m q) m o (take (suc (k + o)) (hashes_of t j))
  tail-here q o a l =
      let e : length (hashes_of u j) + suc o ≡ suc (k + o) = omega (arith, head_length) in
      subst (At u (adopt j m q) m o)
      (sym (take-append-add (hashes_of u j) (hashes_of u m) (suc o)) ∙ (ap (λ z. take z (hashes_of u j ++ hashes_of u m)) e ∙ ap (take (suc (k + o))) (sym halves)))
      (below j m o (take (suc o) (hashes_of u m)) (into-same q j a) (here m o into_new (rw c.new_len (omega arith))))

  move_at : {q n p : ℕ} {w : List ℕ} → At t q n p w → (o : ℕ) → n ≡ j → p ≡ k + o → At u (adopt j m q) m o w
  move_at {q} (here n p a l) o e f =
      subst (λ z. At u (adopt j m q) m o (take (suc z) (hashes_of t n))) (sym f)
      (subst (λ z. At u (adopt j m q) m o (take (suc (k + o)) (hashes_of t z))) (sym e)
      (tail-here q o (subst (Child t q) e a) (subst (λ z. z < at t.len j) f (subst (λ z. p < at t.len z) e l))))
  move_at {q} (below i n p w a b) o e f = through q i m o w a (move_at b o e f)

  at-root : {n o : ℕ} {w : List ℕ} → At u (adopt j m 0) n o w → At u 0 n o w
  at-root {n} {o} {w} a = subst (λ z. At u z n o w) (adopt-other j m 0 (omega arith)) a

  pub stay_name : (n o : ℕ) → 1 ≤ n → n < t.nodes → o < at t.len n → (n ≡ j → o < k) → name_of u n o ≡ name_of t n o
  stay_name n o a b l f = name-is u v (at-root (stay_at (named t h n o a b l) f))

  pub move_name : (o : ℕ) → k + o < at t.len j → name_of u m o ≡ name_of t j (k + o)
  move_name o l = name-is u v (at-root (move_at (named t h j (k + o) low in_use l) o refl refl))
