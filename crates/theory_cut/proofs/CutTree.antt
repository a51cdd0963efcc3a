-- The tree's half of a cut: what each column has afterwards, as a record, and from that record that the tree stays sound. Assumes nothing.
use Prim.Native.Nat.{ℕ, zero, suc, ◌+◌, ◌-◌, ◌≤◌, ◌<◌}
use mathlib.Core.Path.{◌≡◌, refl, sym, ap, ◌∙◌}
use mathlib.Core.Logic.{◌⊎◌, inl, inr, ⊎_elim, ◌≢◌}
use mathlib.Core.Bool.{Bool, true, false}
use mathlib.Core.List.{List, [], ◌∷◌, map}
use native.Mathlib.Omega.{arith}
use native.Mathlib.Decide.{ℕ_discrete}
use lib.ListN.{length, take, set, length-append, length-take, length-drop, length-set, length-map, get_or-append}
use lib.Seq.{get_or-set_same, get_or-set_other, get_or-take}
use lib.Dec.{eqb}
use Rattle.model.specs.Words.{Says}
use Rattle.model.specs.Sizes.{max_nodes, max_hashes}
use Rattle.model.specs.State.{Tree, at, first_hash, end_of}
use Rattle.model.specs.Sound.{TreeLent, ParentsInUse, DepthsAdd, EndsWithin, NodesFilled, RunsBelow, InRun, RunsApart, SiblingsDiffer}
use Rattle.model.specs.Insert.{adopt, reparent, cut_tree}
use Rattle.theory_refuse.proofs.Says.{eq_sure}
use Rattle.theory_sound.specs.StoreSound.{TreeSound}
use Rattle.theory_cut.proofs.Facts.{each_more}

-- ---- what a cut of node j at k does; the new node has the number of those in use

pub record CutTo (j k : ℕ) (t u : Tree) : Type 0 where
  pub nodes : u.nodes ≡ suc t.nodes
  pub used : u.used ≡ t.used
  pub words : u.words ≡ t.words
  pub new_parent : at u.parent t.nodes ≡ j
  pub new_depth : at u.depth t.nodes ≡ at t.depth j + k
  pub new_len : at u.len t.nodes ≡ at t.len j - k
  pub new_run : at u.run t.nodes ≡ at t.run j + k
  pub parent : (i : ℕ) → 1 ≤ i → i < t.nodes → at u.parent i ≡ adopt j t.nodes (at t.parent i)
  pub depth : (i : ℕ) → i < t.nodes → at u.depth i ≡ at t.depth i
  pub head : at u.len j ≡ k
  pub len : (i : ℕ) → i < t.nodes → i ≢ j → at u.len i ≡ at t.len i
  pub run : (i : ℕ) → i < t.nodes → at u.run i ≡ at t.run i

-- ---- the columns

map_at : (f : ℕ → ℕ) (l : List ℕ) (i : ℕ) → i < length l → at (map f l) i ≡ f (at l i)
map_at f [] i h = absurd (omega arith)
map_at f (x ∷ l) zero h = refl
map_at f (x ∷ l) (suc i) h = map_at f l i (omega arith)

reparent_length : (j m n : ℕ) (l : List ℕ) → 1 ≤ n → n ≤ length l → length (reparent j m n l) ≡ length l
unfolding reparent
reparent_length j m n l h k = simp (length-append, length-map, length-take, length-drop) (omega arith)

reparent-at : (j m n : ℕ) (l : List ℕ) (i : ℕ) → 1 ≤ i → i < n → n ≤ length l → at (reparent j m n l) i ≡ adopt j m (at l i)
unfolding reparent
reparent-at j m n [] i a b c = absurd (omega arith)
reparent-at j m n (x ∷ l) zero a b c = absurd (omega arith)
reparent-at j m n (x ∷ l) (suc i) a b c =
    get_or-append (map (adopt j m) (take (n - 1) l)) _ 0 i (simp (length-map, length-take) (omega arith))
    ∙ map_at (adopt j m) (take (n - 1) l) i (simp length-take (omega arith))
    ∙ ap (adopt j m) (get_or-take (n - 1) l i 0 (omega arith))

module _ (j k : ℕ) (t : Tree) (lent : TreeLent t) (low : 1 ≤ j) (in_use : j < t.nodes) (room : t.nodes < max_nodes) where
  same_length : length (reparent j t.nodes t.nodes t.parent) ≡ length t.parent
  same_length = reparent_length j t.nodes t.nodes t.parent (omega arith) (omega (arith, lent.parent))

  pub cut_to : CutTo j k t (cut_tree j k t)
  unfolding cut_tree
  cut_to =
      let m : ℕ = t.nodes in
      record {
        nodes = refl;
        used = refl;
        words = refl;
        new_parent = get_or-set_same (reparent j m m t.parent) m j 0 (omega (arith, same_length, lent.parent));
        new_depth = get_or-set_same t.depth m _ 0 (omega (arith, lent.depth));
        new_len = get_or-set_same (set t.len j k) m _ 0 (rw length-set (omega (arith, lent.len)));
        new_run = get_or-set_same t.run m _ 0 (omega (arith, lent.run));
        parent = λ i a b.
            get_or-set_other (reparent j m m t.parent) m i j 0 (omega arith) ∙ reparent-at j m m t.parent i a b (omega (arith, lent.parent));
        depth = λ i b. get_or-set_other t.depth m i _ 0 (omega arith);
        head = get_or-set_other (set t.len j k) m j _ 0 (omega arith) ∙ get_or-set_same t.len j k 0 (omega (arith, lent.len));
        len = λ i b c. get_or-set_other (set t.len j k) m i _ 0 (omega arith) ∙ get_or-set_other t.len j i k 0 c;
        run = λ i b. get_or-set_other t.run m i _ 0 (omega arith);
      }

  cut-lent : TreeLent (cut_tree j k t)
  unfolding cut_tree
  cut-lent =
      record {
        parent = rw (length-set, same_length) lent.parent;
        depth = rw length-set lent.depth;
        len = rw (length-set, length-set) lent.len;
        run = rw length-set lent.run;
        words = lent.words;
      }

-- ---- soundness

-- a child of j moves under m, and no other
adopted : (j m p : ℕ) → ((p ≡ j) × (adopt j m p ≡ m)) ⊎ ((p ≢ j) × (adopt j m p ≡ p))
adopted j m p = go (eqb p j) (eq_sure p j).says
  where
    go : (b : Bool) → Says b (p ≡ j)
        → ((p ≡ j) × ((elim b as (λ z. ℕ) [ true ↦ m | false ↦ p ]) ≡ m)) ⊎ ((p ≢ j) × ((elim b as (λ z. ℕ) [ true ↦ m | false ↦ p ]) ≡ p))
    go true h = inl (h, refl)
    go false h = inr (h, refl)

module _ {j k : ℕ} {t u : Tree} (s : TreeSound t) (low : 1 ≤ j) (in_use : j < t.nodes) (some : 0 < k) (inside : k < at t.len j) (c : CutTo j k t u) where
  adopted-below : (p : ℕ) → p < t.nodes → adopt j t.nodes p < u.nodes
  adopted-below p h =
      ⊎_elim (λ (a : (p ≡ j) × (adopt j t.nodes p ≡ t.nodes)). omega (arith, c.nodes, a.1))
      (λ (a : (p ≢ j) × (adopt j t.nodes p ≡ p)). omega (arith, c.nodes, a.1)) (adopted j t.nodes p)

  -- lengths only fall, and the place where an old node's children stand is the same
  shorter : (i : ℕ) → i < t.nodes → at u.len i ≤ at t.len i
  shorter i h = go (ℕ_discrete i j)
    where
      go : Dec (i ≡ j) → at u.len i ≤ at t.len i
      go (yes e) = rw e (omega (arith, c.head))
      go (no n) = omega (arith, c.len i h n)

  same_end : (p : ℕ) → p < t.nodes → end_of u (adopt j t.nodes p) ≡ end_of t p
  same_end p h =
      ⊎_elim
      (λ (a : (p ≡ j) × (adopt j t.nodes p ≡ t.nodes)). rw (a.1, a.0) (omega (arith, c.new_depth, c.new_len)))
      (λ (a : (p ≢ j) × (adopt j t.nodes p ≡ p)). rw a.1 (omega (arith, c.depth p h, c.len p h a.0)))
      (adopted j t.nodes p)

  pub head-end : end_of u j ≡ at t.depth j + k
  head-end = omega (arith, c.depth j in_use, c.head)

  cut-parents : ParentsInUse u
  unfolding ParentsInUse
  cut-parents =
      each_more (λ i. at u.parent i < u.nodes) c.nodes (omega (arith, c.nodes, c.new_parent))
      (λ i l h. rw (c.parent i l h) (adopted-below (at t.parent i) (s.parents i l h)))

  cut-depths : DepthsAdd u
  unfolding ParentsInUse DepthsAdd
  cut-depths =
      each_more (λ i. at u.depth i ≡ end_of u (at u.parent i)) c.nodes (rw c.new_parent (c.new_depth ∙ sym head-end))
      (λ i l h. rw (c.parent i l h) (c.depth i h ∙ s.depths i l h ∙ sym (same_end (at t.parent i) (s.parents i l h))))

  cut-ends : EndsWithin u
  unfolding EndsWithin
  cut-ends =
      each_more (λ i. end_of u i ≤ max_hashes) c.nodes (omega (arith, c.new_depth, c.new_len, s.ends j low in_use))
      (λ i l h. omega (arith, c.depth i h, shorter i h, s.ends i l h))

  cut-filled : NodesFilled u
  unfolding NodesFilled
  cut-filled = each_more (λ i. 1 ≤ at u.len i) c.nodes (omega (arith, c.new_len)) (λ i l h. go i l h (ℕ_discrete i j))
    where
      go : (i : ℕ) → 1 ≤ i → i < t.nodes → Dec (i ≡ j) → 1 ≤ at u.len i
      go i l h (yes e) = rw e (omega (arith, c.head))
      go i l h (no n) = omega (arith, c.len i h n, s.filled i l h)

  cut_below : RunsBelow u
  unfolding RunsBelow
  cut_below =
      each_more (λ i. at u.run i + at u.len i ≤ u.used) c.nodes (omega (arith, c.new_run, c.new_len, c.used, s.runs_below j low in_use))
      (λ i l h. omega (arith, c.run i h, shorter i h, c.used, s.runs_below i l h))

  -- a word of an old node's run was there before; one of the new node's was in j's, at or above k
  was_in : (i w : ℕ) → i < t.nodes → InRun u i w → InRun t i w
  was_in i w h r = record { low = omega (arith, c.run i h, r.low); high = omega (arith, c.run i h, shorter i h, r.high) }

  was-tail : (w : ℕ) → InRun u t.nodes w → InRun t j w
  was-tail w r = record { low = omega (arith, c.new_run, r.low); high = omega (arith, c.new_run, c.new_len, r.high) }

  head_not_tail : (i w : ℕ) → 1 ≤ i → i < t.nodes → InRun u i w → InRun u t.nodes w → ⊥
  unfolding RunsApart
  head_not_tail i w l h r q =
      let e : i ≡ j = s.runs_apart w i l h j low in_use (was_in i w h r) (was-tail w q) in
      let b : w < at u.run j + at u.len j = rw (← e) r.high in
      omega (arith, c.run j in_use, c.head, c.new_run, q.low)

  cut_apart : RunsApart u
  unfolding RunsApart
  cut_apart w =
      each_more _ c.nodes (each_more _ c.nodes (λ r q. refl) (λ i l h r q. absurd (head_not_tail i w l h q r)))
      (λ i l h. each_more _ c.nodes (λ r q. absurd (head_not_tail i w l h r q))
      (λ i' l' h' r q. s.runs_apart w i l h i' l' h' (was_in i w h r) (was_in i' w h' q)))

  same_first : (i : ℕ) → i < t.nodes → first_hash u i ≡ first_hash t i
  same_first i h = rw (c.words, c.run i h)

  -- j's only child is the new node, and the old nodes are siblings as they were
  pub only_child : (i : ℕ) → 1 ≤ i → i < t.nodes → at u.parent i ≢ j
  only_child i l h e =
      ⊎_elim (λ (a : (at t.parent i ≡ j) × (adopt j t.nodes (at t.parent i) ≡ t.nodes)). omega (arith, c.parent i l h, a.1))
      (λ (a : (at t.parent i ≢ j) × (adopt j t.nodes (at t.parent i) ≡ at t.parent i)). a.0 (omega (arith, c.parent i l h, a.1)))
      (adopted j t.nodes (at t.parent i))

  one_place : (p q : ℕ) → p < t.nodes → q < t.nodes → adopt j t.nodes p ≡ adopt j t.nodes q → p ≡ q
  one_place p q h g e = go (adopted j t.nodes p) (adopted j t.nodes q)
    where
      View : ℕ → Type 0
      View i = ((i ≡ j) × (adopt j t.nodes i ≡ t.nodes)) ⊎ ((i ≢ j) × (adopt j t.nodes i ≡ i))

      go : View p → View q → p ≡ q
      go (inl a) (inl b) = omega (arith, a.0, b.0)
      go (inl a) (inr b) = absurd (omega (arith, a.1, b.1))
      go (inr a) (inl b) = absurd (omega (arith, a.1, b.1))
      go (inr a) (inr b) = omega (arith, a.1, b.1)

  cut-siblings : SiblingsDiffer u
  unfolding ParentsInUse SiblingsDiffer
  cut-siblings =
      each_more _ c.nodes (each_more _ c.nodes (λ e f. refl) (λ i l h e f. absurd (only_child i l h (sym e ∙ c.new_parent))))
      (λ i l h. each_more _ c.nodes (λ e f. absurd (only_child i l h (e ∙ c.new_parent)))
      (λ i' l' h' e f. s.siblings i l h i' l' h'
      (one_place _ _ (s.parents i l h) (s.parents i' l' h') (sym (c.parent i l h) ∙ e ∙ c.parent i' l' h'))
      (sym (same_first i h) ∙ f ∙ same_first i' h')))

  pub cut-sound : TreeLent u → u.nodes ≤ max_nodes → TreeSound u
  cut-sound lent few =
      record {
        lent = lent;
        some = omega (arith, c.nodes);
        nodes = few;
        used = omega (arith, c.used, s.used);
        root = record { len = c.len 0 (omega arith) (omega arith) ∙ s.root.len; depth = c.depth 0 (omega arith) ∙ s.root.depth };
        parents = cut-parents;
        depths = cut-depths;
        ends = cut-ends;
        filled = cut-filled;
        runs_below = cut_below;
        runs_apart = cut_apart;
        siblings = cut-siblings;
      }

pub cut_tree-sound : (j k : ℕ) (t : Tree) → TreeSound t → 1 ≤ j → j < t.nodes → 0 < k → k < at t.len j → t.nodes < max_nodes
    → TreeSound (cut_tree j k t)
cut_tree-sound j k t s low in_use some inside room =
    let c : CutTo j k t (cut_tree j k t) = cut_to j k t s.lent low in_use room in
    cut-sound s low in_use some inside c (cut-lent j k t s.lent low in_use room) (omega (arith, c.nodes))
