-- A leaf: what each column has afterwards, as a record, and from that record that the tree and every store stay sound. Assumes nothing.
use Prim.Native.Nat.{ℕ, suc, ◌+◌, ◌≤◌, ◌<◌}
use mathlib.Core.Path.{◌≡◌, refl, sym, ◌∙◌}
use mathlib.Core.Logic.{inl}
use mathlib.Core.List.{List}
use native.Mathlib.Omega.{arith}
use native.Mathlib.Nat.{add-zero, le_refl}
use lib.ListN.{length, length-set}
use lib.Seq.{get_or-set_same, get_or-set_other}
use Rattle.model.specs.Words.{Each}
use Rattle.model.specs.Sizes.{max_nodes, max_words, max_hashes}
use Rattle.model.specs.State.{Tree, Range, Pin, at, first_hash, end_of}
use Rattle.model.specs.Sound.{TreeLent, ParentsInUse, DepthsAdd, EndsWithin, NodesFilled, RunsBelow, InRun, RunsApart, SiblingsDiffer, Inside, PinInside}
use Rattle.model.specs.Store.{Store}
use Rattle.model.specs.Insert.{add_leaf}
use Rattle.theory_sound.specs.StoreSound.{TreeSound, StoreSound}
use Rattle.theory_lay.proofs.Lay.{lay_length, lay_in, lay-off}
use Rattle.theory_bring.proofs.Facts.{all_map}
use Rattle.theory_cut.proofs.Facts.{each_more, off-node}

-- ---- a leaf under p, at depth d; its number is that of the nodes in use

pub record LeafTo (p d : ℕ) (rest : List ℕ) (t u : Tree) : Type 0 where
  pub nodes : u.nodes ≡ suc t.nodes
  pub used : u.used ≡ t.used + length rest
  pub new_parent : at u.parent t.nodes ≡ p
  pub new_depth : at u.depth t.nodes ≡ d
  pub new_len : at u.len t.nodes ≡ length rest
  pub new_run : at u.run t.nodes ≡ t.used
  pub new_word : (i : ℕ) → i < length rest → at u.words (t.used + i) ≡ at rest i
  pub parent : (i : ℕ) → i < t.nodes → at u.parent i ≡ at t.parent i
  pub depth : (i : ℕ) → i < t.nodes → at u.depth i ≡ at t.depth i
  pub len : (i : ℕ) → i < t.nodes → at u.len i ≡ at t.len i
  pub run : (i : ℕ) → i < t.nodes → at u.run i ≡ at t.run i
  pub word : (w : ℕ) → w < t.used → at u.words w ≡ at t.words w

module _ (p d : ℕ) (rest : List ℕ) (t : Tree) (lent : TreeLent t) (room : t.nodes < max_nodes) (words : t.used + length rest ≤ max_words) where
  fits : t.used + length rest ≤ length t.words
  fits = omega (arith, lent.words)

  pub leaf_to : LeafTo p d rest t (add_leaf p d rest t)
  unfolding add_leaf
  leaf_to =
      let m : ℕ = t.nodes in
      record {
        nodes = refl;
        used = refl;
        new_parent = get_or-set_same t.parent m p 0 (omega (arith, lent.parent));
        new_depth = get_or-set_same t.depth m d 0 (omega (arith, lent.depth));
        new_len = get_or-set_same t.len m (length rest) 0 (omega (arith, lent.len));
        new_run = get_or-set_same t.run m t.used 0 (omega (arith, lent.run));
        new_word = λ i. lay_in 0 t.used (length rest) rest t.words (le_refl _) fits i 0;
        parent = λ i h. get_or-set_other t.parent m i p 0 (omega arith);
        depth = λ i h. get_or-set_other t.depth m i d 0 (omega arith);
        len = λ i h. get_or-set_other t.len m i (length rest) 0 (omega arith);
        run = λ i h. get_or-set_other t.run m i t.used 0 (omega arith);
        word = λ w h. lay-off 0 t.used (length rest) rest t.words (le_refl _) fits w 0 (inl h);
      }

  leaf_lent : TreeLent (add_leaf p d rest t)
  unfolding add_leaf
  leaf_lent =
      record {
        parent = rw length-set lent.parent;
        depth = rw length-set lent.depth;
        len = rw length-set lent.len;
        run = rw length-set lent.run;
        words = rw (lay_length 0 t.used (length rest) rest t.words (le_refl _) fits) lent.words;
      }

-- ---- the tree

-- no child of p begins with h
abbrev pub NoChild : Tree → ℕ → ℕ → Type 0
NoChild t p h = Each 1 t.nodes (λ i. at t.parent i ≡ p → first_hash t i ≡ h → ⊥)

module _ {p d : ℕ} {rest : List ℕ} {t u : Tree} (s : TreeSound t) (in_use : p < t.nodes) (below : end_of t p ≡ d) (some : 1 ≤ length rest)
    (deep : d + length rest ≤ max_hashes) (words : t.used + length rest ≤ max_words) (new : NoChild t p (at rest 0)) (c : LeafTo p d rest t u) where
  same_end : (i : ℕ) → i < t.nodes → end_of u i ≡ end_of t i
  same_end i h = omega (arith, c.depth i h, c.len i h)

  leaf_parents : ParentsInUse u
  unfolding ParentsInUse
  leaf_parents =
      each_more (λ i. at u.parent i < u.nodes) c.nodes (omega (arith, c.nodes, c.new_parent))
      (λ i l h. omega (arith, c.nodes, c.parent i h, s.parents i l h))

  leaf_depths : DepthsAdd u
  unfolding ParentsInUse DepthsAdd
  leaf_depths =
      each_more (λ i. at u.depth i ≡ end_of u (at u.parent i)) c.nodes (rw c.new_parent (omega (arith, c.new_depth, same_end p in_use)))
      (λ i l h. rw (c.parent i h) (c.depth i h ∙ s.depths i l h ∙ sym (same_end (at t.parent i) (s.parents i l h))))

  leaf_ends : EndsWithin u
  unfolding EndsWithin
  leaf_ends =
      each_more (λ i. end_of u i ≤ max_hashes) c.nodes (omega (arith, c.new_depth, c.new_len))
      (λ i l h. omega (arith, same_end i h, s.ends i l h))

  leaf_filled : NodesFilled u
  unfolding NodesFilled
  leaf_filled = each_more (λ i. 1 ≤ at u.len i) c.nodes (omega (arith, c.new_len)) (λ i l h. omega (arith, c.len i h, s.filled i l h))

  leaf_below : RunsBelow u
  unfolding RunsBelow
  leaf_below =
      each_more (λ i. at u.run i + at u.len i ≤ u.used) c.nodes (omega (arith, c.new_run, c.new_len, c.used))
      (λ i l h. omega (arith, c.run i h, c.len i h, c.used, s.runs_below i l h))

  was_in : (i w : ℕ) → i < t.nodes → InRun u i w → InRun t i w
  was_in i w h r = record { low = omega (arith, c.run i h, r.low); high = omega (arith, c.run i h, c.len i h, r.high) }

  -- the new words are past all that were used
  old_not_new : (i w : ℕ) → 1 ≤ i → i < t.nodes → InRun u i w → InRun u t.nodes w → ⊥
  unfolding RunsBelow
  old_not_new i w l h r q = omega (arith, c.run i h, c.len i h, c.new_run, r.high, q.low, s.runs_below i l h)

  leaf_apart : RunsApart u
  unfolding RunsApart
  leaf_apart w =
      each_more _ c.nodes (each_more _ c.nodes (λ r q. refl) (λ i l h r q. absurd (old_not_new i w l h q r)))
      (λ i l h. each_more _ c.nodes (λ r q. absurd (old_not_new i w l h r q))
      (λ i' l' h' r q. s.runs_apart w i l h i' l' h' (was_in i w h r) (was_in i' w h' q)))

  same_first : (i : ℕ) → 1 ≤ i → i < t.nodes → first_hash u i ≡ first_hash t i
  unfolding NodesFilled RunsBelow
  same_first i l h = rw (c.run i h) (c.word (at t.run i) (omega (arith, s.filled i l h, s.runs_below i l h)))

  new-first : first_hash u t.nodes ≡ at rest 0
  new-first = rw c.new_run (rw add-zero at (c.new_word 0 some))

  not_sibling : (i : ℕ) → 1 ≤ i → i < t.nodes → at u.parent i ≡ at u.parent t.nodes → first_hash u i ≡ first_hash u t.nodes → ⊥
  not_sibling i l h e f = new i l h (sym (c.parent i h) ∙ e ∙ c.new_parent) (sym (same_first i l h) ∙ f ∙ new-first)

  leaf_siblings : SiblingsDiffer u
  unfolding SiblingsDiffer
  leaf_siblings =
      each_more _ c.nodes (each_more _ c.nodes (λ e f. refl) (λ i l h e f. absurd (not_sibling i l h (sym e) (sym f))))
      (λ i l h. each_more _ c.nodes (λ e f. absurd (not_sibling i l h e f))
      (λ i' l' h' e f. s.siblings i l h i' l' h' (sym (c.parent i h) ∙ e ∙ c.parent i' h') (sym (same_first i l h) ∙ f ∙ same_first i' l' h')))

  leaf_tree : TreeLent u → u.nodes ≤ max_nodes → TreeSound u
  leaf_tree lent few =
      record {
        lent = lent;
        some = omega (arith, c.nodes);
        nodes = few;
        used = omega (arith, c.used);
        root = record { len = c.len 0 (omega arith) ∙ s.root.len; depth = c.depth 0 (omega arith) ∙ s.root.depth };
        parents = leaf_parents;
        depths = leaf_depths;
        ends = leaf_ends;
        filled = leaf_filled;
        runs_below = leaf_below;
        runs_apart = leaf_apart;
        siblings = leaf_siblings;
      }

pub leaf_sound : (p d : ℕ) (rest : List ℕ) (t : Tree) → TreeSound t → p < t.nodes → end_of t p ≡ d → 1 ≤ length rest → d + length rest ≤ max_hashes
    → t.nodes < max_nodes → t.used + length rest ≤ max_words → NoChild t p (at rest 0) → TreeSound (add_leaf p d rest t)
leaf_sound p d rest t s in_use below some deep room words new =
    let c : LeafTo p d rest t (add_leaf p d rest t) = leaf_to p d rest t s.lent room words in
    leaf_tree s in_use below some deep words new c (leaf_lent p d rest t s.lent room words) (omega (arith, c.nodes))

-- ---- a store: the old nodes are as they were, and it holds nothing of the new one

module _ {p d : ℕ} {rest : List ℕ} {t u : Tree} (c : LeafTo p d rest t u) (room : t.nodes < max_nodes) where
  still_inside : (r : Range) → Inside t r → Inside u r
  still_inside r h = record { in_use = omega (arith, c.nodes, h.in_use); filled = h.filled; ends = rw (c.len r.node h.in_use) h.ends }

  still_pinned : (q : Pin) → PinInside t q → PinInside u q
  still_pinned q h =
      record { in_use = omega (arith, c.nodes, h.in_use); filled = h.filled; ends = rw (c.len q.node h.in_use) h.ends; counted = h.counted }

  leaf_in_store : {next : ℕ} {x : Store} → StoreSound t next x → StoreSound u next x
  leaf_in_store {next} {x} s =
      let rs : List Range = x.ranges in
      record {
        capacity = s.capacity;
        policy = s.policy;
        records = s.records;
        few = s.few;
        stamp = s.stamp;
        ranges = record {
          sorted = s.ranges.sorted;
          inside = all_map still_inside rs s.ranges.inside;
          distinct = s.ranges.distinct;
          ids = s.ranges.ids;
          stamps = s.ranges.stamps;
          times = s.ranges.times;
        };
        held = s.held;
        held_none = s.held_none;
        entries = s.entries;
        few_pins = s.few_pins;
        pins = record { sorted = s.pins.sorted; inside = all_map still_pinned x.pins s.pins.inside };
        pinned = s.pinned;
        pinned_most = s.pinned_most;
        marks = record { long = s.marks.long; none = s.marks.none; within = λ v. within v (omega arith) };
      }
    where
      unused : at x.marks t.nodes ≡ 0
      unused =
          s.marks.none t.nodes room
          (off-node t.nodes x.ranges
          (all_map {Q = λ r. r.node ≡ t.nodes → ⊥} (λ r (h : Inside t r) (e : r.node ≡ t.nodes). omega (arith, h.in_use)) x.ranges s.ranges.inside))

      within : Each 0 u.nodes (λ v. at x.marks v ≤ at u.len v)
      within = each_more _ c.nodes (omega (arith, unused)) (λ v l h. omega (arith, c.len v h, s.marks.within v h))

pub leaf_store : (p d : ℕ) (rest : List ℕ) (t : Tree) → TreeSound t → t.nodes < max_nodes → t.used + length rest ≤ max_words → {next : ℕ} {x : Store}
    → StoreSound t next x → StoreSound (add_leaf p d rest t) next x
leaf_store p d rest t s room words = leaf_in_store (leaf_to p d rest t s.lent room words) room
