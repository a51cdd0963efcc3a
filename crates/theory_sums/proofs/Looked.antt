-- What a lookup reads is small: its spans follow each other down the path, so their blocks and their bytes add up to a difference between two depths, of
-- which none is above 1,024; and each span counts for one tier. Assumes nothing.
use Prim.Native.Nat.{ℕ, zero, suc, ◌+◌, ◌-◌, ◌≤◌, ◌<◌, min}
use mathlib.Core.Bool.{Bool, true, false}
use mathlib.Core.Path.{◌≡◌, refl, ap, ◌∙◌}
use mathlib.Core.List.{List, [], ◌∷◌, ◌++◌}
use Rattle.std.specs.Prelude.{Option, None, Some}
use native.Mathlib.Omega.{arith}
use lib.Dec.{ltb, leb, eqb}
use borrow.Author.Tests.{ltb-true, leb-true, leb-false, eqb-true, eqb-false}
use Rattle.model.specs.Sizes.{max_hashes, max_tiers, max_bytes}
use Rattle.model.specs.State.{State, Range, at, end_of}
use Rattle.model.specs.Sound.{Sound, DepthsAdd}
use Rattle.model.specs.Tree.{Seg, resolve}
use Rattle.model.specs.Store.{store_of}
use Rattle.model.specs.Lookup.{TierSpan, Looked, holds, reach, first_tier, along, lookup_path, span_blocks, span_bytes, if_tier, tier_sum, tier_sums, each_tier}
use Rattle.model.proofs.Rising.{rises}
use Rattle.model_sums.specs.Sums.{all_tiers}
use Rattle.theory_sound.specs.StoreSound.{TreeSound}
use Rattle.theory_resolve.specs.Spelt.{Below, WayDown, end, last, next}
use Rattle.theory_resolve.proofs.Spelt.{resolve_spelt}
use Rattle.theory_calls.proofs.Parts.{sound-parts}
use Rattle.theory_room.specs.Room.{sum_of}
use Rattle.theory_sums.proofs.Answers.{over, tiers-sum}
use Rattle.theory_sums.proofs.Outs.{deep-fits}

over_append : {A : Type 0} (f : A → ℕ) (xs ys : List A) → over f (xs ++ ys) ≡ over f xs + over f ys
unfolding over
over_append f [] ys = omega arith
over_append f (x ∷ xs) ys = omega (arith, over_append f xs ys)

-- ---- a span that is found

record Found (n o z : ℕ) (s : TierSpan) : Type 0 where
  node : s.node ≡ n
  start : s.start ≡ o
  more : o < s.end
  ends : s.end ≤ z

abbrev FoundOr : ℕ → ℕ → ℕ → Option TierSpan → Type 0
FoundOr n o z None = Unit {0}
FoundOr n o z (Some s) = Found n o z s

reach-low : (n o z : ℕ) (rs : List Range) → o < reach n o z rs → reach n o z rs ≤ z
unfolding reach
reach-low n o z [] l = absurd (omega arith)
reach-low n o z (r ∷ rs) l = go (holds n o r) (reach-low n o z rs) l
  where
    go : (b : Bool) → (o < reach n o z rs → reach n o z rs ≤ z) → o < elim b [ true ↦ min r.end z | false ↦ reach n o z rs ]
        → elim b [ true ↦ min r.end z | false ↦ reach n o z rs ] ≤ z
    go true ih m = omega arith
    go false ih m = ih m

first_found : (st : State) (i : ℕ) (ts : List ℕ) (n o z : ℕ) → FoundOr n o z (first_tier st i ts n o z)
unfolding first_tier
first_found st i [] n o z = tt
first_found st i (s ∷ ts) n o z = go (ltb o e) refl (first_found st (suc i) ts n o z)
  where
    e : ℕ
    e = reach n o z (store_of st s).ranges

    go : (b : Bool) → ltb o e ≡ b → FoundOr n o z (first_tier st (suc i) ts n o z)
        → FoundOr n o z
        (elim b as (λ x. Option TierSpan) [ true ↦ Some (record { tier = i; node = n; start = o; end = e }) | false ↦ first_tier st (suc i) ts n o z ])
    go true q ih =
        let more = ltb-true o e q in record { node = refl; start = refl; more = more; ends = reach-low n o z (store_of st s).ranges more }
    go false q ih = ih

-- ---- along the path: f is a difference of G between depths, and G rises

module _ (st : State) (h : Sound st) (ts : List ℕ) (f : TierSpan → ℕ) (G : ℕ → ℕ) (rise : (i j : ℕ) → i ≤ j → j ≤ max_hashes → G i ≤ G j)
    (price : (s : TierSpan) → f s ≡ G (at st.tree.depth s.node + s.end) - G (at st.tree.depth s.node + s.start)) where
  abbrev d : ℕ → ℕ
  d n = at st.tree.depth n

  tree : TreeSound st.tree
  tree = (sound-parts st h).tree

  along-sum : (n z more o : ℕ) (c : Option TierSpan) → FoundOr n o z c → o ≤ z → d n + z ≤ max_hashes
      → over f (along st ts n z more o c).spans + G (d n + o) ≤ G (d n + z)
  unfolding along over
  along-sum n z zero o c k l m = omega (arith, rise (d n + o) (d n + z) (omega arith) m)
  along-sum n z (suc more) o None k l m = omega (arith, rise (d n + o) (d n + z) (omega arith) m)
  along-sum n z (suc more) o (Some s) k l m =
      let p : f s ≡ G (d n + s.end) - G (d n + o) =
      price s
      ∙ ap (λ (x : ℕ). G (d x + s.end) - G (d x + s.start)) k.node
      ∙ ap (λ (x : ℕ). G (d n + s.end) - G (d n + x)) k.start
      in
      omega (
        arith,
        along-sum n z more s.end (first_tier st 0 ts n s.end z) (first_found st 0 ts n s.end z) k.ends m,
        rise (d n + o) (d n + s.end) (omega (arith, k.more)) (omega (arith, k.ends)),
      )

  -- a segment below p, and then the spans `rest`
  seg-sum : (p : ℕ) (s : Seg) (rest : List TierSpan) → Below st.tree p s → over f rest + G (d s.node + s.len) ≤ G max_hashes
      → over f
      (let l = along st ts s.node s.len s.len 0 (first_tier st 0 ts s.node 0 s.len) in
      elim (eqb l.stop s.len) as (λ x. List TierSpan) [ true ↦ l.spans ++ rest | false ↦ l.spans ])
      + G (end_of st.tree p)
      ≤ G max_hashes
  unfolding DepthsAdd
  seg-sum p s rest b later = go (eqb l.stop s.len)
    where
      l : Looked
      l = along st ts s.node s.len s.len 0 (first_tier st 0 ts s.node 0 s.len)

      deep : d s.node ≡ end_of st.tree p
      deep = rw b.child.parent at (tree.depths s.node b.child.not_root b.child.in_use)

      fits : d s.node + s.len ≤ max_hashes
      fits = deep-fits st.tree tree s.node s.len b.child.in_use b.in_node

      here : over f l.spans + G (end_of st.tree p) ≤ G (d s.node + s.len)
      here =
          let found = first_found st 0 ts s.node 0 s.len in
          let k = along-sum s.node s.len s.len 0 (first_tier st 0 ts s.node 0 s.len) found (omega arith) fits in
          let e : d s.node + 0 ≡ end_of st.tree p = omega (arith, deep) in
          rw e at k

      go : (x : Bool) → over f (elim x as (λ y. List TierSpan) [ true ↦ l.spans ++ rest | false ↦ l.spans ]) + G (end_of st.tree p) ≤ G max_hashes
      go true = omega (arith, here, later, over_append f l.spans rest)
      go false = omega (arith, here, rise (d s.node + s.len) max_hashes fits (omega arith))

  path-sum : (p : ℕ) (ss : List Seg) → WayDown st.tree p ss → end_of st.tree p ≤ max_hashes
      → over f (lookup_path st ts ss) + G (end_of st.tree p) ≤ G max_hashes
  unfolding lookup_path over
  path-sum p ss end m = omega (arith, rise (end_of st.tree p) max_hashes m (omega arith))
  path-sum p ss (last s b) m =
      let low = deep-fits st.tree tree s.node s.len b.child.in_use b.in_node in
      seg-sum p s [] b (omega (arith, rise (d s.node + s.len) max_hashes low (omega arith)))
  path-sum p ss (next s ss' b whole w) m =
      let e : d s.node + s.len ≡ end_of st.tree s.node = ap (λ (x : ℕ). d s.node + x) whole in
      let low : end_of st.tree s.node ≤ max_hashes = rw (← e) (deep-fits st.tree tree s.node s.len b.child.in_use b.in_node) in
      seg-sum p s (lookup_path st ts ss') b (rw e (path-sum s.node ss' w low))

  looked-sum : (hs : List ℕ) → over f (lookup_path st ts (resolve st.tree hs)) ≤ G max_hashes
  looked-sum hs =
      omega (
        arith,
        path-sum 0 (resolve st.tree hs) (resolve_spelt st h hs).down (omega (arith, tree.root.depth, tree.root.len)),
      )

-- ---- each span is of one tier

-- f, of the spans of tier i and later
abbrev from : (TierSpan → ℕ) → ℕ → TierSpan → ℕ
from f i s = if_tier (leb i s.tier) (f s)

one-tier : (f : TierSpan → ℕ) (i : ℕ) (s : TierSpan) → if_tier (eqb s.tier i) (f s) + from f (suc i) s ≡ from f i s
one-tier f i s = go (eqb s.tier i) (leb (suc i) s.tier) (leb i s.tier) refl refl refl
  where
    go : (a b c : Bool) → eqb s.tier i ≡ a → leb (suc i) s.tier ≡ b → leb i s.tier ≡ c → if_tier a (f s) + if_tier b (f s) ≡ if_tier c (f s)
    go true true c p q r = absurd (omega (arith, eqb-true s.tier i p, leb-true (suc i) s.tier q))
    go true false true p q r = omega arith
    go true false false p q r = absurd (omega (arith, eqb-true s.tier i p, leb-false i s.tier r))
    go false true true p q r = omega arith
    go false true false p q r = absurd (omega (arith, leb-true (suc i) s.tier q, leb-false i s.tier r))
    go false false true p q r =
        let apart = eqb-false s.tier i p in
        absurd (apart (omega (arith, leb-false (suc i) s.tier q, leb-true i s.tier r)))
    go false false false p q r = omega arith

tier-from : (f : TierSpan → ℕ) (i : ℕ) (ss : List TierSpan) → tier_sum f i ss + over (from f (suc i)) ss ≡ over (from f i) ss
unfolding tier_sum over
tier-from f i [] = refl
tier-from f i (s ∷ ss) = omega (arith, one-tier f i s, tier-from f i ss)

sums-from : (f : TierSpan → ℕ) (n i : ℕ) (ss : List TierSpan) → sum_of (tier_sums f i n ss) ≤ over (from f i) ss
unfolding tier_sums sum_of
sums-from f zero i ss = omega arith
sums-from f (suc n) i ss = omega (arith, sums-from f n (suc i) ss, tier-from f i ss)

from-most : (f : TierSpan → ℕ) (i : ℕ) (ss : List TierSpan) → over (from f i) ss ≤ over f ss
unfolding over
from-most f i [] = omega arith
from-most f i (s ∷ ss) = go (leb i s.tier) (from-most f i ss)
  where
    go : (b : Bool) → over (from f i) ss ≤ over f ss → if_tier b (f s) + over (from f i) ss ≤ f s + over f ss
    go true ih = omega arith
    go false ih = omega arith

tiers-most : (f : TierSpan → ℕ) (ss : List TierSpan) → all_tiers (each_tier (tier_sums f 0 max_tiers ss)) ≤ over f ss
unfolding tier_sums sum_of
tiers-most f ss =
    omega (arith, tiers-sum (each_tier (tier_sums f 0 max_tiers ss)), sums-from f max_tiers 0 ss, from-most f 0 ss)

-- ---- so many blocks and bytes at most

module _ (st : State) (h : Sound st) (ts hs : List ℕ) where
  abbrev found : List TierSpan
  found = lookup_path st ts (resolve st.tree hs)

  pub looked-blocks : all_tiers (each_tier (tier_sums span_blocks 0 max_tiers found)) ≤ max_hashes
  looked-blocks =
      omega (arith, tiers-most span_blocks found, looked-sum st h ts span_blocks (λ n. n) (λ i j l m. l) (λ s. omega arith) hs)

  pub looked-bytes : all_tiers (each_tier (tier_sums (span_bytes st) 0 max_tiers found)) ≤ max_bytes
  looked-bytes =
      omega (
        arith,
        tiers-most (span_bytes st) found,
        looked-sum st h ts (span_bytes st) (at st.bytes) (rises h.table) (λ s. refl) hs,
        h.table.small max_hashes (omega arith) (omega arith),
      )
