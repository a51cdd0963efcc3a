-- Where every store holds at least as much, a lookup gives at least as many blocks in all: along a segment the walk stops at the first block that no
-- tier holds, and the spans up to there add up to it. Assumes nothing.
use Prim.Native.Nat.{ℕ, zero, suc, ◌+◌, ◌≤◌, ◌<◌, min}
use mathlib.Core.Bool.{Bool, true, false, true≢false, ◌&&◌}
use mathlib.Core.List.{List, [], ◌∷◌, ◌++◌}
use Rattle.std.specs.Prelude.{Option, None, Some}
use mathlib.Core.Path.{◌≡◌, refl, ◌∙◌}
use mathlib.Core.Logic.{◌⊎◌, inl, inr, ⊎_elim}
use native.Mathlib.Omega.{arith}
use lib.ListN.{length}
use lib.Dec.{leb, ltb, eqb}
use borrow.Author.Tests.{leb-true, leb-false, ltb-true, ltb-false, eqb-true, eqb-false, eq-eqb, ne_eqb}
use Rattle.model.specs.State.{State, Range}
use Rattle.model.specs.Tree.{Seg}
use Rattle.model.specs.Store.{store_of}
use Rattle.model.specs.Lookup.{TierSpan, holds, reach, first_tier, Looked, along, lookup_path, span_blocks, if_tier, tier_sum, tier_sums}
use Rattle.theory_sound.specs.Facts.{All}
use Rattle.model.specs.Blocks.{In, Holds}
use Rattle.theory_room.specs.Room.{sum_of}

pub lt_or_le : (a b : ℕ) → (a < b) ⊎ (b ≤ a)
lt_or_le a b = go (ltb a b) refl
  where
    go : (t : Bool) → ltb a b ≡ t → (a < b) ⊎ (b ≤ a)
    go true e = inl (ltb-true a b e)
    go false e = inr (ltb-false a b e)

-- ---- what a test of a range tells

and_both : (a b : Bool) → a && b ≡ true → (a ≡ true) × (b ≡ true)
and_both true b e = (refl, e)
and_both false true e = (e, refl)
and_both false false e = (e, e)

holds_in : (n o : ℕ) (r : Range) → holds n o r ≡ true → In n o r
holds_in n o r e =
    let p = and_both (eqb r.node n) (leb r.start o && ltb o r.end) e in
    let q = and_both (leb r.start o) (ltb o r.end) p.1 in
    record { node = eqb-true r.node n p.0; low = leb-true r.start o q.0; high = ltb-true o r.end q.1 }

in_holds : (n o : ℕ) (r : Range) → In n o r → holds n o r ≡ false → ⊥
in_holds n o r h e = go (eqb r.node n) (leb r.start o) (ltb o r.end) refl refl refl e
  where
    go : (a b c : Bool) → eqb r.node n ≡ a → leb r.start o ≡ b → ltb o r.end ≡ c → a && (b && c) ≡ false → ⊥
    go false b c p q s f = eqb-false r.node n p h.node
    go true false c p q s f = omega (arith, leb-false, h.low)
    go true true false p q s f = omega (arith, ltb-false, h.high)
    go true true true p q s f = true≢false f

-- ---- one store

-- what `reach` gives from block o: up to there the ranges hold each block, and past o where they hold o
pub record Reached (rs : List Range) (n o z e : ℕ) : Type 0 where
  pub low : o ≤ e
  pub high : e ≤ z
  pub held : (k : ℕ) → o ≤ k → k < e → Holds rs n k
  pub some : o < z → Holds rs n o → o < e

reached : (rs : List Range) (n o z : ℕ) → o ≤ z → Reached rs n o z (reach n o z rs)
unfolding reach Holds
reached [] n o z l = record { low = omega arith; high = l; held = λ k a b. absurd (omega arith); some = λ a h. absurd h }
reached (r ∷ rs) n o z l = go (holds n o r) refl (reached rs n o z l)
  where
    go : (b : Bool) → holds n o r ≡ b → Reached rs n o z (reach n o z rs) → Reached (r ∷ rs) n o z (elim b [ true ↦ min r.end z | false ↦ reach n o z rs ])
    go true e h =
        let i : In n o r = holds_in n o r e in
        record {
          low = omega (arith, i.high);
          high = omega arith;
          held = λ k a b. inl (record { node = i.node; low = omega (arith, i.low); high = omega arith });
          some = λ a w. omega (arith, i.high);
        }
    go false e h =
        record {
          low = h.low;
          high = h.high;
          held = λ k a b. inr (h.held k a b);
          some = λ a w. ⊎_elim (λ i. absurd (in_holds n o r i e)) (λ x. h.some a x) w;
        }

-- ---- a tier list

-- some store of the tier list holds block o of node n
unfoldable pub SomeTier : State → List ℕ → ℕ → ℕ → Type 0
SomeTier st [] n o = ⊥
SomeTier st (s ∷ ss) n o = Holds (store_of st s).ranges n o ⊎ SomeTier st ss n o

-- a span that the first tier with block o gives, i being the place of the first tier
pub record Given (st : State) (i : ℕ) (ts : List ℕ) (n o z : ℕ) (s : TierSpan) : Type 0 where
  pub start : s.start ≡ o
  pub some : o < s.end
  pub high : s.end ≤ z
  pub tier : s.tier < i + length ts
  pub held : (k : ℕ) → o ≤ k → k < s.end → SomeTier st ts n k

abbrev pub Found : State → ℕ → List ℕ → ℕ → ℕ → ℕ → Option TierSpan → Type 0
Found st i ts n o z None = o < z → SomeTier st ts n o → ⊥
Found st i ts n o z (Some s) = Given st i ts n o z s

later : (st : State) (i s : ℕ) (ts : List ℕ) (n o z : ℕ) (f : Option TierSpan) → (o < z → Holds (store_of st s).ranges n o → ⊥)
    → Found st (suc i) ts n o z f → Found st i (s ∷ ts) n o z f
unfolding SomeTier
later st i s ts n o z None out h = λ l w. ⊎_elim (out l) (h l) w
later st i s ts n o z (Some x) out h =
    record { start = h.start; some = h.some; high = h.high; tier = omega (arith, h.tier); held = λ k a b. inr (h.held k a b) }

found : (st : State) (i : ℕ) (ts : List ℕ) (n o z : ℕ) → o ≤ z → Found st i ts n o z (first_tier st i ts n o z)
unfolding first_tier SomeTier
found st i [] n o z l = λ a w. w
found st i (s ∷ ts) n o z l = go (ltb o (reach n o z (store_of st s).ranges)) refl (found st (suc i) ts n o z l)
  where
    go : (b : Bool) → ltb o (reach n o z (store_of st s).ranges) ≡ b → Found st (suc i) ts n o z (first_tier st (suc i) ts n o z)
        → Found st i (s ∷ ts) n o z
        (elim b [
          | true ↦ Some (record { tier = i; node = n; start = o; end = reach n o z (store_of st s).ranges })
          | false ↦ first_tier st (suc i) ts n o z
        ])
    go true e h =
        let r = reached (store_of st s).ranges n o z l in
        record {
          start = refl;
          some = ltb-true o (reach n o z (store_of st s).ranges) e;
          high = r.high;
          tier = omega arith;
          held = λ k a b. inl (r.held k a b);
        }
    go false e h =
        let r = reached (store_of st s).ranges n o z l in
        later st i s ts n o z (first_tier st (suc i) ts n o z)
        (λ a w. let x : o < reach n o z (store_of st s).ranges = r.some a w in omega (arith, ltb-false o (reach n o z (store_of st s).ranges) e)) h

-- ---- a segment

-- the blocks of all spans
unfoldable pub in_all : List TierSpan → ℕ
in_all [] = 0
in_all (s ∷ ss) = span_blocks s + in_all ss

abbrev pub TierBelow : ℕ → TierSpan → Type 0
TierBelow n s = s.tier < n

-- the walk went from block o of node n to the first one below z that no tier holds
pub record Went (st : State) (ts : List ℕ) (n z o : ℕ) (l : Looked) : Type 0 where
  pub low : o ≤ l.stop
  pub high : l.stop ≤ z
  pub held : (k : ℕ) → o ≤ k → k < l.stop → SomeTier st ts n k
  pub ends : l.stop < z → SomeTier st ts n l.stop → ⊥
  pub sum : o + in_all l.spans ≡ l.stop
  pub tiers : All (TierBelow (length ts)) l.spans

went : (st : State) (ts : List ℕ) (n z more o : ℕ) (f : Option TierSpan) → o ≤ z → z ≤ o + more → Found st 0 ts n o z f
    → Went st ts n z o (along st ts n z more o f)
unfolding along in_all All
went st ts n z zero o f l m h =
    record {
      low = omega arith;
      high = l;
      held = λ k a b. absurd (omega arith);
      ends = λ a w. absurd (omega arith);
      sum = omega arith;
      tiers = tt;
    }
went st ts n z (suc more) o None l m h =
    record {
      low = omega arith;
      high = l;
      held = λ k a b. absurd (omega arith);
      ends = h;
      sum = omega arith;
      tiers = tt;
    }
went st ts n z (suc more) o (Some s) l m h =
    let w = went st ts n z more s.end (first_tier st 0 ts n s.end z) h.high (omega (arith, h.some)) (found st 0 ts n s.end z h.high) in
    record {
      low = omega (arith, h.some, w.low);
      high = w.high;
      held = λ k a b. ⊎_elim (λ (c : k < s.end). h.held k a c) (λ (c : s.end ≤ k). w.held k c b) (lt_or_le k s.end);
      ends = w.ends;
      sum = let e : s.start ≡ o = h.start in omega (arith, w.sum, h.some);
      tiers = (omega (arith, h.tier), w.tiers);
    }

-- ---- the path

in_append : (xs ys : List TierSpan) → in_all (xs ++ ys) ≡ in_all xs + in_all ys
unfolding in_all
in_append [] ys = omega arith
in_append (x ∷ xs) ys = let h = in_append xs ys in omega arith

all_append : (n : ℕ) (xs ys : List TierSpan) → All (TierBelow n) xs → All (TierBelow n) ys → All (TierBelow n) (xs ++ ys)
unfolding All
all_append n [] ys p q = q
all_append n (x ∷ xs) ys p q = (p.0, all_append n xs ys p.1 q)

segment : (st : State) (ts : List ℕ) (s : Seg)
    → Went st ts s.node s.len 0 (along st ts s.node s.len s.len 0 (first_tier st 0 ts s.node 0 s.len))
segment st ts s =
    went st ts s.node s.len s.len 0 (first_tier st 0 ts s.node 0 s.len) (omega arith) (omega arith)
    (found st 0 ts s.node 0 s.len (omega arith))

path-tiers : (st : State) (ts : List ℕ) (path : List Seg) → All (TierBelow (length ts)) (lookup_path st ts path)
unfolding lookup_path All
path-tiers st ts [] = tt
path-tiers st ts (s ∷ ss) = go (eqb l.stop s.len) (segment st ts s).tiers (path-tiers st ts ss)
  where
    l : Looked
    l = along st ts s.node s.len s.len 0 (first_tier st 0 ts s.node 0 s.len)

    go : (b : Bool) → All (TierBelow (length ts)) l.spans → All (TierBelow (length ts)) (lookup_path st ts ss)
        → All (TierBelow (length ts)) (elim b [ true ↦ l.spans ++ lookup_path st ts ss | false ↦ l.spans ])
    go true p q = all_append (length ts) l.spans (lookup_path st ts ss) p q
    go false p q = p

-- store s holds in b what it holds in a
abbrev pub Richer : State → State → ℕ → Type 0
Richer a b s = (n o : ℕ) → Holds (store_of a s).ranges n o → Holds (store_of b s).ranges n o

tier-more : (a b : State) (ts : List ℕ) → All (Richer a b) ts → (n o : ℕ) → SomeTier a ts n o → SomeTier b ts n o
unfolding SomeTier All
tier-more a b [] h n o w = w
tier-more a b (s ∷ ts) h n o (inl w) = inl (h.0 n o w)
tier-more a b (s ∷ ts) h n o (inr w) = inr (tier-more a b ts h.1 n o w)

stop-more : (a b : State) (ts : List ℕ) → All (Richer a b) ts → (n z : ℕ) (k l : Looked) → Went a ts n z 0 k → Went b ts n z 0 l → k.stop ≤ l.stop
stop-more a b ts h n z k l p q =
    ⊎_elim
    (λ (c : l.stop < k.stop). absurd (q.ends (omega (arith, p.high)) (tier-more a b ts h n l.stop (p.held l.stop (omega arith) c))))
    (λ (c : k.stop ≤ l.stop). c) (lt_or_le l.stop k.stop)

pub path-more : (a b : State) (ts : List ℕ) → All (Richer a b) ts → (path : List Seg) → in_all (lookup_path a ts path) ≤ in_all (lookup_path b ts path)
unfolding lookup_path
path-more a b ts h [] = omega arith
path-more a b ts h (s ∷ ss) =
    go (eqb k.stop s.len) (eqb l.stop s.len) refl refl (segment a ts s) (segment b ts s)
    (stop-more a b ts h s.node s.len k l (segment a ts s) (segment b ts s)) (path-more a b ts h ss)
  where
    k : Looked
    k = along a ts s.node s.len s.len 0 (first_tier a 0 ts s.node 0 s.len)

    l : Looked
    l = along b ts s.node s.len s.len 0 (first_tier b 0 ts s.node 0 s.len)

    go : (x y : Bool) → eqb k.stop s.len ≡ x → eqb l.stop s.len ≡ y → Went a ts s.node s.len 0 k → Went b ts s.node s.len 0 l
        → k.stop ≤ l.stop
        → in_all (lookup_path a ts ss) ≤ in_all (lookup_path b ts ss)
        → in_all (elim x [ true ↦ k.spans ++ lookup_path a ts ss | false ↦ k.spans ])
        ≤ in_all (elim y [ true ↦ l.spans ++ lookup_path b ts ss | false ↦ l.spans ])
    go true true e f p q le ih =
        rw (in_append k.spans (lookup_path a ts ss), in_append l.spans (lookup_path b ts ss)) (omega (arith, p.sum, q.sum))
    go true false e f p q le ih = absurd (eqb-false l.stop s.len f (let g : k.stop ≡ s.len = eqb-true k.stop s.len e in omega (arith, q.high)))
    go false true e f p q le ih = rw (in_append l.spans (lookup_path b ts ss)) (omega (arith, p.sum, q.sum))
    go false false e f p q le ih = omega (arith, p.sum, q.sum)

-- ---- the sums of the tiers

-- x, counted at tier t alone, over n tiers from i on
unfoldable only : ℕ → ℕ → ℕ → ℕ → ℕ
only x t i zero = 0
only x t i (suc n) = if_tier (eqb t i) x + only x t (suc i) n

only-past : (x t i n : ℕ) → t < i → only x t i n ≡ 0
unfolding only
only-past x t i zero l = refl
only-past x t i (suc n) l = rw (ne_eqb t i (λ (e : t ≡ i). omega arith), only-past x t (suc i) n (omega arith)) refl

only_one : (x t i n : ℕ) → i ≤ t → t < i + n → only x t i n ≡ x
unfolding only
only_one x t i zero l m = absurd (omega arith)
only_one x t i (suc n) l m =
    ⊎_elim
    (λ (c : i < t). rw (ne_eqb t i (λ (e : t ≡ i). omega arith), only_one x t (suc i) n c (omega arith)) (omega arith))
    (λ (c : t ≤ i). rw (eq-eqb t i (omega arith), only-past x t (suc i) n (omega arith)) (omega arith)) (lt_or_le i t)

sums-more : (s : TierSpan) (ss : List TierSpan) (i n : ℕ)
    → sum_of (tier_sums span_blocks i n (s ∷ ss)) ≡ only (span_blocks s) s.tier i n + sum_of (tier_sums span_blocks i n ss)
unfolding tier_sums tier_sum sum_of only
sums-more s ss i zero = omega arith
sums-more s ss i (suc n) = let h = sums-more s ss (suc i) n in omega arith

none-sums : (i n : ℕ) → sum_of (tier_sums span_blocks i n []) ≡ 0
unfolding tier_sums tier_sum sum_of
none-sums i zero = refl
none-sums i (suc n) = let h = none-sums (suc i) n in omega arith

-- the tiers' sums come to the blocks of all spans
sums-all : (n : ℕ) (ss : List TierSpan) → All (TierBelow n) ss → sum_of (tier_sums span_blocks 0 n ss) ≡ in_all ss
unfolding All in_all
sums-all n [] h = none-sums 0 n
sums-all n (s ∷ ss) h =
    let k = sums-all n ss h.1 in
    let o = only_one (span_blocks s) s.tier 0 n (omega arith) (omega (arith, h.0)) in
    sums-more s ss 0 n ∙ rw (o, k) refl

all-below : (m n : ℕ) → m ≤ n → (ss : List TierSpan) → All (TierBelow m) ss → All (TierBelow n) ss
unfolding All
all-below m n l [] h = tt
all-below m n l (s ∷ ss) h = (omega (arith, h.0), all-below m n l ss h.1)

-- and so they do along a path, where there are no fewer sums than tiers
pub path-sums : (st : State) (ts : List ℕ) (n : ℕ) → length ts ≤ n → (path : List Seg)
    → sum_of (tier_sums span_blocks 0 n (lookup_path st ts path)) ≡ in_all (lookup_path st ts path)
path-sums st ts n few path =
    sums-all n (lookup_path st ts path) (all-below (length ts) n few (lookup_path st ts path) (path-tiers st ts path))
