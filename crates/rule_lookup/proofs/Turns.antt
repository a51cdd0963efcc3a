-- The three loops of the walk, over variables. They speak of every state and list of hashes that S says is seen. What a segment's loop tells is relative to
-- the lists and sums with which the segment began. Assumes nothing.
use Prim.Native.Nat.{ℕ, zero, suc, ◌+◌, ◌-◌, ◌*◌, ◌≤◌, ◌<◌, min}
use mathlib.Core.List.{List, ◌∷◌}
use Rattle.std.specs.Prelude.{Option, None, Some}
use mathlib.Core.Path.{◌≡◌, refl, sym, ap, ◌∙◌}
use native.Mathlib.Omega.{arith}
use lib.ListN.{length, drop, set, replicate}
use Rattle.model.specs.Sizes.{max_bytes}
use Rattle.model.specs.State.{State, Ranges, at}
use Rattle.model.specs.Store.{store_of, ranges}
use Rattle.model.specs.Tree.{resolve}
use Rattle.model.specs.Trim.{bytes_of}
use Rattle.model.specs.Lookup.{TierSpan, first_tier, lookup_path}
use Rattle.model.specs.Refusals.{TierList, TierFits}
use Rattle.rule_resolve.specs.Span.{only_depth}
use Rattle.shape_answer.specs.Lists.{path_list_of}
use Rattle.rule_lookup.specs.Tiers.{range_end, Seen, Told}
use Rattle.shape_answer.specs.Lists.{tier_list_of}
use Rattle.rule_lookup.proofs.Laws.{end-past}
use Rattle.rule_lookup.proofs.Spans.{span_at, tier-here, tier-more, tier-last, left_at, left-none, left_end, left-more, path-none, path-more, Looking, look_start, look_as, look_end, look_room, look_more_lem, look_blocks, look_bytes, Room}
use Rattle.rule_lookup.proofs.Seen.{seg_at, seg-at, path-past, tier-tells, bytes-few, blocks-few, bytes-are, few-spans}

-- at the beginning of segment i: what is left is the lookup along the rest of the path
abbrev pub Looks : State → List ℕ → List ℕ → TierList → ℕ → ℕ → List ℕ → List ℕ → TierList → Type 0
Looks st ts hs l₀ i n bs ys l = Looking st ts hs l₀ (lookup_path st ts (drop i (resolve st.tree hs))) n bs ys l

-- ---- the loop over segments, at segment i

pub record Outer (S : State → List ℕ → Type 0) (ts : List ℕ) (l₀ l : TierList) (n : ℕ) (bs ys : List ℕ) (i : ℕ) : Type 0 where
  pub looks : (st : State) (hs : List ℕ) → S st hs → Looks st ts hs l₀ i n bs ys l

pub outer_start : (S : State → List ℕ → Type 0) (ts : List ℕ) (l : TierList) → Outer S ts l l 0 (replicate 8 0) (replicate 8 0) 0
outer_start S ts l = record { looks = λ st hs seen. look_start st ts hs l }

-- ---- the loop over offsets, on a segment of z blocks of node v that began with n₁ spans

-- from offset o on, with turns enough
pub record Left (st : State) (ts hs : List ℕ) (l₀ : TierList) (i v z o n : ℕ) (bs ys : List ℕ) (l : TierList) : Type 0 where
  pub more : ℕ
  pub enough : z ≤ o + more
  pub looking : Looking st ts hs l₀ (left_at st ts v z more o (lookup_path st ts (drop (i + 1) (resolve st.tree hs)))) n bs ys l

pub record Inner (S : State → List ℕ → Type 0) (ts : List ℕ) (i v z : ℕ) (l₁ : TierList) (n₁ : ℕ) (bs₁ ys₁ : List ℕ) (l : TierList) (n : ℕ) (bs ys : List ℕ) (o : ℕ) : Type 0 where
  pub within : o ≤ z
  pub left : (st : State) (hs : List ℕ) → S st hs → (l₀ : TierList) → Looks st ts hs l₀ i n₁ bs₁ ys₁ l₁ → Left st ts hs l₀ i v z o n bs ys l

-- a sound state of which these columns are seen
abbrev pub Sees : (ds : List ℕ) (c : Ranges) (bs rs pns pls : List ℕ) (segs : ℕ) (ts : List ℕ) → State → List ℕ → Type 0
Sees ds c bs rs pns pls segs ts = Seen ds c bs rs (path_list_of pns pls) segs ts

module _ {ds : List ℕ} {c : Ranges} {bs rs pns pls : List ℕ} {segs : ℕ} {ts : List ℕ} where
  pub inner_start : {i : ℕ} {l : TierList} {n : ℕ} {cs ys : List ℕ} → i < segs → Inner (Sees ds c bs rs pns pls segs ts) ts i (at pns i) (at pls i) l n cs ys l n cs ys 0
  inner_start {i} h =
      record {
        within = omega arith;
        left =
            λ st hs seen l₀ w.
            let s = seg-at seen i h in
            record {
              more = at pls i;
              enough = omega arith;
              looking =
                  look_as
                  (ap (lookup_path st ts) s.left ∙ path-more st ts (seg_at (at pns i) (at pls i)) (drop (i + 1) (resolve st.tree hs))) w;
            };
      }

  -- the segment's end
  pub outer_turn : {i v z : ℕ} {l₀ l₁ l : TierList} {n₁ n o : ℕ} {cs₁ ys₁ cs ys : List ℕ}
      → Outer (Sees ds c bs rs pns pls segs ts) ts l₀ l₁ n₁ cs₁ ys₁ i → Inner (Sees ds c bs rs pns pls segs ts) ts i v z l₁ n₁ cs₁ ys₁ l n cs ys o → z ≤ o → Outer (Sees ds c bs rs pns pls segs ts) ts l₀ l n cs ys (i + 1)
  outer_turn {i} {v} {z} {l₀} {o = o} a b h =
      record {
        looks =
            λ st hs seen.
            let w = b.left st hs seen l₀ (a.looks st hs seen) in
            look_as (left_end st ts v z (lookup_path st ts (drop (i + 1) (resolve st.tree hs))) w.more o (omega (arith, b.within))) w.looking;
      }

  -- the path's end
  pub outer_end : {l₀ l : TierList} {n i : ℕ} {cs ys : List ℕ} → Outer (Sees ds c bs rs pns pls segs ts) ts l₀ l n cs ys i → segs ≤ i
      → (st : State) (hs : List ℕ) → Sees ds c bs rs pns pls segs ts st hs → Told st ts hs l₀ l (record { spans = n; blocks = cs; bytes = ys })
  outer_end {i = i} a h st hs seen =
      look_end (look_as (ap (lookup_path st ts) (path-past seen i h) ∙ path-none st ts) (a.looks st hs seen))

-- ---- the loop over tiers: none of those before t holds offset o

pub record Passing (S : State → List ℕ → Type 0) (ts : List ℕ) (v o z t : ℕ) : Type 0 where
  pub within : t ≤ length ts
  pub same : (st : State) (hs : List ℕ) → S st hs → first_tier st t (drop t ts) v o z ≡ first_tier st 0 ts v o z

pub pass_start : (S : State → List ℕ → Type 0) (ts : List ℕ) (v o z : ℕ) → Passing S ts v o z 0
pass_start S ts v o z = record { within = omega arith; same = λ st hs seen. refl }

-- what the loop leaves: no tier holds the offset, or tier t does, up to e
pub record Holding (S : State → List ℕ → Type 0) (ts : List ℕ) (v o z t e : ℕ) : Type 0 where
  pub past : o < e
  pub within : e ≤ z
  pub tier : t < length ts
  pub is : (st : State) (hs : List ℕ) → S st hs → first_tier st 0 ts v o z ≡ Some (span_at t v o e)

pub record Missing (S : State → List ℕ → Type 0) (ts : List ℕ) (v o z : ℕ) : Type 0 where
  pub is : (st : State) (hs : List ℕ) → S st hs → first_tier st 0 ts v o z ≡ None

pub pass_end : {S : State → List ℕ → Type 0} {ts : List ℕ} {v o z t : ℕ} → Passing S ts v o z t → length ts ≤ t → Missing S ts v o z
pass_end {ts = ts} {v} {o} {z} {t} p h = record { is = λ st hs seen. sym (p.same st hs seen) ∙ tier-last st ts t v o z h }

module _ {ds : List ℕ} {c : Ranges} {bs rs pns pls : List ℕ} {segs : ℕ} {ts : List ℕ} {v o z t : ℕ} (r : Option ℕ)
    (p : Passing (Sees ds c bs rs pns pls segs ts) ts v o z t) (l : t < length ts)
    (tells : r ≡ range_end v o (ranges c (128 * at ts t) (at rs (at ts t)))) where
  pub pass_more : r ≡ None → Passing (Sees ds c bs rs pns pls segs ts) ts v o z (t + 1)
  pass_more q =
      record {
        within = omega arith;
        same =
            λ st hs seen.
            sym (tier-more st ts t v o z l (sym (tier-tells seen t v o r l tells) ∙ q)) ∙ p.same st hs seen;
      }

  -- that the range ends past o is known of one state that is seen, and so of the numbers
  pub pass_here : (e m : ℕ) → r ≡ Some e → m ≡ min e z → o < z → (st : State) (hs : List ℕ) → Sees ds c bs rs pns pls segs ts st hs → Holding (Sees ds c bs rs pns pls segs ts) ts v o z t m
  pass_here e m q k h st hs seen =
      let told : (st : State) (hs : List ℕ) → Sees ds c bs rs pns pls segs ts st hs → range_end v o (store_of st (at ts t)).ranges ≡ Some e =
      λ st hs seen. sym (tier-tells seen t v o r l tells) ∙ q in
      record {
        past = omega (arith, end-past v o e (store_of st (at ts t)).ranges (told st hs seen));
        within = omega arith;
        tier = l;
        is = λ st hs seen. sym (p.same st hs seen) ∙ tier-here st ts t v o z l e h (told st hs seen) ∙ ap (λ (x : ℕ). Some (span_at t v o x)) (sym k);
      }

-- the same where the search for a range has told of one
pub taken : {ds : List ℕ} {c : Ranges} {bs rs pns pls : List ℕ} {segs : ℕ} {ts : List ℕ} {v o z t e m : ℕ}
    → (st : State) × (hs : List ℕ) × Sees ds c bs rs pns pls segs ts st hs
    → Passing (Sees ds c bs rs pns pls segs ts) ts v o z t → t < length ts
    → Some e ≡ range_end v o (ranges c (128 * at ts t) (at rs (at ts t)))
    → m ≡ min e z → o < z → Holding (Sees ds c bs rs pns pls segs ts) ts v o z t m
taken {e = e} {m} seen p l tells k h = pass_here (Some e) p l tells e m refl k h seen.0 seen.1 seen.2

-- ---- one turn of the loop over offsets

-- what a turn may count on, where n spans and the sums cs, ys stand in the lists l, and tier t holds offset o up to e
pub record Turn (l : TierList) (n : ℕ) (cs ys : List ℕ) (o t e : ℕ) : Type 0 where
  pub few : n < 1024
  pub room : Room n l
  pub tier : t < 8
  pub covered : at cs t ≤ 1048576
  pub bytes : at ys t ≤ max_bytes * 1024
  pub span : e - o ≤ 1024

module _ {ds : List ℕ} {c : Ranges} {bs rs pns pls : List ℕ} {segs : ℕ} {ts : List ℕ} {i : ℕ} {l₁ : TierList} {n₁ : ℕ} {cs₁ ys₁ : List ℕ} {n o : ℕ} {cs ys : List ℕ} where
  -- no tier holds the offset: the walk stops
  pub stops : {l₀ l : TierList} → Outer (Sees ds c bs rs pns pls segs ts) ts l₀ l₁ n₁ cs₁ ys₁ i → Inner (Sees ds c bs rs pns pls segs ts) ts i (at pns i) (at pls i) l₁ n₁ cs₁ ys₁ l n cs ys o → o < at pls i
      → Missing (Sees ds c bs rs pns pls segs ts) ts (at pns i) o (at pls i)
      → (st : State) (hs : List ℕ) → Sees ds c bs rs pns pls segs ts st hs → Told st ts hs l₀ l (record { spans = n; blocks = cs; bytes = ys })
  stops {l₀} {l} a b h q st hs seen =
      let w = b.left st hs seen l₀ (a.looks st hs seen) in
      look_end
      (look_as (left-none st ts (at pns i) (at pls i) (lookup_path st ts (drop (i + 1) (resolve st.tree hs))) w.more o h (q.is st hs seen)) w.looking)

  -- tier t holds it up to e: what is left begins with this span
  pub next : {l₀ l : TierList} {t e : ℕ} → Inner (Sees ds c bs rs pns pls segs ts) ts i (at pns i) (at pls i) l₁ n₁ cs₁ ys₁ l n cs ys o → o < at pls i
      → Holding (Sees ds c bs rs pns pls segs ts) ts (at pns i) o (at pls i) t e → (st : State) (hs : List ℕ) → Sees ds c bs rs pns pls segs ts st hs → Looks st ts hs l₀ i n₁ cs₁ ys₁ l₁
      → (more : ℕ) × (at pls i ≤ e + more)
      × Looking st ts hs l₀ (span_at t (at pns i) o e ∷ left_at st ts (at pns i) (at pls i) more e (lookup_path st ts (drop (i + 1) (resolve st.tree hs)))) n cs ys l
  next {l₀} {l} {t} {e} b h q st hs seen a = go w.more w.enough w.looking
    where
      v : ℕ
      v = at pns i

      z : ℕ
      z = at pls i

      later : List TierSpan
      later = lookup_path st ts (drop (i + 1) (resolve st.tree hs))

      w : Left st ts hs l₀ i v z o n cs ys l
      w = b.left st hs seen l₀ a

      go : (m : ℕ) → z ≤ o + m → Looking st ts hs l₀ (left_at st ts v z m o later) n cs ys l
          → (more : ℕ) × (z ≤ e + more) × Looking st ts hs l₀ (span_at t v o e ∷ left_at st ts v z more e later) n cs ys l
      go zero f k = absurd (omega arith)
      go (suc m) f k = (m, omega (arith, q.past), look_as (left-more st ts v z later m o t e (q.is st hs seen)) k)

  pub turn : {l₀ l : TierList} {t e : ℕ} → TierFits l₀ → Outer (Sees ds c bs rs pns pls segs ts) ts l₀ l₁ n₁ cs₁ ys₁ i → i < segs
      → Inner (Sees ds c bs rs pns pls segs ts) ts i (at pns i) (at pls i) l₁ n₁ cs₁ ys₁ l n cs ys o → o < at pls i → Holding (Sees ds c bs rs pns pls segs ts) ts (at pns i) o (at pls i) t e
      → (st : State) (hs : List ℕ) → Sees ds c bs rs pns pls segs ts st hs → Turn l n cs ys o t e
  turn {l₀} {l} {t} {e} fits a less b h q st hs seen =
      let w = (next {t = t} {e = e} b h q st hs seen (a.looks st hs seen)).2 in
      let s = seg-at seen i less in
      let few : n < 1024 = omega (arith, look_room w, few-spans seen) in
      let small : t < 8 = omega (arith, q.tier, seen.tiers) in
      record {
        few = few;
        room = record {
          tier = omega (arith, fits.tier, w.long.tier);
          node = omega (arith, fits.node, w.long.node);
          start = omega (arith, fits.start, w.long.start);
          end = omega (arith, fits.end, w.long.end);
        };
        tier = small;
        covered = omega (arith, look_blocks w t small);
        bytes = omega (arith, look_bytes w t small);
        span = blocks-few seen (at pns i) o e (at pls i) s.node s.ends (omega (arith, q.past)) q.within;
      }

  -- both, from what the loop over tiers tells
  pub taken_turn : {l₀ l : TierList} {t e m : ℕ} → (st : State) × (hs : List ℕ) × Sees ds c bs rs pns pls segs ts st hs → TierFits l₀
      → Outer (Sees ds c bs rs pns pls segs ts) ts l₀ l₁ n₁ cs₁ ys₁ i → i < segs
      → Inner (Sees ds c bs rs pns pls segs ts) ts i (at pns i) (at pls i) l₁ n₁ cs₁ ys₁ l n cs ys o → o < at pls i
      → Passing (Sees ds c bs rs pns pls segs ts) ts (at pns i) o (at pls i) t → t < length ts
      → Some e ≡ range_end (at pns i) o (ranges c (128 * at ts t) (at rs (at ts t))) → m ≡ min e (at pls i)
      → Holding (Sees ds c bs rs pns pls segs ts) ts (at pns i) o (at pls i) t m × Turn l n cs ys o t m
  taken_turn seen fits a less b h p l tells k =
      let held = taken seen p l tells k h in
      (held, turn fits a less b h held seen.0 seen.1 seen.2)

  pub inner_turn : {tier node start end : List ℕ} {t e x : ℕ} → i < segs
      → Inner (Sees ds c bs rs pns pls segs ts) ts i (at pns i) (at pls i) l₁ n₁ cs₁ ys₁ (tier_list_of tier node start end) n cs ys o → o < at pls i → Holding (Sees ds c bs rs pns pls segs ts) ts (at pns i) o (at pls i) t e
      → Room n (tier_list_of tier node start end) → x ≡ bytes_of (only_depth ds) bs (at pns i) o e
      → Inner (Sees ds c bs rs pns pls segs ts) ts i (at pns i) (at pls i) l₁ n₁ cs₁ ys₁ (tier_list_of (set tier n t) (set node n (at pns i)) (set start n o) (set end n e)) (n + 1)
      (set cs t (at cs t + (e - o))) (set ys t (at ys t + x)) e
  inner_turn {tier} {node} {start} {end} {t} {e} {x} less inn h q room is =
      record {
        within = q.within;
        left =
            λ st hs seen l₀ f.
            let w = next {t = t} {e = e} inn h q st hs seen f in
            let s = seg-at seen i less in
            let order : o ≤ e = omega (arith, q.past) in
            let same = bytes-are seen (at pns i) o e (at pls i) s.node s.ends order q.within t x is in
            record {
              more = w.0;
              enough = w.1;
              looking =
                  look_more_lem t (at pns i) o e x w.2 room (omega (arith, q.tier, seen.tiers))
                  (blocks-few seen (at pns i) o e (at pls i) s.node s.ends order q.within) same
                  (omega (arith, same, bytes-few seen (at pns i) o e (at pls i) s.node s.ends order q.within t));
            };
      }
