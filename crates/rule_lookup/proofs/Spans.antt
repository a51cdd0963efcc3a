-- Laws of the walk through tiers, over variables: the spans found so far, and those that the definition still has to find, are together the lookup. Each
-- turn moves one span over, writes it behind those that stand in the lists, and adds it to its tier's sums. Assumes nothing.
use Prim.Native.Nat.{ℕ, zero, suc, ◌+◌, ◌-◌, ◌*◌, ◌≤◌, ◌<◌, min}
use mathlib.Core.Bool.{Bool, true, false}
use mathlib.Core.List.{List, [], ◌∷◌, ◌++◌, map, append-nil, map-append}
use mathlib.Core.Logic.{◌⊎◌, inl, inr, ⊎_elim}
use Rattle.std.specs.Prelude.{Option, None, Some}
use mathlib.Core.Path.{◌≡◌, refl, sym, ap, ◌∙◌, subst}
use native.Mathlib.Numerals.{add-one}
use native.Mathlib.Omega.{arith}
use native.Mathlib.Nat.{mul-suc}
use lib.ListN.{length, drop, set, replicate, length-append, length-map, length-set, drop_of_length-le}
use lib.Dec.{ltb, eqb}
use lib.Seq.{drop-cons, append_snoc, ext_get_or, get_or-set_same, get_or-set_other}
use borrow.Author.Tests.{lt-ltb, le-ltb, eq-eqb, ne_eqb, eqb-true, eqb-false}
use Rattle.model.specs.Sizes.{max_bytes, max_hashes}
use Rattle.model.specs.State.{State, at}
use Rattle.model.specs.Store.{store_of}
use Rattle.model.specs.Tree.{Seg, resolve}
use Rattle.model.specs.Lookup.{TierSpan, Looked, reach, first_tier, along, lookup_path, span_blocks, span_bytes, if_tier, tier_sum, tier_sums}
use Rattle.model.specs.Refusals.{TierList}
use Rattle.model.specs.Calls.{front, lay_tiers}
use Rattle.pool_out.proofs.Laws.{front-more}
use Rattle.rule_lookup.specs.Tiers.{range_end, Told}
use Rattle.shape_answer.specs.Lists.{tier_list_of}
use Rattle.rule_lookup.proofs.Laws.{reach-some, reach-none, end-past, reach-within}

abbrev pub span_at : ℕ → ℕ → ℕ → ℕ → TierSpan
span_at t n o e = record { tier = t; node = n; start = o; end = e }

-- ---- the first tier that holds a block

tier-turn : (st : State) (ts : List ℕ) (t v o z e : ℕ) (b : Bool) → t < length ts → reach v o z (store_of st (at ts t)).ranges ≡ e → ltb o e ≡ b
    → first_tier st t (drop t ts) v o z
    ≡ elim b as (λ x. Option TierSpan) [ true ↦ Some (span_at t v o e) | false ↦ first_tier st (suc t) (drop (suc t) ts) v o z ]
unfolding first_tier
tier-turn st ts t v o z e b l p q =
    ap (λ (ss : List ℕ). first_tier st t ss v o z) (drop-cons ts t 0 l)
    ∙ ap (λ (x : ℕ). elim (ltb o x) as (λ y. Option TierSpan) [ true ↦ Some (span_at t v o x) | false ↦ first_tier st (suc t) (drop (suc t) ts) v o z ]) p
    ∙ ap (λ (y : Bool). elim y as (λ y. Option TierSpan) [ true ↦ Some (span_at t v o e) | false ↦ first_tier st (suc t) (drop (suc t) ts) v o z ]) q

module _ (st : State) (ts : List ℕ) (t v o z : ℕ) (l : t < length ts) where
  pub tier-here : (e : ℕ) → o < z → range_end v o (store_of st (at ts t)).ranges ≡ Some e → first_tier st t (drop t ts) v o z ≡ Some (span_at t v o (min e z))
  tier-here e h p =
      let past : o < min e z = omega (arith, end-past v o e (store_of st (at ts t)).ranges p) in
      tier-turn st ts t v o z (min e z) true l (reach-some v o z e (store_of st (at ts t)).ranges p) (lt-ltb o (min e z) past)

  pub tier-more : range_end v o (store_of st (at ts t)).ranges ≡ None → first_tier st t (drop t ts) v o z ≡ first_tier st (t + 1) (drop (t + 1) ts) v o z
  tier-more p =
      rw add-one (tier-turn st ts t v o z o false l (reach-none v o z (store_of st (at ts t)).ranges p) (le-ltb o o (omega arith)))

pub tier-last : (st : State) (ts : List ℕ) (t v o z : ℕ) → length ts ≤ t → first_tier st t (drop t ts) v o z ≡ None
unfolding first_tier
tier-last st ts t v o z l = ap (λ (ss : List ℕ). first_tier st t ss v o z) (drop_of_length-le ts l)

-- past a segment's end there is none
tier-past : (st : State) (t : ℕ) (ts : List ℕ) (v o z : ℕ) → z ≤ o → first_tier st t ts v o z ≡ None
unfolding first_tier
tier-past st t [] v o z h = refl
tier-past st t (s ∷ ss) v o z h =
    let e = reach v o z (store_of st s).ranges in
    ap (λ (b : Bool). elim b as (λ x. Option TierSpan) [ true ↦ Some (span_at t v o e) | false ↦ first_tier st (suc t) ss v o z ])
    (le-ltb o e (reach-within v o z (store_of st s).ranges h))
    ∙ tier-past st (suc t) ss v o z h

-- ---- along a segment

-- the spans along a segment of z blocks, and those behind it where they reach its end
abbrev pub up_to : Looked → ℕ → List TierSpan → List TierSpan
up_to l z later = elim (eqb l.stop z) as (λ x. List TierSpan) [ true ↦ l.spans ++ later | false ↦ l.spans ]

-- what is left from offset o on
abbrev pub left_at : State → List ℕ → ℕ → ℕ → ℕ → ℕ → List TierSpan → List TierSpan
left_at st ts v z more o later = up_to (along st ts v z more o (first_tier st 0 ts v o z)) z later

module _ (st : State) (ts : List ℕ) (v z : ℕ) (later : List TierSpan) where
  along-none : (more o : ℕ) → first_tier st 0 ts v o z ≡ None → along st ts v z more o (first_tier st 0 ts v o z) ≡ record { spans = []; stop = o }
  unfolding along
  along-none zero o e = refl
  along-none (suc more) o e = ap (λ (f : Option TierSpan). along st ts v z (suc more) o f) e

  -- no tier holds the offset
  pub left-none : (more o : ℕ) → o < z → first_tier st 0 ts v o z ≡ None → left_at st ts v z more o later ≡ []
  left-none more o h e =
      ap (λ (l : Looked). up_to l z later) (along-none more o e)
      ∙ ap (λ (b : Bool). elim b as (λ x. List TierSpan) [ true ↦ later | false ↦ [] ]) (ne_eqb o z (λ q. omega arith))

  -- the segment's end
  pub left_end : (more o : ℕ) → o ≡ z → left_at st ts v z more o later ≡ later
  left_end more o h =
      ap (λ (l : Looked). up_to l z later) (along-none more o (tier-past st 0 ts v o z (omega arith)))
      ∙ ap (λ (b : Bool). elim b as (λ x. List TierSpan) [ true ↦ later | false ↦ [] ]) (eq-eqb o z h)

  -- a tier holds it
  pub left-more : (more o t e : ℕ) → first_tier st 0 ts v o z ≡ Some (span_at t v o e)
      → left_at st ts v z (suc more) o later ≡ span_at t v o e ∷ left_at st ts v z more e later
  unfolding along
  left-more more o t e p =
      ap (λ (f : Option TierSpan). up_to (along st ts v z (suc more) o f) z later) p
      ∙ go (along st ts v z more e (first_tier st 0 ts v e z)) (eqb (along st ts v z more e (first_tier st 0 ts v e z)).stop z)
    where
      go : (l : Looked) (b : Bool)
          → elim b as (λ x. List TierSpan) [ true ↦ (span_at t v o e ∷ l.spans) ++ later | false ↦ span_at t v o e ∷ l.spans ]
          ≡ span_at t v o e ∷ elim b as (λ x. List TierSpan) [ true ↦ l.spans ++ later | false ↦ l.spans ]
      go l true = refl
      go l false = refl

pub path-none : (st : State) (ts : List ℕ) → lookup_path st ts [] ≡ []
unfolding lookup_path
path-none st ts = refl

pub path-more : (st : State) (ts : List ℕ) (s : Seg) (ss : List Seg)
    → lookup_path st ts (s ∷ ss) ≡ left_at st ts s.node s.len s.len 0 (lookup_path st ts ss)
unfolding lookup_path
path-more st ts s ss = refl

-- ---- sums

sum_more : (f : TierSpan → ℕ) (j : ℕ) (ss : List TierSpan) (s : TierSpan) → tier_sum f j (ss ++ (s ∷ [])) ≡ tier_sum f j ss + if_tier (eqb s.tier j) (f s)
unfolding tier_sum
sum_more f j [] s = omega arith
sum_more f j (x ∷ ss) s = omega (arith, sum_more f j ss s)

pub sums_length : (f : TierSpan → ℕ) (i n : ℕ) (ss : List TierSpan) → length (tier_sums f i n ss) ≡ n
unfolding tier_sums
sums_length f i zero ss = refl
sums_length f i (suc n) ss = ap suc (sums_length f (suc i) n ss)

pub sums_at : (f : TierSpan → ℕ) (i n : ℕ) (ss : List TierSpan) (j : ℕ) → j < n → at (tier_sums f i n ss) j ≡ tier_sum f (i + j) ss
unfolding tier_sums
sums_at f i zero ss j h = absurd (omega arith)
sums_at f i (suc n) ss zero h = let e : i ≡ i + 0 = omega arith in ap (λ (k : ℕ). tier_sum f k ss) e
sums_at f i (suc n) ss (suc j) h =
    let e : suc i + j ≡ i + suc j = omega arith in
    sums_at f (suc i) n ss j (omega arith) ∙ ap (λ (k : ℕ). tier_sum f k ss) e

or_not : (a b : ℕ) → (a ≡ b) ⊎ (a ≡ b → ⊥)
or_not a b = go (eqb a b) refl
  where
    go : (x : Bool) → eqb a b ≡ x → (a ≡ b) ⊎ (a ≡ b → ⊥)
    go true e = inl (eqb-true a b e)
    go false e = inr (eqb-false a b e)

-- a span added to its tier's sum
pub sums-more : (f : TierSpan → ℕ) (n : ℕ) (ss : List TierSpan) (s : TierSpan) (t y : ℕ) → s.tier ≡ t → f s ≡ y → t < n
    → set (tier_sums f 0 n ss) t (at (tier_sums f 0 n ss) t + y) ≡ tier_sums f 0 n (ss ++ (s ∷ []))
sums-more f n ss s t y e g h =
    ext_get_or 0 _ _ (simp (length-set, sums_length)) (λ j l. at_each j (let k : j < n = simp (length-set, sums_length) at l in k))
  where
    new : (j : ℕ) → j < n → at (tier_sums f 0 n (ss ++ (s ∷ []))) j ≡ at (tier_sums f 0 n ss) j + if_tier (eqb s.tier j) (f s)
    new j k = let z : 0 + j ≡ j = omega arith in
        sums_at f 0 n (ss ++ (s ∷ [])) j k ∙ sum_more f (0 + j) ss s ∙ rw (z, sums_at f 0 n ss j k, z)

    at_each : (j : ℕ) → j < n → at (set (tier_sums f 0 n ss) t (at (tier_sums f 0 n ss) t + y)) j ≡ at (tier_sums f 0 n (ss ++ (s ∷ []))) j
    at_each j k =
        ⊎_elim
        (λ (same : j ≡ t).
        rw same (get_or-set_same (tier_sums f 0 n ss) t (at (tier_sums f 0 n ss) t + y) 0 (omega (arith, sums_length f 0 n ss))
        ∙ ap (λ (b : Bool). at (tier_sums f 0 n ss) t + if_tier b y) (sym (eq-eqb s.tier t e))
        ∙ ap (λ (x : ℕ). at (tier_sums f 0 n ss) t + if_tier (eqb s.tier t) x) (sym g)
        ∙ sym (new t h)))
        (λ (other : j ≡ t → ⊥).
        get_or-set_other (tier_sums f 0 n ss) t j (at (tier_sums f 0 n ss) t + y) 0 other
        ∙ omega (arith, new j k, ap (λ (b : Bool). if_tier b (f s)) (ne_eqb s.tier j (λ q. other (sym q ∙ e)))))
        (or_not j t)

-- a sum of at most m a span
pub sum_low : (f : TierSpan → ℕ) (m j n : ℕ) (ss : List TierSpan) (s : TierSpan) → tier_sum f j ss ≤ m * n → f s ≤ m → tier_sum f j (ss ++ (s ∷ [])) ≤ m * suc n
sum_low f m j n ss s h l =
    let e : m * suc n ≡ m * n + m = mul-suc m n in
    omega (arith, sum_more f j ss s, at_most (eqb s.tier j))
  where
    at_most : (b : Bool) → if_tier b (f s) ≤ f s
    at_most true = omega arith
    at_most false = omega arith

-- ---- the walk

-- lists as long as those at first
pub record AsLong (l₀ l : TierList) : Type 0 where
  pub tier : length l.tier ≡ length l₀.tier
  pub node : length l.node ≡ length l₀.node
  pub start : length l.start ≡ length l₀.start
  pub end : length l.end ≡ length l₀.end

-- the lists l, the number of spans and the sums tell of the spans found so far; `rest` are those that the definition still has to find
pub record Looking (st : State) (ts hs : List ℕ) (l₀ : TierList) (rest : List TierSpan) (n : ℕ) (bs ys : List ℕ) (l : TierList) : Type 0 where
  pub found : List TierSpan
  pub count : length found ≡ n
  pub long : AsLong l₀ l
  pub lists : l ≡ lay_tiers found l₀
  pub blocks : bs ≡ tier_sums span_blocks 0 8 found
  pub bytes : ys ≡ tier_sums (span_bytes st) 0 8 found
  pub few_blocks : (j : ℕ) → tier_sum span_blocks j found ≤ max_hashes * n
  pub few_bytes : (j : ℕ) → tier_sum (span_bytes st) j found ≤ max_bytes * n
  pub whole : lookup_path st ts (resolve st.tree hs) ≡ found ++ rest

pub look_start : (st : State) (ts hs : List ℕ) (l : TierList) → Looking st ts hs l (lookup_path st ts (resolve st.tree hs)) 0 (replicate 8 0) (replicate 8 0) l
unfolding tier_sums tier_sum
look_start st ts hs l =
    record {
      found = [];
      count = refl;
      long = record { tier = refl; node = refl; start = refl; end = refl };
      lists = refl;
      blocks = refl;
      bytes = refl;
      few_blocks = λ j. omega arith;
      few_bytes = λ j. omega arith;
      whole = refl;
    }

-- the rest is written in another way
pub look_as : {st : State} {ts hs : List ℕ} {l₀ l : TierList} {rest rest' : List TierSpan} {n : ℕ} {bs ys : List ℕ} → rest ≡ rest'
    → Looking st ts hs l₀ rest n bs ys l → Looking st ts hs l₀ rest' n bs ys l
look_as {st} {ts} {hs} {l₀} {l} {n = n} {bs} {ys} e = subst (λ (r : List TierSpan). Looking st ts hs l₀ r n bs ys l) e

pub look_end : {st : State} {ts hs : List ℕ} {l₀ l : TierList} {n : ℕ} {bs ys : List ℕ} → Looking st ts hs l₀ [] n bs ys l
    → Told st ts hs l₀ l (record { spans = n; blocks = bs; bytes = ys })
look_end {st} {ts} {hs} {l₀} w =
    let all : w.found ≡ lookup_path st ts (resolve st.tree hs) = sym (w.whole ∙ append-nil w.found) in
    record {
      lists = w.lists ∙ ap (λ (ss : List TierSpan). lay_tiers ss l₀) all;
      spans = sym w.count ∙ ap length all;
      blocks = w.blocks ∙ ap (tier_sums span_blocks 0 8) all;
      bytes = w.bytes ∙ ap (tier_sums (span_bytes st) 0 8) all;
    }

-- the next span is one of the lookup's
pub look_room : {st : State} {ts hs : List ℕ} {l₀ l : TierList} {s : TierSpan} {rest : List TierSpan} {n : ℕ} {bs ys : List ℕ}
    → Looking st ts hs l₀ (s ∷ rest) n bs ys l → n < length (lookup_path st ts (resolve st.tree hs))
look_room w = omega (arith, w.count, simp length-append at (ap length w.whole))

spans-more : (f : TierSpan → ℕ) (ss : List TierSpan) (s : TierSpan) (l : List ℕ) (n : ℕ) → length ss ≡ n → n < length l
    → set (front (map f ss) l) n (f s) ≡ front (map f (ss ++ (s ∷ []))) l
spans-more f ss s l n e h =
    let k : length (map f ss) ≡ n = length-map ss f ∙ e in
    rw map-append (subst (λ (m : ℕ). set (front (map f ss) l) m (f s) ≡ front (map f ss ++ (f s ∷ [])) l) k (front-more (map f ss) (f s) l (omega arith)))

-- a place for the next span in each list
pub record Room (n : ℕ) (l : TierList) : Type 0 where
  pub tier : n < length l.tier
  pub node : n < length l.node
  pub start : n < length l.start
  pub end : n < length l.end

-- one more span, written and summed
pub look_more_lem : {st : State} {ts hs : List ℕ} {l₀ : TierList} {rest : List TierSpan} {n : ℕ} {bs ys a b c d : List ℕ} (t v o e x : ℕ)
    → Looking st ts hs l₀ (span_at t v o e ∷ rest) n bs ys (tier_list_of a b c d) → Room n (tier_list_of a b c d) → t < 8 → e - o ≤ max_hashes
    → x ≡ span_bytes st (span_at t v o e) → x ≤ max_bytes
    → Looking st ts hs l₀ rest (n + 1) (set bs t (at bs t + (e - o))) (set ys t (at ys t + x)) (tier_list_of (set a n t) (set b n v) (set c n o) (set d n e))
look_more_lem {st} {ts} {hs} {l₀} {rest} {n} {bs} {ys} {a} {b} {c} {d} t v o e x w room less few same low =
    rw add-one (record {
      found = found;
      count = omega (arith, w.count, length-append w.found (span_at t v o e ∷ []));
      long = record {
        tier = length-set a n t ∙ w.long.tier;
        node = length-set b n v ∙ w.long.node;
        start = length-set c n o ∙ w.long.start;
        end = length-set d n e ∙ w.long.end;
      };
      lists =
          ap (λ (l : TierList). tier_list_of (set l.tier n t) (set l.node n v) (set l.start n o) (set l.end n e)) w.lists
          ∙ written (spans-more (λ s. s.tier) w.found (span_at t v o e) l₀.tier n w.count (omega (arith, room.tier, w.long.tier)))
          (spans-more (λ s. s.node) w.found (span_at t v o e) l₀.node n w.count (omega (arith, room.node, w.long.node)))
          (spans-more (λ s. s.start) w.found (span_at t v o e) l₀.start n w.count (omega (arith, room.start, w.long.start)))
          (spans-more (λ s. s.end) w.found (span_at t v o e) l₀.end n w.count (omega (arith, room.end, w.long.end)));
      blocks = rw w.blocks (sums-more span_blocks 8 w.found (span_at t v o e) t (e - o) refl refl less);
      bytes = rw w.bytes (sums-more (span_bytes st) 8 w.found (span_at t v o e) t x refl (sym same) less);
      few_blocks = λ j. sum_low span_blocks max_hashes j n w.found (span_at t v o e) (w.few_blocks j) few;
      few_bytes = λ j. sum_low (span_bytes st) max_bytes j n w.found (span_at t v o e) (w.few_bytes j) (rw same at low);
      whole = w.whole ∙ sym (append_snoc w.found (span_at t v o e) rest);
    })
  where
    found : List TierSpan
    found = w.found ++ (span_at t v o e ∷ [])

    written : {a' b' c' d' a'' b'' c'' d'' : List ℕ} → a' ≡ a'' → b' ≡ b'' → c' ≡ c'' → d' ≡ d'' → tier_list_of a' b' c' d' ≡ tier_list_of a'' b'' c'' d''
    written p q r s = cc

-- the sums so far are small
pub look_blocks : {st : State} {ts hs : List ℕ} {l₀ l : TierList} {rest : List TierSpan} {n : ℕ} {bs ys : List ℕ} → Looking st ts hs l₀ rest n bs ys l
    → (t : ℕ) → t < 8 → at bs t ≤ max_hashes * n
look_blocks w t h = rw (w.blocks, sums_at span_blocks 0 8 w.found t h) (w.few_blocks (0 + t))

pub look_bytes : {st : State} {ts hs : List ℕ} {l₀ l : TierList} {rest : List TierSpan} {n : ℕ} {bs ys : List ℕ} → Looking st ts hs l₀ rest n bs ys l
    → (t : ℕ) → t < 8 → at ys t ≤ max_bytes * n
look_bytes {st} w t h = rw (w.bytes, sums_at (span_bytes st) 0 8 w.found t h) (w.few_bytes (0 + t))
