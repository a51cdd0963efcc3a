-- The marks after some nodes: each word of a run has its node's number, any other 0; so a run overlaps an earlier one exactly where a word of it is marked.
-- Assumes nothing.
use Prim.Native.Nat.{ℕ, zero, suc, ◌+◌, ◌≤◌, ◌<◌}
use native.Mathlib.Nat.{eq-or-lt_of_le}
use native.Mathlib.Decide.{ℕ_discrete}
use mathlib.Core.Path.{◌≡◌, refl, sym, ◌∙◌}
use mathlib.Core.List.{List}
use mathlib.Core.Logic.{◌⊎◌, ⊎_elim, inl, inr}
use native.Mathlib.Omega.{arith}
use lib.ListN.{length, get_or, replicate, length-replicate}
use Rattle.theory_refuse.proofs.Says.{le_or_lt}
use Rattle.test_tree.specs.Runs.{In, OneOwner, Filled, Free}
use Rattle.std.proofs.Common.{Bool, true, false, ◌-◌, ◌≢◌, rules}
use Rattle.std.specs.Bool.{MatchBool}
use Rattle.std.specs.List.{AllWithin, HoldsAt, between}
use Rattle.std.proofs.lemmas.List.Edits.{length-between, get_or-between}
use Rattle.std.proofs.lemmas.List.{places}
use borrow.Rule.Slice.PartMut.{put_mid}
use Rattle.model.specs.Words.{Says}

-- the test of each word from a up to b says whether all are free
pub free_says : (r : Bool) (e : List ℕ) (a b : ℕ) → a ≤ b → b ≤ length e
    → MatchBool r (AllWithin (λ x. x ≡ 0) (between a b e) 0 (length (between a b e))) ((k : ℕ) × (k < length (between a b e)) × HoldsAt (λ x. x ≢ 0) (between a b e) k)
    → Says r (Free e a b)
unfolding Free
free_says true e a b le n m = λ j f l.
    let long : length (between a b e) ≡ b - a = length-between e a b n in
    let here : a + (j - a) ≡ j = omega arith in
    rw (← here) (sym (get_or-between e a b (j - a) 0 (omega arith)) ∙ m (j - a) 0 (omega arith) (omega arith))
free_says false e a b le n m = λ f.
    let long : length (between a b e) ≡ b - a = length-between e a b n in
    m.2 0 (get_or-between e a b m.0 0 (omega (arith, m.1)) ∙ f (a + m.0) (omega arith) (omega (arith, m.1)))

-- filled with who from a up to b
pub filled-with : (e ys : List ℕ) (a b who : ℕ) → a ≤ b → b ≤ length e → ys ≡ replicate (b - a) who → Filled e (put_mid a (b - a) e ys) a b who
filled-with e ys a b who le n f = record {
  inside = λ j g l. rw f (search (rules, places));
  below = λ j l. rw f (search (rules, places));
  above = λ j l. rw f (search (rules, places));
}

-- the marks after the nodes before i: each word of a run has its node's number, and any other word 0
pub record Owned (start len own : List ℕ) (i : ℕ) : Type 0 where
  pub long : length own ≡ 4096
  pub owner : (j k : ℕ) → 1 ≤ k → k < i → In start len k j → get_or own j 0 ≡ k
  pub known : (j : ℕ) → (get_or own j 0 ≡ 0 → ⊥) → In start len (get_or own j 0) j × (1 ≤ get_or own j 0) × (get_or own j 0 < i)

zeros : (n j : ℕ) → ◌≡◌ {A = ℕ} (get_or (replicate n 0) j 0) 0
zeros zero j = refl
zeros (suc n) zero = refl
zeros (suc n) (suc j) = zeros n j

pub owned_none : (start len : List ℕ) → Owned start len (replicate 4096 0) 1
owned_none start len = record {
  long = length-replicate {A = ℕ} 4096 0;
  owner = λ j k h l _. absurd (omega arith);
  known = λ j h. absurd (h (zeros 4096 j));
}

pub owned_more : {start len x y : List ℕ} {i a b : ℕ} → Owned start len x i → a ≡ get_or start i 0 → b ≡ get_or start i 0 + get_or len i 0 → 1 ≤ i
    → length y ≡ length x → Free x a b → Filled x y a b i → Owned start len y (i + 1)
unfolding Free
owned_more {start} {len} {x} {y} {i} {a} {b} o ea eb pos long free f = record {
  long = long ∙ o.long;
  owner = λ j k h l m. ⊎_elim (λ (e : k ≡ i). mine j k e m) (λ lt. old j k h lt m (where_is j)) (eq_or_lt k l);
  known = λ j h. seen j h (where_is j);
}
  where
    eq_or_lt : (k : ℕ) → k < i + 1 → (k ≡ i) ⊎ (k < i)
    eq_or_lt k l = let g : k ≤ i = omega arith in eq-or-lt_of_le g

    where_is : (j : ℕ) → ((a ≤ j) × (j < b)) ⊎ ((j < a) ⊎ (b ≤ j))
    where_is j = ⊎_elim (λ p. ⊎_elim (λ q. inr (inr q)) (λ q. inl (p, q)) (le_or_lt b j)) (λ p. inr (inl p)) (le_or_lt a j)

    same : (j : ℕ) → (j < a) ⊎ (b ≤ j) → get_or y j 0 ≡ get_or x j 0
    same j = ⊎_elim (λ p. f.below j p) (λ p. f.above j p)

    mine : (j k : ℕ) → k ≡ i → In start len k j → get_or y j 0 ≡ k
    mine j k e m = rw e (let m' : In start len i j = rw e at m in f.inside j (omega (arith, m'.low)) (omega (arith, m'.high)))

    old : (j k : ℕ) → 1 ≤ k → k < i → In start len k j → ((a ≤ j) × (j < b)) ⊎ ((j < a) ⊎ (b ≤ j)) → get_or y j 0 ≡ k
    old j k h l m = ⊎_elim (λ p. absurd (let z : get_or x j 0 ≡ 0 = free j p.0 p.1 in omega (arith, o.owner j k h l m))) (λ p. same j p ∙ o.owner j k h l m)

    seen : (j : ℕ) → (get_or y j 0 ≡ 0 → ⊥) → ((a ≤ j) × (j < b)) ⊎ ((j < a) ⊎ (b ≤ j)) → In start len (get_or y j 0) j × (1 ≤ get_or y j 0) × (get_or y j 0 < i + 1)
    seen j h = ⊎_elim (λ p. rw (f.inside j p.0 p.1) (record { low = omega arith; high = omega arith }, pos, omega arith))
        (λ p. rw (same j p) (let n : get_or x j 0 ≡ 0 → ⊥ = λ z. h (same j p ∙ z) in let k = o.known j n in (k.0, k.1, omega arith)))

pub owned_miss : {start len x : List ℕ} {i a b count : ℕ} → Owned start len x i → a ≡ get_or start i 0 → b ≡ get_or start i 0 + get_or len i 0 → 1 ≤ i → i < count
    → (Free x a b → ⊥) → OneOwner start len count → ⊥
unfolding Free OneOwner
owned_miss {start} {len} {x} {i} {a} {b} {count} o ea eb pos l miss one = miss (λ j h g. zero-at j h g (ℕ_discrete (get_or x j 0) 0))
  where
    zero-at : (j : ℕ) → a ≤ j → j < b → Dec (get_or x j 0 ≡ 0) → get_or x j 0 ≡ 0
    zero-at j h g (yes e) = e
    zero-at j h g (no ne) = absurd (let k = o.known j ne in let e : get_or x j 0 ≡ i = one j (get_or x j 0) k.1 (omega arith) i pos l k.0 (record { low = omega arith; high = omega arith }) in omega arith)

pub owned_one : {start len x : List ℕ} {i count : ℕ} → Owned start len x i → count ≤ i → OneOwner start len count
unfolding OneOwner
owned_one o h j a pa la b pb lb ia ib = sym (o.owner j a pa (omega arith) ia) ∙ o.owner j b pb (omega arith) ib
