-- Laws of `Each`: what a loop of tests cites, from nothing tested to all of it; and what `all` over the numbers from a up to b answers, which is whether each has P.
-- Assumes nothing.
use mathlib.Core.Logic.{⊎_elim}
use native.Mathlib.Nat.{eq-or-lt_of_le}
use Rattle.std.proofs.Common.{◌≡◌, ℕ, ◌+◌, ◌-◌, ◌≤◌, ◌<◌, Bool, true, false, List, length, get_or, subst, arith}
use Rattle.std.specs.Bool.{MatchBool}
use Rattle.std.specs.List.{AllWithin, HoldsAt, range_with_len}
use Rattle.std.proofs.lemmas.List.FromFn.{length-range_with_len, get_or-range_with_len}
use Rattle.model.specs.Words.{Says, Each}

pub each_none : (P : ℕ → Type 0) (a : ℕ) → Each a a P
each_none P a k h l = absurd (omega arith)

module _ {P : ℕ → Type 0} where
  pub each_more : {a i : ℕ} → Each a i P → P i → Each a (i + 1) P
  each_more {a} {i} all here k h l =
      ⊎_elim (λ e. rw e here) (λ lt. all k h (omega arith)) (let g : k ≤ i = omega arith in eq-or-lt_of_le g)

  pub each-whole : {a i n : ℕ} → Each a i P → n ≤ i → Each a n P
  each-whole all g k h l = all k h (omega arith)

  pub each_not : {a n i : ℕ} → a ≤ i → i < n → (P i → ⊥) → Each a n P → ⊥
  each_not {i = i} h l miss all = miss (all i h l)

module _ (P : ℕ → Type 0) (a b : ℕ) where
  pub each_says : (r : Bool)
      → MatchBool r (AllWithin P (range_with_len a (b - a)) 0 (length (range_with_len a (b - a)))) ((k : ℕ) × (k < length (range_with_len a (b - a))) × HoldsAt (λ i. P i → ⊥) (range_with_len a (b - a)) k)
      → Says r (Each a b P)
  each_says true m = λ i h l.
      let long = length-range_with_len a (b - a) in
      let e : get_or (range_with_len a (b - a)) (i - a) 0 ≡ i = let g = get_or-range_with_len a (b - a) (i - a) 0 (omega arith) in omega arith in
      subst P e (m (i - a) 0 (omega arith) (omega arith))
  each_says false m = λ all.
      let long = length-range_with_len a (b - a) in
      let e = get_or-range_with_len a (b - a) m.0 0 (omega (arith, m.1)) in
      m.2 0 (all (get_or (range_with_len a (b - a)) m.0 0) (omega arith) (omega (arith, m.1)))
