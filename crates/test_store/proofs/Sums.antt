-- The sums of lengths, and of lengths times counts, one place further; and no count of a nonempty entry is above the whole sum. Assumes nothing.
use Prim.Native.Nat.{ℕ, zero, suc, ◌+◌, ◌-◌, ◌*◌, ◌≤◌, ◌<◌}
use mathlib.Core.Path.{◌≡◌, refl}
use mathlib.Core.List.{List}
use mathlib.Core.Logic.{⊎_elim}
use native.Mathlib.Nat.{mul-le-mul, eq-or-lt_of_le, le_of_suc-le-suc}
use native.Mathlib.Omega.{arith}
use Rattle.model.specs.State.{at}
use Rattle.test_store.specs.Records.{held_from}
use Rattle.test_store.specs.Pins.{pinned_from}

pub held_none : (start end : List ℕ) (a : ℕ) → 0 ≡ held_from start end a (a - a)
unfolding held_from
held_none start end a = let e : a - a ≡ 0 = omega arith in rw e refl

pub held_more : (start end : List ℕ) (a k : ℕ) → a ≤ k → held_from start end a (k + 1 - a) ≡ held_from start end a (k - a) + (at end k - at start k)
unfolding held_from
held_more start end a k h =
    let e : k + 1 - a ≡ suc (k - a) = omega arith in
    let here : a + (k - a) ≡ k = omega arith in
    rw e (rw here)

pub product : (l t : ℕ) → l ≤ 1024 → t ≤ 1000000 → l * t ≤ 1024000000
product l t h g = mul-le-mul h g

-- once: a nonempty entry's product is at least its count
once : (l t : ℕ) → 1 ≤ l → t ≤ l * t
once l t h = let p : 1 * t ≤ l * t = mul-le-mul h (omega arith) in omega arith

module _ (start end count : List ℕ) (a : ℕ) where
  pub pinned_none : 0 ≡ pinned_from start end count a (a - a)
  unfolding pinned_from
  pinned_none = let e : a - a ≡ 0 = omega arith in rw e refl

  pub pinned-more : (k : ℕ) → a ≤ k → pinned_from start end count a (k + 1 - a) ≡ pinned_from start end count a (k - a) + (at end k - at start k) * at count k
  unfolding pinned_from
  pinned-more k h =
      let e : k + 1 - a ≡ suc (k - a) = omega arith in
      let here : a + (k - a) ≡ k = omega arith in
      rw e (rw here)

  -- no product is above the sum
  pinned_has : (n i : ℕ) → i < n → (at end (a + i) - at start (a + i)) * at count (a + i) ≤ pinned_from start end count a n
  unfolding pinned_from
  pinned_has zero i l = absurd (omega arith)
  pinned_has (suc n) i l =
      ⊎_elim (λ (e : i ≡ n). rw e (omega arith)) (λ (m : i < n). omega (arith, pinned_has n i m)) (eq-or-lt_of_le (le_of_suc-le-suc l))

  pub pinned_too_much : (n k pinned : ℕ) → a ≤ k → k < a + n → at start k < at end k → 1000000 < at count k → pinned ≤ 1000000 → pinned ≡ pinned_from start end count a n → ⊥
  pinned_too_much n k pinned g l some much few e =
      let here : a + (k - a) ≡ k = omega arith in
      let h : (at end k - at start k) * at count k ≤ pinned_from start end count a n = rw here at (pinned_has n (k - a) (omega arith)) in
      let o = once (at end k - at start k) (at count k) (omega arith) in
      omega arith
