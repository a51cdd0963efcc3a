-- What holds of the n places from a of a pool holds of a + k for each k below n. Assumes nothing.
use Prim.Native.Nat.{ℕ, ◌+◌, ◌-◌}
use mathlib.Core.Path.{◌≡◌, subst}
use native.Mathlib.Omega.{arith}
use Rattle.model.specs.Words.{Each, Pairs}
use Rattle.test_store.specs.Places.{PairsFrom}

module _ (P : ℕ → Type 0) {a n : ℕ} where
  pub each_of : Each a (a + n) P → Each 0 n (λ k. P (a + k))
  each_of h k f l = h (a + k) (omega arith) (omega arith)

  pub each_at : Each 0 n (λ k. P (a + k)) → Each a (a + n) P
  each_at h i f l = let e : a + (i - a) ≡ i = omega arith in subst P e (h (i - a) (omega arith) (omega arith))

module _ (R : ℕ → ℕ → Type 0) {a n : ℕ} where
  pub pairs_of : PairsFrom a (a + n) R → Pairs n (λ j k. R (a + j) (a + k))
  pairs_of h j k l g = h (a + j) (a + k) (omega arith) (omega arith) (omega arith)

  pub pairs-at : Pairs n (λ j k. R (a + j) (a + k)) → PairsFrom a (a + n) R
  pairs-at h i j f l g =
      let e : a + (i - a) ≡ i = omega arith in
      let d : a + (j - a) ≡ j = omega arith in
      subst (λ (m : ℕ). R m j) e (subst (R (a + (i - a))) d (h (i - a) (j - a) (omega arith) (omega arith)))
