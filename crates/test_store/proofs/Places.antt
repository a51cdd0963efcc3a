-- A test of neighbours tells of every two places, where R goes on over the one between. Assumes nothing.
use Rattle.std.proofs.Common.{◌≡◌, ℕ, zero, suc, ◌+◌, ◌-◌, ◌≤◌, ◌<◌, Bool, true, false, List, subst, arith}
use mathlib.Core.Logic.{⊎_elim}
use native.Mathlib.Nat.{eq-or-lt_of_le}
use Rattle.model.specs.Words.{Says, Each}
use Rattle.model.specs.State.{at}
use Rattle.test_store.specs.Places.{PairsFrom}
use Rattle.test_store.specs.Records.{BeforeAt}
use Rattle.test_store.specs.Pins.{PinBeforeAt}

module _ {R : ℕ → ℕ → Type 0} {a b : ℕ} where
  pub pairs_says : (r : Bool) → ((i j k : ℕ) → a ≤ i → i < j → j < k → k < b → R i j → R j k → R i k) → Says r (Each (a + 1) b (λ i. R (i - 1) i))
      → Says r (PairsFrom a b R)
  pairs_says true over near = λ j k. go k j
    where
      next : (i : ℕ) → a ≤ i → suc i < b → R i (suc i)
      next i h l = let d : suc i - 1 ≡ i = omega arith in subst (λ (n : ℕ). R n (suc i)) d (near (suc i) (omega arith) l)

      go : (k j : ℕ) → a ≤ j → j < k → k < b → R j k
      go zero j h l g = absurd (omega arith)
      go (suc k) j h l g =
          ⊎_elim
          (λ (e : j ≡ k). let d : k ≡ j = omega arith in subst (λ (n : ℕ). R n (suc k)) d (next k (omega arith) g))
          (λ (lt : j < k). over j k (suc k) h lt (omega arith) g (go k j h lt (omega arith)) (next k (omega arith) g))
          (let f : j ≤ k = omega arith in eq-or-lt_of_le f)
  pairs_says false over far = λ all. far (λ i h l. all (i - 1) i (omega arith) (omega arith) l)

module _ {node start end : List ℕ} {i j k : ℕ} where
  pub before-over : at start j < at end j → BeforeAt node start end i j → BeforeAt node start end j k → BeforeAt node start end i k
  before-over some a b =
      let p = a.by_node in
      let q = b.by_node in
      record { by_node = omega arith; apart = λ e. omega (arith, a.apart (omega arith), b.apart (omega arith)) }

  pub pin-over : PinBeforeAt node start end i j → PinBeforeAt node start end j k → PinBeforeAt node start end i k
  pin-over a b =
      let p = a.by_node in
      let q = b.by_node in
      record {
        by_node = omega arith;
        by_start = λ e. omega (arith, a.by_start (omega arith), b.by_start (omega arith));
        by_end = λ e f.
            let x = a.by_start (omega arith) in
            let y = b.by_start (omega arith) in
            omega (arith, a.by_end (omega arith) (omega arith), b.by_end (omega arith) (omega arith));
      }
