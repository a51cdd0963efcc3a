-- The outcome of a call that may be refused: with number 0 it is the call's own, with any other the state and the lists are given back.
use Prim.Native.Nat.{ℕ, zero, suc}
use mathlib.Core.Path.{◌≡◌, refl, sym, ap}
use native.Mathlib.Omega.{arith}
use Rattle.model.specs.State.{State}
use Rattle.model.specs.Calls.{Outcome, refused, done, unless}

module _ {L A : Type 0} (st : State) (l : L) (o : Outcome L A) where
  pub unless-none : (k : ℕ) → k ≡ 0 → unless k st l o ≡ o
  unless-none k e = ap (λ (n : ℕ). unless n st l o) e

  pub unless-some : (k n : ℕ) → k ≡ n → (n ≡ 0 → ⊥) → unless k st l o ≡ record { state = st; lists = l; answer = refused n }
  unless-some zero n e some = absurd (some (sym e))
  unless-some (suc k) n e some = ap (λ (m : ℕ). record { state = st; lists = l; answer = refused m }) e

  -- only number 0 comes with an answer
  pub unless-zero : (k : ℕ) {v : A} → (unless k st l o).answer ≡ done v → k ≡ 0
  unless-zero zero e = refl
  unless-zero (suc k) e = let z : ◌≡◌ {A = ℕ} 0 1 = cc in absurd (omega arith)
