-- A loop over chains by bucket that finds whether two indices that count are alike, over any relation `Same` that keeps to a bucket. Assumes nothing.
use Prim.Native.Nat.{ℕ, ◌+◌, ◌≤◌, ◌<◌}
use mathlib.Core.Path.{◌≡◌, sym, ◌∙◌, subst}
use mathlib.Core.List.{List}
use mathlib.Core.Logic.{⊎_elim}
use native.Mathlib.Omega.{arith}
use lib.ListN.{length, get_or, set, length-set, replicate, length-replicate}
use Rattle.theory_refuse.proofs.Says.{le_or_lt}
use Rattle.std.proofs.Common.{Option, None, Some}
use Rattle.test_tree.specs.Chain.{Chain, Heads, Apart, New, linked}
use Rattle.test_tree.proofs.Chain.{lt_more, chain-none, heads-none, chain_skip, heads_skip, chain-add, heads-add}

pub record Met (size : ℕ) (b : ℕ → ℕ) (U : ℕ → Type 0) (Same : ℕ → ℕ → Type 0) (last prev : List (Option ℕ)) (i : ℕ) : Type 0 where
  pub nlast : length last ≡ size
  pub nprev : length prev ≡ size
  pub chain : Chain b U prev i
  pub heads : Heads b U last i
  pub apart : Apart U Same i

module _ {size : ℕ} {b : ℕ → ℕ} {U : ℕ → Type 0} {Same : ℕ → ℕ → Type 0} {last prev : List (Option ℕ)} {i : ℕ} where
  pub met_skip : Met size b U Same last prev i → (U i → ⊥) → Met size b U Same last prev (i + 1)
  met_skip s out = record {
    nlast = s.nlast;
    nprev = s.nprev;
    chain = chain_skip s.chain out;
    heads = heads_skip s.heads out;
    apart = λ j k lj lk uj uk e. s.apart j k (less j lj uj) (less k lk uk) uj uk e;
  }
    where
      less : (j : ℕ) → j < i + 1 → U j → j < i
      less j l u = ⊎_elim (λ e. absurd (out (subst U e u))) (λ q. q) (lt_more l)

  pub met_add : Met size b U Same last prev i → ((j k : ℕ) → Same j k → b j ≡ b k) → ((j k : ℕ) → Same j k → Same k j)
      → i < size → b i < size → U i → New U Same (linked last (b i)) i → Met size b U Same (set last (b i) (Some i)) (set prev i (get_or last (b i) None)) (i + 1)
  met_add s keep turn l lb u f = record {
    nlast = length-set last (b i) (Some i) ∙ s.nlast;
    nprev = length-set prev i (get_or last (b i) None) ∙ s.nprev;
    chain = chain-add s.chain s.heads (omega (arith, s.nprev)) u;
    heads = heads-add s.heads (omega (arith, s.nlast)) u;
    apart = λ j k lj lk uj uk e. ⊎_elim
        (λ (ej : j ≡ i). ⊎_elim (λ (ek : k ≡ i). ej ∙ sym ek) (λ lt. absurd (new k lt uk (subst (λ (m : ℕ). Same k m) ej (turn j k e)))) (lt_more lk))
        (λ lt. ⊎_elim (λ (ek : k ≡ i). absurd (new j lt uj (subst (λ (m : ℕ). Same j m) ek e))) (λ lt'. s.apart j k lt lt' uj uk e) (lt_more lk))
        (lt_more lj);
  }
    where
      new : (k : ℕ) → k < i → U k → Same k i → ⊥
      new k lt uk e = ⊎_elim
          (λ (g : linked last (b i) ≤ k). s.heads.gap k lt uk (rw (keep k i e) g))
          (λ g. f k g uk e)
          (le_or_lt (linked last (b i)) k)

  pub met_miss : {n : ℕ} → Met size b U Same last prev i → i < n → U i → (New U Same (linked last (b i)) i → ⊥) → Apart U Same n → ⊥
  met_miss s l u miss d =
      miss (λ k g uk e. let h = s.heads.top (b i) in let q : k ≡ i = d k i (omega arith) l uk u e in omega arith)

  pub met_all : {n : ℕ} → Met size b U Same last prev i → n ≤ i → Apart U Same n
  met_all s h j k lj lk = s.apart j k (omega arith) (omega arith)

pub met_none : (size : ℕ) (b : ℕ → ℕ) (U : ℕ → Type 0) (Same : ℕ → ℕ → Type 0) → Met size b U Same (replicate size None) (replicate size None) 0
met_none size b U Same = record {
  nlast = length-replicate {A = Option ℕ} size None;
  nprev = length-replicate {A = Option ℕ} size None;
  chain = chain-none _ _ _;
  heads = heads-none _ _ size;
  apart = λ j k l. absurd (omega arith);
}
