-- Laws of chains by bucket, over any bucket function b and any set U of indices. Assumes nothing.
use Prim.Native.Nat.{ℕ, zero, suc, ◌+◌, ◌≤◌, ◌<◌}
use mathlib.Core.Path.{◌≡◌, refl, sym, ◌∙◌, subst, ap}
use mathlib.Core.List.{List}
use mathlib.Core.Logic.{◌⊎◌, ⊎_elim}
use native.Mathlib.Nat.{eq-or-lt_of_le}
use native.Mathlib.Decide.{ℕ_discrete}
use native.Mathlib.Omega.{arith}
use lib.ListN.{length, get_or, set, replicate}
use Rattle.std.proofs.Common.{Option, None, Some}
use lib.Seq.{get_or-set_same, get_or-set_other}
use Rattle.theory_refuse.proofs.Says.{le_or_lt}
use Rattle.test_tree.specs.Chain.{Chain, Heads, reach, linked}

pub lt_more : {k i : ℕ} → k < i + 1 → (k ≡ i) ⊎ (k < i)
lt_more {k} {i} l = let g : k ≤ i = omega arith in eq-or-lt_of_le g

-- the walk along the bucket c, at the link `at`: above it nothing hits
pub record Walk (b : ℕ → ℕ) (U hit : ℕ → Type 0) (c from at : ℕ) : Type 0 where
  pub hi : at ≤ from
  pub here : (j : ℕ) → at ≡ j + 1 → U j × (b j ≡ c)
  pub past : (k : ℕ) → at ≤ k → k < from → U k → hit k → ⊥

-- what a write at place i links
pub linked-same : (ls : List (Option ℕ)) (i : ℕ) (v : Option ℕ) → i < length ls → linked (set ls i v) i ≡ reach v
linked-same ls i v n = ap reach (get_or-set_same ls i v None n)

pub linked-other : (ls : List (Option ℕ)) (i k : ℕ) (v : Option ℕ) → (k ≡ i → ⊥) → linked (set ls i v) k ≡ linked ls k
linked-other ls i k v ne = ap reach (get_or-set_other ls i k v None ne)

pub linked-none : (n k : ℕ) → linked (replicate n None) k ≡ 0
linked-none zero k = refl
linked-none (suc n) zero = refl
linked-none (suc n) (suc k) = linked-none n k

module _ {b : ℕ → ℕ} {U : ℕ → Type 0} where
  pub walk_step : {prev : List (Option ℕ)} {hit : ℕ → Type 0} {c from at : ℕ} → Chain b U prev from → Walk b U hit c from at → ((k : ℕ) → hit k → b k ≡ c)
      → (j : ℕ) → at ≡ j + 1 → (hit j → ⊥) → Walk b U hit c from (linked prev j)
  walk_step {prev} {hit} {c} {from} {at} ch w hc j e miss =
      let h = w.here j e in
      let l : j < from = omega (arith, w.hi) in
      let d = ch.down j l h.0 in
      record {
        hi = omega arith;
        here = λ m q. let s = ch.link j m l h.0 q in (s.0, s.1 ∙ h.1);
        past = λ k g lt u ht. ⊎_elim
            (λ (a : at ≤ k). w.past k a lt u ht)
            (λ (a : k < at). ⊎_elim (λ (q : k ≡ j). miss (subst hit q ht)) (λ (q : k < j). ch.gap j k l h.0 g q u (hc k ht ∙ sym h.1))
            (let f : k ≤ j = omega arith in eq-or-lt_of_le f))
            (le_or_lt at k);
      }

  pub chain_skip : {prev : List (Option ℕ)} {i : ℕ} → Chain b U prev i → (U i → ⊥) → Chain b U prev (i + 1)
  chain_skip {prev} {i} ch out = record {
    down = λ k l u. ch.down k (below k l u) u;
    gap = λ k j l u. ch.gap k j (below k l u) u;
    link = λ k j l u. ch.link k j (below k l u) u;
  }
    where
      below : (k : ℕ) → k < i + 1 → U k → k < i
      below k l u = ⊎_elim (λ e. absurd (out (subst U e u))) (λ q. q) (lt_more l)

  pub heads_skip : {last : List (Option ℕ)} {i : ℕ} → Heads b U last i → (U i → ⊥) → Heads b U last (i + 1)
  heads_skip {last} {i} h out = record {
    top = λ c. omega (arith, h.top c);
    gap = λ j l u. h.gap j (⊎_elim (λ e. absurd (out (subst U e u))) (λ q. q) (lt_more l)) u;
    link = h.link;
  }

  pub chain-add : {prev last : List (Option ℕ)} {i : ℕ} → Chain b U prev i → Heads b U last i → i < length prev → U i → Chain b U (set prev i (get_or last (b i) None)) (i + 1)
  chain-add {prev} {last} {i} ch h n ui = record {
    down = λ k l u. ⊎_elim (λ (e : k ≡ i). rw (e, same) (h.top (b i))) (λ lt. rw (other k lt) (ch.down k lt u)) (lt_more l);
    gap = λ k j l u. ⊎_elim
        (λ (e : k ≡ i). rw (e, same) (λ g lt uj q. h.gap j lt uj (rw q g)))
        (λ lt. rw (other k lt) (ch.gap k j lt u))
        (lt_more l);
    link = λ k j l u. ⊎_elim (λ (e : k ≡ i). rw (e, same) (λ q. h.link (b i) j q)) (λ lt. rw (other k lt) (ch.link k j lt u)) (lt_more l);
  }
    where
      same : linked (set prev i (get_or last (b i) None)) i ≡ linked last (b i)
      same = linked-same prev i (get_or last (b i) None) n

      other : (k : ℕ) → k < i → linked (set prev i (get_or last (b i) None)) k ≡ linked prev k
      other k l = linked-other prev i k (get_or last (b i) None) (omega arith)

  pub heads-add : {last : List (Option ℕ)} {i : ℕ} → Heads b U last i → b i < length last → U i → Heads b U (set last (b i) (Some i)) (i + 1)
  heads-add {last} {i} h n ui = record {
    top = λ c. at c (ℕ_discrete c (b i));
    gap = λ j l u g. up j l u g (ℕ_discrete (b j) (b i));
    link = λ c j q. to c j q (ℕ_discrete c (b i));
  }
    where
      same : linked (set last (b i) (Some i)) (b i) ≡ i + 1
      same = linked-same last (b i) (Some i) n

      other : (c : ℕ) → (c ≡ b i → ⊥) → linked (set last (b i) (Some i)) c ≡ linked last c
      other c ne = linked-other last (b i) c (Some i) ne

      at : (c : ℕ) → Dec (c ≡ b i) → linked (set last (b i) (Some i)) c ≤ i + 1
      at c (yes e) = rw (e, same) (omega arith)
      at c (no ne) = rw (other c ne) (omega (arith, h.top c))

      up : (j : ℕ) → j < i + 1 → U j → linked (set last (b i) (Some i)) (b j) ≤ j → Dec (b j ≡ b i) → ⊥
      up j l u g (yes e) = let q : linked (set last (b i) (Some i)) (b j) ≡ i + 1 = rw e same in omega arith
      up j l u g (no ne) = ⊎_elim (λ (e : j ≡ i). ne (rw e)) (λ lt. h.gap j lt u (rw (other (b j) ne) at g)) (lt_more l)

      to : (c j : ℕ) → linked (set last (b i) (Some i)) c ≡ j + 1 → Dec (c ≡ b i) → U j × (b j ≡ c)
      to c j q (yes e) =
          let f : i + 1 ≡ j + 1 = sym same ∙ (rw e at q) in
          let g : j ≡ i = omega arith in
          rw (g, e) (ui, refl)
      to c j q (no ne) = h.link c j (rw (other c ne) at q)

pub chain-none : (b : ℕ → ℕ) (U : ℕ → Type 0) (prev : List (Option ℕ)) → Chain b U prev 0
chain-none b U prev = record { down = λ k l. absurd (omega arith); gap = λ k j l. absurd (omega arith); link = λ k j l. absurd (omega arith) }

pub heads-none : (b : ℕ → ℕ) (U : ℕ → Type 0) (n : ℕ) → Heads b U (replicate n None) 0
heads-none b U n = record {
  top = λ c. rw (linked-none n c) (omega arith);
  gap = λ j l. absurd (omega arith);
  link = λ c j q. absurd (let z = linked-none n c in omega arith);
}

pub chain-less : {b : ℕ → ℕ} {U : ℕ → Type 0} {prev : List (Option ℕ)} {i m : ℕ} → Chain b U prev i → m ≤ i → Chain b U prev m
chain-less {m = m} ch h = record {
  down = λ k l. ch.down k (omega arith);
  gap = λ k j l. ch.gap k j (omega arith);
  link = λ k j l. ch.link k j (omega arith);
}
