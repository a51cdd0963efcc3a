-- The halving rule, if the first position agrees, stops at an edge: a position that agrees, with none left after it or one that does not. Assumes nothing.
use Prim.Native.Nat.{ℕ, zero, suc, ◌+◌, ◌-◌, ◌/◌, ◌≤◌, ◌<◌}
use mathlib.Core.Bool.{Bool, true, false, true≢false}
use mathlib.Core.Path.{◌≡◌, refl, sym, ap, ◌∙◌}
use native.Mathlib.Omega.{arith}
use lib.Dec.{ltb}
use borrow.Author.Tests.{ltb-true, ltb-false}
use Rattle.model.specs.Tree.{halve, matching}

-- of c positions the one before m agrees, and m, if it is one, does not
pub record Edge (agree : ℕ → Bool) (c m : ℕ) : Type 0 where
  pub filled : 1 ≤ m
  pub within : m ≤ c
  pub last : agree (m - 1) ≡ true
  pub next : m < c → agree m ≡ false

module _ (agree : ℕ → Bool) (c : ℕ) where
  -- n turns are enough for every lo and hi
  abbrev Halved : ℕ → Type 0
  Halved n = (lo hi : ℕ) → hi ≤ lo + n → lo < hi → hi < c → agree lo ≡ true → agree hi ≡ false → Edge agree c (halve agree n lo hi)

  halve_edge : (n : ℕ) → Halved n
  unfolding halve
  halve_edge zero lo hi f l u p q = absurd (omega arith)
  halve_edge (suc n) lo hi f l u p q = go (ltb 1 (hi - lo)) (agree ((lo + hi) / 2)) refl refl (halve_edge n)
    where
      go : (a b : Bool) → ltb 1 (hi - lo) ≡ a → agree ((lo + hi) / 2) ≡ b → Halved n
          → Edge agree c (elim a as (λ x. ℕ) [
            | true ↦ elim b as (λ x. ℕ) [ true ↦ halve agree n ((lo + hi) / 2) hi | false ↦ halve agree n lo ((lo + hi) / 2) ]
            | false ↦ suc lo
          ])
      go true true e m ih = ih ((lo + hi) / 2) hi (omega (arith, ltb-true)) (omega (arith, ltb-true)) u m q
      go true false e m ih = ih lo ((lo + hi) / 2) (omega (arith, ltb-true)) (omega (arith, ltb-true)) (omega (arith, ltb-true)) p m
      go false b e m ih =
          let one : hi ≡ suc lo = omega (arith, ltb-false) in
          let back : suc lo - 1 ≡ lo = omega arith in
          record { filled = omega arith; within = omega arith; last = ap agree back ∙ p; next = λ l. rw one at q }

  pub matching_edge : 1 ≤ c → agree 0 ≡ true → Edge agree c (matching agree c)
  unfolding matching
  matching_edge some first = go (agree (c - 1)) refl
    where
      apart : (k : ℕ) → agree k ≡ false → 0 < k
      apart zero q = absurd (true≢false (sym first ∙ q))
      apart (suc k) q = omega arith

      go : (b : Bool) → agree (c - 1) ≡ b → Edge agree c (elim b as (λ x. ℕ) [ true ↦ c | false ↦ halve agree c 0 (c - 1) ])
      go true e = record { filled = some; within = omega arith; last = e; next = λ l. absurd (omega arith) }
      go false e = halve_edge c 0 (c - 1) (omega arith) (apart (c - 1) e) (omega arith) first e
