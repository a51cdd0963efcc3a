-- Laws of one store, over variables: a scan for the range that holds a block has left to do what the definition has. Assumes nothing.
use Prim.Native.Nat.{ℕ, zero, suc, ◌+◌, ◌≤◌, ◌<◌, min}
use mathlib.Core.Bool.{Bool, true, false, ◌&&◌}
use mathlib.Core.List.{List, [], ◌∷◌}
use Rattle.std.specs.Prelude.{Option, None, Some}
use mathlib.Core.Path.{◌≡◌, refl, sym, ap, ◌∙◌}
use mathlib.Core.Logic.{⊎_elim}
use native.Mathlib.Nat.{eq-or-lt_of_le}
use native.Mathlib.Omega.{arith}
use lib.Dec.{ltb, leb, eqb}
use borrow.Author.Tests.{ltb-true}
use Rattle.model.specs.State.{Ranges, Range, at, range_at}
use Rattle.model.specs.Store.{ranges}
use Rattle.model.specs.Lookup.{holds, reach}
use Rattle.rule_lookup.specs.Tiers.{range_end}

-- ---- the scan of a store

module _ (c : Ranges) (v o : ℕ) where
  scan-none : (n a : ℕ) → ((j : ℕ) → a ≤ j → j < a + n → holds v o (range_at c j) ≡ false) → None ≡ range_end v o (ranges c a n)
  unfolding range_end ranges
  scan-none zero a none = refl
  scan-none (suc n) a none =
      scan-none n (suc a) (λ j k l. none j (omega arith) (omega arith))
      ∙ sym (ap (λ (x : Bool). elim x as (λ z. Option ℕ) [ true ↦ Some (at c.end a) | false ↦ range_end v o (ranges c (suc a) n) ]) (none a (omega arith) (omega arith)))

  scan-some : (n a i : ℕ) → a ≤ i → i < a + n → holds v o (range_at c i) ≡ true → ((j : ℕ) → a ≤ j → j < i → holds v o (range_at c j) ≡ false)
      → Some (at c.end i) ≡ range_end v o (ranges c a n)
  unfolding range_end ranges
  scan-some zero a i k l one none = absurd (omega arith)
  scan-some (suc n) a i k l one none =
      ⊎_elim
      (λ (e : a ≡ i).
      let here : holds v o (range_at c a) ≡ true = rw e one in
      sym (ap (λ (j : ℕ). Some (at c.end j)) e)
      ∙ sym (ap (λ (x : Bool). elim x as (λ z. Option ℕ) [ true ↦ Some (at c.end a) | false ↦ range_end v o (ranges c (suc a) n) ]) here))
      (λ (m : a < i).
      scan-some n (suc a) i (omega arith) (omega arith) one (λ j q r. none j (omega arith) r)
      ∙ sym (ap (λ (x : Bool). elim x as (λ z. Option ℕ) [ true ↦ Some (at c.end a) | false ↦ range_end v o (ranges c (suc a) n) ]) (none a (omega arith) m)))
      (eq-or-lt_of_le k)

  -- none of the n records from a on holds the block, or i is the first that does
  pub end-none : (a n : ℕ) → ((j : ℕ) → a ≤ j → j < a + n → holds v o (range_at c j) ≡ false) → None ≡ range_end v o (ranges c a n)
  end-none a n none = scan-none n a none

  pub end-some : (a n i : ℕ) → (a ≤ i) × (i < a + n) × (holds v o (range_at c i) ≡ true) × ((j : ℕ) → a ≤ j → j < i → holds v o (range_at c j) ≡ false)
      → Some (at c.end i) ≡ range_end v o (ranges c a n)
  end-some a n i f = scan-some n a i f.0 f.1 f.2 f.3

-- the end looks at three columns alone
pub three : (v o : ℕ) (c d : Ranges) (a n : ℕ) → c.node ≡ d.node → c.start ≡ d.start → c.end ≡ d.end → range_end v o (ranges c a n) ≡ range_end v o (ranges d a n)
unfolding range_end ranges
three v o c d a zero p q r = refl
three v o c d a (suc n) p q r =
    let more = three v o c d (suc a) n p q r in
    let here : holds v o (range_at c a) ≡ holds v o (range_at d a) = cc in
    let end : at c.end a ≡ at d.end a = cc in
    ap (λ (x : Bool). elim x as (λ z. Option ℕ) [ true ↦ Some (at c.end a) | false ↦ range_end v o (ranges c (suc a) n) ]) here
    ∙ ap (λ (e : ℕ). elim (holds v o (range_at d a)) as (λ z. Option ℕ) [ true ↦ Some e | false ↦ range_end v o (ranges c (suc a) n) ]) end
    ∙ ap (λ (e : Option ℕ). elim (holds v o (range_at d a)) as (λ z. Option ℕ) [ true ↦ Some (at d.end a) | false ↦ e ]) more

-- ---- the definition's reach, from the end that was found

pub reach-some : (v o z e : ℕ) (rs : List Range) → range_end v o rs ≡ Some e → reach v o z rs ≡ min e z
unfolding range_end reach
reach-some v o z e [] h = let z : ◌≡◌ {A = ℕ} 0 1 = cc in absurd (omega arith)
reach-some v o z e (r ∷ rs) h = go (reach-some v o z e rs) (holds v o r) h
  where
    go : (range_end v o rs ≡ Some e → reach v o z rs ≡ min e z) → (b : Bool)
        → elim b as (λ x. Option ℕ) [ true ↦ Some r.end | false ↦ range_end v o rs ] ≡ Some e
        → elim b as (λ x. ℕ) [ true ↦ min r.end z | false ↦ reach v o z rs ] ≡ min e z
    go ih true q = let same : r.end ≡ e = cc in ap (λ (x : ℕ). min x z) same
    go ih false q = ih q

pub reach-none : (v o z : ℕ) (rs : List Range) → range_end v o rs ≡ None → reach v o z rs ≡ o
unfolding range_end reach
reach-none v o z [] h = refl
reach-none v o z (r ∷ rs) h = go (reach-none v o z rs) (holds v o r) h
  where
    go : (◌≡◌ {A = Option ℕ} (range_end v o rs) None → reach v o z rs ≡ o) → (b : Bool)
        → ◌≡◌ {A = Option ℕ} (elim b as (λ x. Option ℕ) [ true ↦ Some r.end | false ↦ range_end v o rs ]) None
        → elim b as (λ x. ℕ) [ true ↦ min r.end z | false ↦ reach v o z rs ] ≡ o
    go ih true q = let z : ◌≡◌ {A = ℕ} 0 1 = cc in absurd (omega arith)
    go ih false q = ih q

-- a range that holds a block ends past it
pub end-past : (v o e : ℕ) (rs : List Range) → range_end v o rs ≡ Some e → o < e
unfolding range_end
end-past v o e [] h = let z : ◌≡◌ {A = ℕ} 0 1 = cc in absurd (omega arith)
end-past v o e (r ∷ rs) h = go (end-past v o e rs) (holds v o r) refl h
  where
    past : (a b : Bool) → (a && (b && ltb o r.end)) ≡ true → o < r.end
    past true true q = ltb-true o r.end q
    past true false q = let z : ◌≡◌ {A = ℕ} 0 1 = cc in absurd (omega arith)
    past false b q = let z : ◌≡◌ {A = ℕ} 0 1 = cc in absurd (omega arith)

    go : (range_end v o rs ≡ Some e → o < e) → (b : Bool) → holds v o r ≡ b
        → elim b as (λ x. Option ℕ) [ true ↦ Some r.end | false ↦ range_end v o rs ] ≡ Some e → o < e
    go ih true p q = let same : r.end ≡ e = cc in omega (arith, past (eqb r.node v) (leb r.start o) p)
    go ih false p q = ih q

-- no reach goes past the segment's end
pub reach-within : (v o z : ℕ) (rs : List Range) → z ≤ o → reach v o z rs ≤ o
unfolding reach
reach-within v o z [] h = omega arith
reach-within v o z (r ∷ rs) h = go (holds v o r) (reach-within v o z rs h)
  where
    go : (b : Bool) → reach v o z rs ≤ o → elim b as (λ x. ℕ) [ true ↦ min r.end z | false ↦ reach v o z rs ] ≤ o
    go true ih = omega arith
    go false ih = ih
