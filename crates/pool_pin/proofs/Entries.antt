-- A list of entries: `add_pin` and `take_pin` pass the entries that an entry is behind, and what they make is decided where the next one stands.
-- Assumes nothing.
use Prim.Native.Nat.{ℕ, zero, suc, ◌+◌, ◌-◌, ◌≤◌, ◌<◌}
use mathlib.Core.Path.{◌≡◌, refl, ap, ◌∙◌}
use mathlib.Core.Bool.{Bool, true, false}
use mathlib.Core.List.{List, [], ◌∷◌, ◌++◌}
use native.Mathlib.Omega.{arith}
use lib.ListN.{length, get_or, set, take, drop}
use Rattle.model.specs.State.{Pin}
use Rattle.model.specs.Pins.{same_span, pin_ahead, counted, add_pin, one_less, take_pin}
use Rattle.pool_range.specs.Cols.{insert_at}

-- what `add_pin` makes where q stands, by its two tests
abbrev pub added : Bool → Bool → Pin → Pin → List Pin → List Pin
added true a p q qs = counted q (q.count + p.count) ∷ qs
added false true p q qs = p ∷ q ∷ qs
added false false p q qs = q ∷ add_pin p qs

pub add_is : (p q : Pin) (qs : List Pin) (s a : Bool) → same_span p q ≡ s → pin_ahead p q ≡ a → add_pin p (q ∷ qs) ≡ added s a p q qs
unfolding add_pin
add_is p q qs s a e f = go (same_span p q) (pin_ahead p q) s a e f
  where
    go : (x y s a : Bool) → x ≡ s → y ≡ a
        → ◌≡◌ {A = List Pin}
        (elim x [
          | true ↦ counted q (q.count + p.count) ∷ qs
          | false ↦ elim y [ true ↦ p ∷ q ∷ qs | false ↦ q ∷ add_pin p qs ]
        ])
        (added s a p q qs)
    go true y s a e f = rw (← e)
    go false true s a e f = rw (← e, ← f)
    go false false s a e f = rw (← e, ← f)

-- p is behind the first n entries
abbrev pub Behind : Pin → List Pin → ℕ → Type 0
Behind p ps n = (k : ℕ) → k < n → (same_span p (get_or ps k p) ≡ false) × (pin_ahead p (get_or ps k p) ≡ false)

module _ (p : Pin) where
  further : (q : Pin) (qs : List Pin) (n : ℕ) → Behind p (q ∷ qs) (suc n) → Behind p qs n
  further q qs n b k h = b (suc k) (omega arith)

  -- what `take_pin` makes where q stands, by its test
  take_is : (q : Pin) (qs : List Pin) (s : Bool) → same_span p q ≡ s
      → take_pin p (q ∷ qs) ≡ elim s as (λ z. List Pin) [ true ↦ one_less q.count q qs | false ↦ q ∷ take_pin p qs ]
  unfolding take_pin
  take_is q qs s e = ap (λ (b : Bool). elim b as (λ z. List Pin) [ true ↦ one_less q.count q qs | false ↦ q ∷ take_pin p qs ]) e

  -- the entry after those is of p's span
  pub add-there : (ps : List Pin) (n : ℕ) → Behind p ps n → n < length ps → same_span p (get_or ps n p) ≡ true
      → add_pin p ps ≡ set ps n (counted (get_or ps n p) ((get_or ps n p).count + p.count))
  add-there [] n b h e = absurd (omega arith)
  add-there (q ∷ qs) zero b h e = add_is p q qs true (pin_ahead p q) e refl
  add-there (q ∷ qs) (suc n) b h e =
      add_is p q qs false false (b 0 (omega arith)).0 (b 0 (omega arith)).1
      ∙ ap (λ (l : List Pin). q ∷ l) (add-there qs n (further q qs n b) (omega arith) e)

  pub take_there : (ps : List Pin) (n : ℕ) → Behind p ps n → n < length ps → same_span p (get_or ps n p) ≡ true
      → take_pin p ps ≡ take n ps ++ one_less (get_or ps n p).count (get_or ps n p) (drop (suc n) ps)
  take_there [] n b h e = absurd (omega arith)
  take_there (q ∷ qs) zero b h e = take_is q qs true e
  take_there (q ∷ qs) (suc n) b h e =
      take_is q qs false (b 0 (omega arith)).0
      ∙ (ap (λ (l : List Pin). q ∷ l) (take_there qs n (further q qs n b) (omega arith) e))

  -- p goes in there
  pub add-new : (ps : List Pin) (n : ℕ) → Behind p ps n → n ≤ length ps
      → (n < length ps → (same_span p (get_or ps n p) ≡ false) × (pin_ahead p (get_or ps n p) ≡ true)) → add_pin p ps ≡ insert_at n p ps
  unfolding add_pin insert_at
  add-new [] zero b h e = refl
  add-new [] (suc n) b h e = absurd (omega arith)
  add-new (q ∷ qs) zero b h e = add_is p q qs false true (e (omega arith)).0 (e (omega arith)).1
  add-new (q ∷ qs) (suc n) b h e =
      add_is p q qs false false (b 0 (omega arith)).0 (b 0 (omega arith)).1
      ∙ ap (λ (l : List Pin). q ∷ l) (add-new qs n (further q qs n b) (omega arith) (λ l. e (omega arith)))

-- one less: the entry goes with its last
pub less-count : (v : ℕ) (q : Pin) (qs : List Pin) → 1 < v → one_less v q qs ≡ counted q (v - 1) ∷ qs
less-count zero q qs h = absurd (omega arith)
less-count (suc zero) q qs h = absurd (omega arith)
less-count (suc (suc n)) q qs h = let e : suc (suc n) - 1 ≡ suc n = omega arith in rw e

pub less-gone : (v : ℕ) (q : Pin) (qs : List Pin) → v ≤ 1 → one_less v q qs ≡ qs
less-gone zero q qs h = refl
less-gone (suc zero) q qs h = refl
less-gone (suc (suc n)) q qs h = absurd (omega arith)
