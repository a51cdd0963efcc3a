-- What stands at a place after adding: what stood there and all that was added there. So places that a call does not name keep their numbers, and no sum passes
-- the limit where none was to. Assumes nothing.
use Prim.Native.Nat.{ℕ, ◌+◌, ◌≤◌, ◌<◌}
use mathlib.Core.Path.{◌≡◌, refl, ap, ◌∙◌}
use mathlib.Core.Logic.{inl, inr, ◌≢◌}
use mathlib.Core.List.{List, [], ◌∷◌}
use native.Mathlib.Omega.{arith}
use native.Mathlib.Decide.{ℕ_discrete}
use native.Mathlib.Nat.{add-zero}
use lib.ListN.{length, set, length-set}
use lib.Seq.{get_or-set_same, get_or-set_other}
use lib.Dec.{eqb}
use borrow.Author.Tests.{eq-eqb, ne_eqb}
use Rattle.model.specs.Words.{pick}
use Rattle.model.specs.State.{at}
use Rattle.model_sums.specs.Sums.{More, add, sum_places, max_sum, Passes}
use Rattle.theory_sums.specs.Balance.{Within}

-- ---- all that is added at place p

abbrev pub amount_at : ℕ → List More → ℕ
amount_at p [] = 0
amount_at p (m ∷ ms) = pick (eqb p m.place) m.amount 0 + amount_at p ms

pub there : (p q n : ℕ) → p ≡ q → pick (eqb p q) n 0 ≡ n
there p q n e = rw (eq-eqb p q e)

pub elsewhere : (p q n : ℕ) → p ≢ q → pick (eqb p q) n 0 ≡ 0
elsewhere p q n e = rw (ne_eqb p q e)

-- every place is one of the 59
abbrev pub PlacesIn : List More → Type 0
PlacesIn [] = Unit {0}
PlacesIn (m ∷ ms) = (m.place < sum_places) × PlacesIn ms

-- none is p
abbrev pub NotAt : ℕ → List More → Type 0
NotAt p [] = Unit {0}
NotAt p (m ∷ ms) = (p ≢ m.place) × NotAt p ms

-- each is named once
abbrev pub Apart : List More → Type 0
Apart [] = Unit {0}
Apart (m ∷ ms) = NotAt m.place ms × Apart ms

none-at : (p : ℕ) (ms : List More) → NotAt p ms → amount_at p ms ≡ 0
none-at p [] h = refl
none-at p (m ∷ ms) h = omega (arith, elsewhere p m.place m.amount h.0, none-at p ms h.1)

-- ---- adding

pub add_length : (ms : List More) (v : List ℕ) → length (add ms v) ≡ length v
unfolding add
add_length [] v = refl
add_length (m ∷ ms) v = add_length ms (set v m.place (at v m.place + m.amount)) ∙ length-set v m.place _

set_at : (v : List ℕ) (p q n : ℕ) → q < length v → at (set v q (at v q + n)) p ≡ at v p + pick (eqb p q) n 0
set_at v p q n l = go (ℕ_discrete p q)
  where
    go : Dec (p ≡ q) → at (set v q (at v q + n)) p ≡ at v p + pick (eqb p q) n 0
    go (yes e) = rw (there p q n e, e) (get_or-set_same v q (at v q + n) 0 l)
    go (no e) = rw (elsewhere p q n e, add-zero) (get_or-set_other v q p (at v q + n) 0 e)

pub add_at : (ms : List More) (v : List ℕ) (p : ℕ) → sum_places ≤ length v → PlacesIn ms → at (add ms v) p ≡ at v p + amount_at p ms
unfolding add
add_at [] v p l h = omega arith
add_at (m ∷ ms) v p l h =
    let w = set v m.place (at v m.place + m.amount) in
    let n : sum_places ≤ length w = rw length-set l in
    let k = set_at v p m.place m.amount (omega (arith, h.0)) in
    omega (arith, add_at ms w p n h.1, k)

-- "places past the 59 aren't written"
places-past : (p : ℕ) (ms : List More) → sum_places ≤ p → PlacesIn ms → NotAt p ms
places-past p [] l h = tt
places-past p (m ∷ ms) l h = (λ e. omega (arith, h.0), places-past p ms l h.1)

pub add-past : (ms : List More) (v : List ℕ) (p : ℕ) → sum_places ≤ length v → PlacesIn ms → sum_places ≤ p → at (add ms v) p ≡ at v p
add-past ms v p l h m = omega (arith, add_at ms v p l h, none-at p ms (places-past p ms m h))

-- ---- the limit

within-at : (p : ℕ) (ms : List More) (v : List ℕ) → at v p ≤ max_sum → Apart ms → (Passes ms v → ⊥) → at v p + amount_at p ms ≤ max_sum
unfolding Passes
within-at p [] v l h n = omega arith
within-at p (m ∷ ms) v l h n = go (ℕ_discrete p m.place) (λ x. n (inl x)) (within-at p ms v l h.1 (λ x. n (inr x)))
  where
    go : Dec (p ≡ m.place) → (max_sum < at v m.place + m.amount → ⊥) → at v p + amount_at p ms ≤ max_sum → at v p + amount_at p (m ∷ ms) ≤ max_sum
    go (yes e) here rest =
        let none : amount_at p ms ≡ 0 = rw e (none-at m.place ms h.0) in
        let same : at v p ≡ at v m.place = ap (at v) e in
        omega (arith, there p m.place m.amount e)
    go (no e) here rest = omega (arith, elsewhere p m.place m.amount e, rest)

pub add-within : (ms : List More) (v : List ℕ) → sum_places ≤ length v → PlacesIn ms → Apart ms → Within v → (Passes ms v → ⊥) → Within (add ms v)
add-within ms v l h a w n p low high = rw (add_at ms v p l h) (within-at p ms v (w p low high) a n)
