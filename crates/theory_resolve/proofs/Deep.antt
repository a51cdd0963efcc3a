-- How many nodes begin at a depth or deeper. A walk goes deeper at each node, so this count falls at each, and no walk has more nodes than there are.
-- Assumes nothing.
use Prim.Native.Nat.{ℕ, zero, suc, ◌+◌, ◌≤◌, ◌<◌}
use mathlib.Core.Bool.{Bool, true, false}
use mathlib.Core.List.{List}
use mathlib.Core.Path.{◌≡◌, refl}
use mathlib.Core.Logic.{⊎_elim}
use native.Mathlib.Omega.{arith}
use native.Mathlib.Nat.{eq-or-lt_of_le}
use lib.Dec.{leb}
use borrow.Author.Tests.{leb-true, leb-false, le-leb, lt-leb}
use Rattle.model.specs.State.{at}

abbrev one_if : Bool → ℕ
one_if true = 1
one_if false = 0

-- of the n nodes from 1 on, how many have depth d or more
unfoldable pub deep : List ℕ → ℕ → ℕ → ℕ
deep l d zero = 0
deep l d (suc n) = one_if (leb d (at l (suc n))) + deep l d n

pub deep-most : (l : List ℕ) (d n : ℕ) → deep l d n ≤ n
unfolding deep
deep-most l d zero = omega arith
deep-most l d (suc n) = go (leb d (at l (suc n))) (deep-most l d n)
  where
    go : (b : Bool) → deep l d n ≤ n → one_if b + deep l d n ≤ suc n
    go true h = omega arith
    go false h = omega arith

one_falls : (d e v : ℕ) → d ≤ e → one_if (leb e v) ≤ one_if (leb d v)
one_falls d e v h = go (leb e v) (leb d v) refl refl
  where
    go : (a b : Bool) → leb e v ≡ a → leb d v ≡ b → one_if a ≤ one_if b
    go true true x y = omega arith
    go true false x y = absurd (omega (arith, leb-true, leb-false))
    go false b x y = omega arith

deep_falls : (l : List ℕ) (d e n : ℕ) → d ≤ e → deep l e n ≤ deep l d n
unfolding deep
deep_falls l d e zero h = omega arith
deep_falls l d e (suc n) h = omega (arith, one_falls d e (at l (suc n)) h, deep_falls l d e n h)

-- node k has depth d or more, and less than e
pub deep_drops : (l : List ℕ) (d e n k : ℕ) → 1 ≤ k → k ≤ n → d ≤ at l k → at l k < e → deep l e n < deep l d n
unfolding deep
deep_drops l d e zero k a b low high = absurd (omega arith)
deep_drops l d e (suc n) k a b low high = ⊎_elim here (λ (m : k < suc n). there (deep_drops l d e n k a (omega arith) low high)) (eq-or-lt_of_le b)
  where
    here : k ≡ suc n → deep l e (suc n) < deep l d (suc n)
    here q = rw (← q, le-leb d (at l k) low, lt-leb e (at l k) high) (omega (arith, deep_falls l d e n (omega arith)))

    there : deep l e n < deep l d n → deep l e (suc n) < deep l d (suc n)
    there h = omega (arith, one_falls d e (at l (suc n)) (omega arith))
