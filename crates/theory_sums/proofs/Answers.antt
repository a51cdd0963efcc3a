-- What is read of an answer, read otherwise: a column's first numbers summed from place to place, as a sum over the list, and as the sum over the spans
-- that were laid there. Assumes nothing.
use Prim.Native.Nat.{ℕ, zero, suc, ◌+◌, ◌-◌}
use mathlib.Core.Path.{◌≡◌, refl, ap, ◌∙◌}
use mathlib.Core.List.{List, [], ◌∷◌, ◌++◌, map}
use native.Mathlib.Omega.{arith}
use lib.ListN.{length, take, drop}
use Rattle.model.specs.declared.EachTier.{EachTier}
use Rattle.model.specs.Words.{sum_to}
use Rattle.model.specs.State.{at}
use Rattle.model.specs.Trim.{Out, out_blocks}
use Rattle.model.specs.Lookup.{sums_in}
use Rattle.model.specs.Refusals.{OutList}
use Rattle.model.specs.Calls.{front, lay_outs}
use Rattle.model_sums.specs.Sums.{listed_sum, listed_blocks, all_tiers}
use Rattle.theory_room.specs.Room.{sum_of}
use Rattle.theory_sums.specs.Figures.{blocks_from, given_blocks}

-- the first number apart
sum-front : (f : ℕ → ℕ) (n : ℕ) → sum_to f (suc n) ≡ f 0 + sum_to (λ i. f (suc i)) n
unfolding sum_to
sum-front f zero = omega arith
sum-front f (suc n) = omega (arith, sum-front f n)

sum-none : (f : ℕ → ℕ) (n : ℕ) → ((i : ℕ) → f i ≡ 0) → sum_to f n ≡ 0
unfolding sum_to
sum-none f zero h = refl
sum-none f (suc n) h = omega (arith, h n, sum-none f n h)

-- the sum of f over a list
unfoldable pub over : {A : Type 0} → (A → ℕ) → List A → ℕ
over f [] = 0
over f (x ∷ xs) = f x + over f xs

-- ---- one column

pub sum-list : (n : ℕ) (l : List ℕ) → listed_sum n l ≡ sum_of (take n l)
unfolding sum_of sum_to
sum-list zero l = refl
sum-list (suc n) [] = sum-none (at []) (suc n) (λ i. refl)
sum-list (suc n) (x ∷ l) = sum-front (at (x ∷ l)) n ∙ ap (λ (k : ℕ). x + k) (sum-list n l)

sum-before : (f : Out → ℕ) (os : List Out) (l : List ℕ) → listed_sum (length os) (map f os ++ l) ≡ over f os
unfolding over sum_to
sum-before f [] l = refl
sum-before f (o ∷ os) l = sum-front (at (map f (o ∷ os) ++ l)) (length os) ∙ ap (λ (k : ℕ). f o + k) (sum-before f os l)

pub sum_laid : (f : Out → ℕ) (os : List Out) (l : List ℕ) → listed_sum (length os) (front (map f os) l) ≡ over f os
sum_laid f os l = sum-before f os (drop (length (map f os)) l)

-- ---- two columns: starts and ends

abbrev widths : List ℕ → List ℕ → ℕ → ℕ
widths starts ends i = at ends i - at starts i

no_starts : (n : ℕ) (ends : List ℕ) → sum_to (widths [] ends) n ≡ listed_sum n ends
unfolding sum_to
no_starts zero ends = refl
no_starts (suc n) ends = omega (arith, no_starts n ends)

widths-list : (n : ℕ) (starts ends : List ℕ) → sum_to (widths starts ends) n ≡ sum_of (blocks_from (take n starts) (take n ends))
unfolding sum_of sum_to
widths-list zero starts ends = refl
widths-list (suc n) [] ends = no_starts (suc n) ends ∙ sum-list (suc n) ends
widths-list (suc n) (a ∷ starts) [] = sum-none (widths (a ∷ starts) []) (suc n) (λ i. omega arith)
widths-list (suc n) (a ∷ starts) (z ∷ ends) = sum-front (widths (a ∷ starts) (z ∷ ends)) n ∙ ap (λ (k : ℕ). z - a + k) (widths-list n starts ends)

pub blocks-list : (n : ℕ) (l : OutList) → listed_blocks n l ≡ given_blocks n l
blocks-list n l = widths-list n l.start l.end

widths-laid : (os : List Out) (starts ends : List ℕ)
    → sum_to (widths (map (λ o. o.start) os ++ starts) (map (λ o. o.end) os ++ ends)) (length os) ≡ out_blocks os
unfolding out_blocks sum_to
widths-laid [] starts ends = refl
widths-laid (o ∷ os) starts ends =
    sum-front (widths (map (λ o. o.start) (o ∷ os) ++ starts) (map (λ o. o.end) (o ∷ os) ++ ends)) (length os)
    ∙ ap (λ (k : ℕ). o.end - o.start + k) (widths-laid os starts ends)

pub blocks-laid : (os : List Out) (l : OutList) → listed_blocks (length os) (lay_outs os l) ≡ out_blocks os
blocks-laid os l = widths-laid os _ _

-- ---- a number of each tier

pub tiers-sum : (t : EachTier) → all_tiers t ≡ sum_of (sums_in t)
unfolding sum_of
tiers-sum t = omega arith
