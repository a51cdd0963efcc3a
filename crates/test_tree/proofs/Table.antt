-- A table in order whose last number is small. Assumes nothing.
use Rattle.std.proofs.Common.{◌≡◌, ℕ, suc, ◌+◌, ◌<◌, ◌≤◌, Bool, true, false, List, length, take, get_or, add-one, arith, length-take-le, leb, leb-true, leb-false, sym}
use Rattle.std.specs.List.{IsAllAdjacentAnswer}
use Rattle.std.proofs.lemmas.List.Sorted.{IsNonDecreasingBy-from_all_adjacent}
use Rattle.std.proofs.lemmas.List.{get_or-take}
use Rattle.model.specs.Words.{Says}
use Rattle.model.specs.Sizes.{table_length, max_bytes}
use Rattle.model.specs.State.{at}
use Rattle.test_tree.specs.Nodes.{Table}

-- what holds of two places of a list's front holds of the list
front : (l : List ℕ) (n k : ℕ) → k < n → get_or (take n l) k 0 ≡ at l k
front l n k h = get_or-take n l k 0 h

pub table_says : (r : Bool) (l : List ℕ) → table_length ≤ length l → at l 1024 ≤ max_bytes
    → IsAllAdjacentAnswer (λ x y b. b ≡ leb x y) (take table_length l) r
    → Says r (Table l)
table_says true l n small a =
    let m = IsNonDecreasingBy-from_all_adjacent (λ (x : ℕ). x) _ (λ k d g. leb-true _ _ (sym (a k d g))) in
    let long : length (take table_length l) ≡ table_length = length-take-le table_length l n in
    let rises : (i j : ℕ) → i ≤ j → j < table_length → at l i ≤ at l j =
    λ i j le lt. omega (arith, m i j 0 le (omega arith), front l table_length i (omega arith), front l table_length j lt) in
    record { long = n; rising = record { steps = λ k f g. rises k (suc k) (omega arith) (omega arith); small = λ k f g. omega (arith, rises k 1024 (omega arith) (omega arith)) } }
table_says false l n small a = λ t.
    let long : length (take table_length l) ≡ table_length = length-take-le table_length l n in
    let step : at l a.0 ≤ at l (a.0 + 1) = rw add-one (t.rising.steps a.0 (omega arith) (omega (arith, a.1))) in
    let falls = leb-false _ _ (sym (a.2 0)) in
    omega (arith, falls, front l table_length a.0 (omega (arith, a.1)), front l table_length (a.0 + 1) (omega (arith, a.1)))
