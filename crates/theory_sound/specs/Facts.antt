-- Facts of lists, by recursion on the list: what holds of each, of every two in order, of the ids. Assumes nothing.
use Rattle.std.specs.Prelude.{ℕ, ◌≤◌, ◌≡◌, ◌⊎◌, List, [], ◌∷◌}
use Rattle.model.specs.State.{Range, Pin}
use Rattle.model.specs.Sound.{Before, PinBefore}

-- P holds of each element
unfoldable pub All : {A : Type 0} → (A → Type 0) → List A → Type 0
All P [] = Unit {0}
All P (x ∷ xs) = P x × All P xs

-- R holds of every two elements, the earlier first
unfoldable pub InOrder : {A : Type 0} → (A → A → Type 0) → List A → Type 0
unfolding All
InOrder R [] = Unit {0}
InOrder R (x ∷ xs) = All (R x) xs × InOrder R xs

-- the ranges stand by node, then start, and are disjoint
abbrev pub Sorted : List Range → Type 0
Sorted rs = InOrder Before rs

abbrev pub PinsSorted : List Pin → Type 0
PinsSorted ps = InOrder PinBefore ps

-- the two ranges have different ids
abbrev pub IdApart : Range → Range → Type 0
IdApart r q = r.id ≡ q.id → ⊥

-- no two ranges of the list have one id
abbrev pub Distinct : List Range → Type 0
Distinct rs = InOrder IdApart rs

-- no range of the one list has the id of one of the other
abbrev pub ApartFrom : List Range → List Range → Type 0
ApartFrom rs qs = All (λ r. All (IdApart r) qs) rs

-- some range of the list has this id
unfoldable pub HasId : ℕ → List Range → Type 0
HasId i [] = ⊥
HasId i (r ∷ rs) = (r.id ≡ i) ⊎ HasId i rs

-- each id is one of the old ranges' or a new one, from `next` on
abbrev pub IdsFrom : List Range → ℕ → List Range → Type 0
IdsFrom old next rs = All (λ r. HasId r.id old ⊎ (next ≤ r.id)) rs
