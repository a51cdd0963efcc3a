-- Request P1's law of the running sums, and their limit. Assumes nothing.
use Rattle.std.specs.Prelude.{ℕ, ◌+◌, ◌≤◌, ◌<◌, ◌≡◌, List}
use Rattle.model.specs.Words.{Each}
use Rattle.model.specs.State.{State, at, stores_of, capacity_of, held_of}
use Rattle.model_sums.specs.Sums.{brought_at, room_at, age_at, removed_at, sum_places, max_sum}
use Rattle.theory_sums.specs.Steps.{Run}

-- "brought in equals the outgoing counts plus held": of store q
abbrev pub Balanced : State → List ℕ → ℕ → Type 0
Balanced st v q = at v (brought_at q) ≡ at v (room_at q) + at v (age_at q) + at v (removed_at q) + held_of st q

-- no sum is past the limit
abbrev pub Within : List ℕ → Type 0
Within v = Each 0 sum_places (λ p. at v p ≤ max_sum)

-- of a run: the law for every store of capacity above 0, and every sum within the limit
pub record InBalance (r : Run) : Type 0 where
  pub balanced : (q : ℕ) → q < stores_of r.state → 0 < capacity_of r.state q → Balanced r.state r.sums q
  pub within : Within r.sums
