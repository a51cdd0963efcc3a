-- What a report keeps from line to line. Assumes nothing.
use Rattle.std.specs.Prelude.{ℕ, ◌+◌, ◌≤◌, List, length, set, ltb}
use Rattle.model.specs.Words.{pick}
use Rattle.model.specs.State.{State, at}
use Rattle.model.specs.Sound.{Sound}
use Rattle.model.specs.Calls.{Answer, refused, done}
use Rattle.model_sums.specs.Sums.{max_sum, no_sums, sum_places}
use Rattle.shape_answer.specs.declared.Plain.{Plain}
use Rattle.shape_answer.specs.declared.Plain.TheVariants as PlainIs
use Rattle.theory_sums.specs.Balance.{InBalance}

-- a sound state, and sums that are in balance with it
pub record InOrder (st : State) (v : List ℕ) : Type 0 where
  pub sound : Sound st
  pub long : sum_places ≤ length v
  pub balance : InBalance (record { state = st; sums = v })

-- what a set-up leaves: where it was accepted, no sum has begun
abbrev pub Begun : Plain → State → Type 0
Begun PlainIs.Done st = InOrder st no_sums
Begun (PlainIs.Refused n) st = Unit {0}

-- "counts of refusals and of unreadable lines are the program's own and stay at 2^63 - 1"
abbrev pub one_more : ℕ → ℕ
one_more n = pick (ltb n max_sum) (n + 1) n

-- one more of number n
abbrev pub count_one : ℕ → List ℕ → List ℕ
count_one n l = set l n (one_more (at l n))

-- "a refused line adds one to its number's count"
abbrev pub count_if : {A : Type 0} → Answer A → List ℕ → List ℕ
count_if (refused n) l = count_one n l
count_if (done a) l = l
