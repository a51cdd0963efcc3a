-- What a counted call is to the plain call. Assumes nothing.
use Rattle.std.specs.Prelude.{ℕ, ◌≡◌, ◌↔◌, List}
use Rattle.model.specs.State.{State}
use Rattle.model.specs.Calls.{Outcome, refused, done}
use Rattle.model_sums.specs.Sums.{More, add, Passes}
use Rattle.model_sums.specs.Tally.{Summed}

-- t is accepted with the answer a: so is the plain call, whose outcome is o, and t leaves its state, its lists, and the sums with ms added
pub record Added {L A : Type 0} (l : Summed L) (ms : List More) (o : Outcome L A) (t : Outcome (Summed L) A) (a : A) : Type 0 where
  pub answer : o.answer ≡ done a
  pub state : t.state ≡ o.state
  pub lists : t.lists.lists ≡ o.lists
  pub sums : t.lists.sums ≡ add ms l.sums

-- the plain call is accepted, and a sum that it adds to would pass the limit
pub record Late {L A : Type 0} (v : List ℕ) (ms : List More) (o : Outcome L A) : Type 0 where
  pub value : A
  pub answer : o.answer ≡ done value
  pub passes : Passes ms v

-- "the plain call's conditions, then 21": refused by another number exactly where the plain call is, by 21 exactly where that is accepted and a sum would pass;
-- then state, lists and sums are as they were
pub record TallyOf {L A : Type 0} (st : State) (l : Summed L) (ms : List More) (o : Outcome L A) (t : Outcome (Summed L) A) : Type 0 where
  pub accepted : (a : A) → t.answer ≡ done a → Added l ms o t a
  pub alike : (n : ℕ) → (n ≡ 21 → ⊥) → (t.answer ≡ refused n) ↔ (o.answer ≡ refused n)
  pub late : (t.answer ≡ refused 21) ↔ Late l.sums ms o
  pub kept : (n : ℕ) → t.answer ≡ refused n → (t.state ≡ st) × (t.lists ≡ l)
