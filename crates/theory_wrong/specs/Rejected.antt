-- What it is for a public call's contract to rule out a wrong outcome on one input, by kinds of wrong outcomes. `Allows f o x` is the contract: see
-- the crate outcomes. Assumes nothing.
use Rattle.std.specs.Prelude.{ℕ, ◌≤◌, ◌<◌, ◌≡◌, List, [], map, length, get_or}
use Rattle.model.specs.State.{State, at}
use Rattle.model.specs.Calls.{Outcome, Answer, NoList, refused, done}
use Rattle.shape_answer.specs.Answers.{outcome}
use Rattle.theory_outcome.specs.Settled.{Left, state_in, Allows}

-- ---- what is read of an answer

-- the number that an answer gives; 0 where it refuses
abbrev pub given : {A : Type 0} → (A → ℕ) → Answer A → ℕ
given g (refused n) = 0
given g (done v) = g v

-- the answer of a call that answers with a number
abbrev pub number : Outcome NoList ℕ → ℕ
number o = given (λ k. k) o.answer

-- ---- an input that is to be accepted

-- whatever the contract with the outcome o allows is no refusal, and what `seen` reads of it is not `slip`
pub record Rejected {L A B : Type 0} (f : B → Answer A) (o : Outcome L A) (seen : Outcome L A → ℕ) (slip : ℕ) : Type 0 where
  pub refusing : (x : Left L B) → Allows f o x → (n : ℕ) → f x.answer ≡ refused n → ⊥
  pub slipping : (x : Left L B) → Allows f o x → seen (outcome (state_in x.world) x.world.lists (f x.answer)) ≡ slip → ⊥

-- ---- an input that is to be refused

-- a call with its arguments, the state and the answer lists that it is lent, and 01's number for its refusal
pub record Refusal (L A : Type 0) : Type 0 where
  pub call : State → L → Outcome L A
  pub state : State
  pub lists : L
  pub number : ℕ

abbrev pub refused_by : {L A : Type 0} → Refusal L A → Outcome L A
refused_by r = r.call r.state r.lists

-- whatever the contract allows is not done and has no other number; and there is no place of the state, and none of an answer list, that differs from
-- what was lent ("Every refusal returns its number only; state and answer lists stay the same")
pub record RefusedRight {L A B : Type 0} (f : B → Answer A) (r : Refusal L A) : Type 1 where
  pub accepting : (x : Left L B) → Allows f (refused_by r) x → (v : A) → f x.answer ≡ done v → ⊥
  pub misnumbering : (x : Left L B) → Allows f (refused_by r) x → (n : ℕ) → (n ≡ r.number → ⊥) → f x.answer ≡ refused n → ⊥
  pub writing_state : (x : Left L B) → Allows f (refused_by r) x → {C : Type 0} (place : State → C)
      → (place (state_in x.world) ≡ place r.state → ⊥) → ⊥
  pub writing_list : (x : Left L B) → Allows f (refused_by r) x → {C : Type 0} (place : L → C)
      → (place x.world.lists ≡ place r.lists → ⊥) → ⊥

-- ---- an answer list

-- a call as above that is to be accepted; the columns of its answer list, how many entries the answer says that it has, and the entries, each a
-- number for each column
pub record Listing (L A : Type 0) : Type 0 where
  pub call : State → L → Outcome L A
  pub state : State
  pub lists : L
  pub columns : List (L → List ℕ)
  pub count : A → ℕ
  pub entries : List (List ℕ)

abbrev pub listed_by : {L A : Type 0} → Listing L A → Outcome L A
listed_by r = r.call r.state r.lists

-- what stands at place i, a number for each column
abbrev pub row : {L : Type 0} → List (L → List ℕ) → L → ℕ → List ℕ
row columns l i = map (λ c. at (c l) i) columns

-- a call's outcome, where it is done, has the places behind its answer as they were lent ("Places of an answer list past the answer's end are not written")
pub record KeptPast {L A : Type 0} (columns : List (L → List ℕ)) (count : A → ℕ) (l : L) (o : Outcome L A) : Type 0 where
  pub keeps : (v : A) → o.answer ≡ done v → (i : ℕ) → count v ≤ i → row columns o.lists i ≡ row columns l i

-- whatever the contract allows is no refusal and says no other number of entries; no place behind those that it says differs from what was lent;
-- and no entry stands at another one's place, as it would in any other order
pub record ListedRight {L A B : Type 0} (f : B → Answer A) (r : Listing L A) : Type 0 where
  pub refusing : (x : Left L B) → Allows f (listed_by r) x → (n : ℕ) → f x.answer ≡ refused n → ⊥
  pub miscounting : (x : Left L B) → Allows f (listed_by r) x → (v : A) → f x.answer ≡ done v → (r.count v ≡ length r.entries → ⊥) → ⊥
  pub writing_past : (x : Left L B) → Allows f (listed_by r) x → (v : A) → f x.answer ≡ done v → (i : ℕ) → r.count v ≤ i
      → (row r.columns x.world.lists i ≡ row r.columns r.lists i → ⊥) → ⊥
  pub reordering : (x : Left L B) → Allows f (listed_by r) x → (i j : ℕ) → i < length r.entries → j < length r.entries → (i ≡ j → ⊥)
      → row r.columns x.world.lists i ≡ get_or r.entries j [] → ⊥
