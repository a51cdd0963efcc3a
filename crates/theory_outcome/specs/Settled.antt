-- What a public call is lent and what it leaves, when its contract allows that, and what it is for a contract to settle a call. Assumes nothing.
use Rattle.std.specs.Prelude.{ℕ, ◌≡◌, List, Float}
use Rattle.model.specs.State.{State}
use Rattle.model.specs.Refusals.{Condition, First}
use Rattle.model.specs.Calls.{Outcome, Answer, refused}
use Rattle.theory_refuse.specs.Refused.{SomeHolds}
use Rattle.shape_answer.specs.Answers.{state_from, outcome}

-- every column that is lent
pub record Pools : Type 0 where
  pub parent : List ℕ
  pub depth : List ℕ
  pub len : List ℕ
  pub run : List ℕ
  pub words : List ℕ
  pub node : List ℕ
  pub start : List ℕ
  pub end : List ℕ
  pub id : List ℕ
  pub stamp : List ℕ
  pub touched : List Float
  pub write : List ℕ
  pub pin_node : List ℕ
  pub pin_start : List ℕ
  pub pin_end : List ℕ
  pub pin_count : List ℕ
  pub marks : List ℕ
  pub bytes : List ℕ
  pub books : List ℕ

-- the columns and the answer lists
pub record World (L : Type 0) : Type 0 where
  pub pools : Pools
  pub lists : L

-- the same as a call leaves it, and its answer
pub record Left (L B : Type 0) : Type 0 where
  pub world : World L
  pub answer : B

abbrev pub state_at : Pools → State
state_at p =
    state_from p.parent p.depth p.len p.run p.words p.node p.start p.end p.id p.stamp p.touched p.write p.pin_node
    p.pin_start p.pin_end p.pin_count p.marks p.bytes p.books

abbrev pub state_in : {L : Type 0} → World L → State
state_in w = state_at w.pools

-- The contract of a call whose outcome by the definitions is o, on what the call leaves. f gives 01's number and values for each case of the answer
abbrev pub Allows : {L A B : Type 0} → (B → Answer A) → Outcome L A → Left L B → Type 0
Allows f o x = outcome (state_in x.world) x.world.lists (f x.answer) ≡ o

-- refused exactly where a condition of cs holds, by the number of the first that holds, and then every byte is as it was lent
pub record RefusedExactly {L A B : Type 0} (f : B → Answer A) (cs : List Condition) (lent : World L) (x : Left L B) : Type 0 where
  pub when : SomeHolds cs → (n : ℕ) × (f x.answer ≡ refused n)
  pub only : (n : ℕ) → f x.answer ≡ refused n → SomeHolds cs × First cs n
  pub kept : (n : ℕ) → f x.answer ≡ refused n → x.world ≡ lent

-- the contract allows one thing to be left, and refuses exactly where it has to
pub record Settled {L A B : Type 0} (f : B → Answer A) (cs : List Condition) (lent : World L) (o : Outcome L A) : Type 0 where
  pub one : {a b : Left L B} → Allows f o a → Allows f o b → a ≡ b
  pub exactly : {a : Left L B} → Allows f o a → RefusedExactly f cs lent a
