-- Public calls one after another, each leaving what its contract allows, and the history that they tell. Assumes nothing.
use Rattle.std.specs.Prelude.{ℕ, ◌≤◌, ◌≡◌, List, [], ◌∷◌}
use Rattle.model.specs.declared.BringAnswer.{BringAnswer}
use Rattle.model.specs.State.{State}
use Rattle.model.specs.Calls as Calls
use Rattle.model.specs.Store.{store_of}
use Rattle.model.specs.Refusals.{OutList}
use Rattle.model.specs.Calls.{Outcome, Answer, done, LookupLists}
use Rattle.model.specs.Blocks.{Holds}
use Rattle.theory_room.specs.Room.{Alike, blocks_in}
use Rattle.shape_answer.specs.declared.StoreInserted.{StoreInserted}
use Rattle.shape_answer.specs.declared.Looked.{Looked}
use Rattle.shape_answer.specs.Answers.{outcome, plain_of, count_of, resolved_of, inserted_of, store_inserted_of, store_used_of, store_removed_of, store_expired_of, looked_of}
use Rattle.theory_outcome.specs.Settled.{Left, state_in, Allows}
use Rattle.theory_history.specs.History.{Call, set_up, resolve, insert, store_insert, store_used, store_remove, store_expire, pin_source, unpin_source, lookup, store_held, store_capacity, store_pinned, store_available, source_version, pin_stalls, meaning, reply_of, History, tell, Steps}

-- what a call may leave whose outcome by the definitions is o
pub record Leaves {L A B : Type 0} (f : B → Answer A) (o : Outcome L A) : Type 0 where
  pub what : Left L B
  pub allowed : Allows f o what

-- the state, the lists and the answer that the call left
abbrev pub left_by : {L A B : Type 0} {f : B → Answer A} {o : Outcome L A} → Leaves f o → Outcome L A
left_by {f = f} k = outcome (state_in k.what.world) k.what.world.lists (f k.what.answer)

-- the enum that a call answers with, and the number and values of 01 for each of its cases
pub record Answered (A : Type 0) : Type 1 where
  pub Given : Type 0
  pub read : Given → Answer A

abbrev pub by : {A B : Type 0} → (B → Answer A) → Answered A
by {B = B} f = record { Given = B; read = f }

abbrev pub answered : (c : Call) → Answered (meaning c).Value
answered (set_up table capacity refreshes) = by plain_of
answered (resolve l hs) = by resolved_of
answered (insert l hs) = by inserted_of
answered (store_insert l s sp time write) = by store_inserted_of
answered (store_used s sps time counted) = by store_used_of
answered (store_remove l s sp) = by store_removed_of
answered (store_expire l s now seconds) = by store_expired_of
answered (pin_source s sp) = by plain_of
answered (unpin_source s sp) = by plain_of
answered (lookup l ts hs) = by looked_of
answered (store_held s) = by count_of
answered (store_capacity s) = by count_of
answered (store_pinned s) = by count_of
answered (store_available s) = by count_of
answered (source_version s) = by count_of
answered pin_stalls = by count_of

-- what each public call, handed a state, may leave by its contract
abbrev pub May : Call → State → Type 0
May c st = Leaves (answered c).read (reply_of c st)

-- any calls, from one state to another, each with what it left
pub data Ran : State → List Call → State → Type 0 where
  rest : {st : State} → Ran st [] st
  call : {st st₁ : State} {cs : List Call} (c : Call) (k : May c st) → Ran (left_by k).state cs st₁ → Ran st (c ∷ cs) st₁

-- calls of any number of steps each
pub data Made : State → List Steps → State → Type 0 where
  end : {st : State} → Made st [] st
  made : {st st₁ st₂ : State} {cs : List Steps} (c : Steps) → Ran st c st₁ → Made st₁ cs st₂ → Made st (c ∷ cs) st₂

-- the history that the calls tell by what they left, answers and lists
unfoldable pub told : {st st₁ : State} {cs : List Call} → Ran st cs st₁ → History → History
told rest h = h
told (call {st = st} c k r) h = told r (tell c st.tree (left_by k) h)

unfoldable pub told_all : {st st₁ : State} {cs : List Steps} → Made st cs st₁ → History → History
unfolding told
told_all end h = h
told_all (made c r m) h = told_all m (told r h)

-- "More room never shortens a reading", of what the calls may leave: x under C and y under D after the same insertion into store s; u and v are what any
-- lookup may leave then
pub record RoomForReading (s : ℕ) (x y : Left OutList StoreInserted) : Type 0 where
  pub alike : Alike (store_inserted_of x.answer) (store_inserted_of y.answer)
  pub kept :
      (v : BringAnswer) → store_inserted_of x.answer ≡ done v
      → (n o : ℕ) → Holds (store_of (state_in x.world) s).ranges n o
      → Holds (store_of (state_in y.world) s).ranges n o
  pub reads :
      (w : BringAnswer) → store_inserted_of x.answer ≡ done w
      → (l : LookupLists) (ts hs : List ℕ) (u v : Left LookupLists Looked)
      → Allows looked_of (Calls.lookup (state_in x.world) l ts hs) u
      → Allows looked_of (Calls.lookup (state_in y.world) l ts hs) v
      → Alike (looked_of u.answer) (looked_of v.answer)
      × (blocks_in (looked_of u.answer) ≤ blocks_in (looked_of v.answer))
