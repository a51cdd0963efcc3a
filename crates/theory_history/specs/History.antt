-- Demand 2's history: what the calls and their answers say was brought in, given out and removed, by name. Assumes nothing.
use Rattle.std.specs.Prelude.{ℕ, ◌≤◌, ◌<◌, Bool, ◌⊎◌, ◌↔◌, ◌≡◌, List, [], ◌∷◌, length, Float}
use Rattle.model.specs.declared.Span.{Span}
use Rattle.model.specs.declared.BringAnswer.{BringAnswer}
use Rattle.model.specs.declared.RemoveAnswer.{RemoveAnswer}
use Rattle.model.specs.declared.ExpireAnswer.{ExpireAnswer}
use Rattle.model.specs.State.{Tree, State, at, held_of}
use Rattle.model.specs.Store.{store_of}
use Rattle.model.specs.Refusals.{PathList, OutList}
use Rattle.model.specs.Calls as Calls
use Rattle.model.specs.Calls.{Outcome, Answer, refused, done, NoList, NoValue, LookupLists}
use Rattle.theory_sound.specs.Facts.{All, InOrder, Sorted}
use Rattle.model.specs.Blocks.{Filled, Holds, InSpan}
use Rattle.theory_history.specs.Names.{name_of, Named, Stored}

-- a public call with its arguments, answer lists among them
pub data Call : Type 0 where
  set_up : List ℕ → List ℕ → List Bool → Call
  resolve : PathList → List ℕ → Call
  insert : PathList → List ℕ → Call
  store_insert : OutList → ℕ → Span → Float → ℕ → Call
  store_used : ℕ → List Span → Float → Bool → Call
  store_remove : List ℕ → ℕ → Span → Call
  store_expire : OutList → ℕ → Float → Float → Call
  pin_source : ℕ → Span → Call
  unpin_source : ℕ → Span → Call
  lookup : LookupLists → List ℕ → List ℕ → Call
  store_held : ℕ → Call
  store_capacity : ℕ → Call
  store_pinned : ℕ → Call
  store_available : ℕ → Call
  source_version : ℕ → Call
  pin_stalls : Call

-- block o of node n is in one of the first k spans of an answer list
pub record Listed (l : OutList) (k n o : ℕ) : Type 0 where
  pub place : ℕ
  pub below : place < k
  pub node : at l.node place ≡ n
  pub low : at l.start place ≤ o
  pub high : o < at l.end place

-- ---- what the calls say of blocks, each by its store q, node n and offset o

pub record Report : Type 1 where
  pub brought_in : ℕ → ℕ → ℕ → Type 0
  pub gone : ℕ → ℕ → ℕ → Type 0

abbrev pub silent : Report
silent = record { brought_in = λ q n o. ⊥; gone = λ q n o. ⊥ }

-- a refused call says nothing
abbrev pub if_done : {A : Type 0} → Answer A → (A → Report) → Report
if_done (refused n) f = silent
if_done (done a) f = f a

-- set-up begins anew
abbrev pub by_set_up : Outcome NoList NoValue → Report
by_set_up r = if_done r.answer (λ a. record { brought_in = λ q n o. ⊥; gone = λ q n o. Unit {0} })

-- "brought in": the span; "given out": the spans that the call answers with
abbrev pub by_bring_in : ℕ → Span → Outcome OutList BringAnswer → Report
by_bring_in s sp r =
    if_done r.answer
    (λ a. record { brought_in = λ q n o. (q ≡ s) × InSpan sp n o; gone = λ q n o. (q ≡ s) × Listed r.lists a.outs n o })

-- "removed": the span
abbrev pub by_removal : ℕ → Span → Outcome (List ℕ) RemoveAnswer → Report
by_removal s sp r = if_done r.answer (λ a. record { brought_in = λ q n o. ⊥; gone = λ q n o. (q ≡ s) × InSpan sp n o })

-- "given out": the spans that the call answers with
abbrev pub by_expiry : ℕ → Outcome OutList ExpireAnswer → Report
by_expiry s r = if_done r.answer (λ a. record { brought_in = λ q n o. ⊥; gone = λ q n o. (q ≡ s) × Listed r.lists a.outs n o })

-- ---- each call: what it leaves by the definitions, and what any reply to it says of blocks

pub record Meaning : Type 1 where
  pub Lists : Type 0
  pub Value : Type 0
  pub leaves : State → Outcome Lists Value
  pub says : Outcome Lists Value → Report

abbrev pub saying : {L A : Type 0} → (Outcome L A → Report) → (State → Outcome L A) → Meaning
saying {L} {A} f g = record { Lists = L; Value = A; leaves = g; says = f }

abbrev pub quiet : {L A : Type 0} → (State → Outcome L A) → Meaning
quiet g = saying (λ r. silent) g

abbrev pub meaning : Call → Meaning
meaning (set_up table capacity refreshes) = saying by_set_up (λ st. Calls.set_up st table capacity refreshes)
meaning (resolve l hs) = quiet (λ st. Calls.resolve_call st l hs)
meaning (insert l hs) = quiet (λ st. Calls.insert st l hs)
meaning (store_insert l s sp time write) = saying (by_bring_in s sp) (λ st. Calls.store_insert st l s sp time write)
meaning (store_used s sps time counted) = quiet (λ st. Calls.store_used st s sps time counted)
meaning (store_remove l s sp) = saying (by_removal s sp) (λ st. Calls.store_remove st l s sp)
meaning (store_expire l s now seconds) = saying (by_expiry s) (λ st. Calls.store_expire st l s now seconds)
meaning (pin_source s sp) = quiet (λ st. Calls.pin_source st s sp)
meaning (unpin_source s sp) = quiet (λ st. Calls.unpin_source st s sp)
meaning (lookup l ts hs) = quiet (λ st. Calls.lookup st l ts hs)
meaning (store_held s) = quiet (λ st. Calls.held_call st s)
meaning (store_capacity s) = quiet (λ st. Calls.capacity_call st s)
meaning (store_pinned s) = quiet (λ st. Calls.pinned_call st s)
meaning (store_available s) = quiet (λ st. Calls.available_call st s)
meaning (source_version s) = quiet (λ st. Calls.version_call st s)
meaning pin_stalls = quiet (λ st. Calls.stalls_call st)

-- what a call leaves, whoever makes it: state, answer lists and answer
abbrev pub Reply : Call → Type 0
Reply c = Outcome (meaning c).Lists (meaning c).Value

-- the reply of the definitions
abbrev pub reply_of : (c : Call) → State → Reply c
reply_of c st = (meaning c).leaves st

-- ---- for each store the names of "the blocks brought in and not since given out or removed"

abbrev pub History : Type 1
History = ℕ → List ℕ → Type 0

-- after one more report; a block's name is read from the tree before the call
abbrev pub next : Tree → Report → History → History
next t x h q w = (h q w ⊎ Named t (x.brought_in q) w) × (Named t (x.gone q) w → ⊥)

-- the history that a call's reply tells
abbrev pub tell : (c : Call) → Tree → Reply c → History → History
tell c t r h = next t ((meaning c).says r) h

-- the calls of the definitions, one after another
unfoldable pub run : State → List Call → State
run st [] = st
run st (c ∷ cs) = run (reply_of c st).state cs

unfoldable pub since : History → State → List Call → History
since h st [] = h
since h st (c ∷ cs) = since (tell c st.tree (reply_of c st) h) (reply_of c st).state cs

-- A call may be a sequence of steps, each judged in turn on what the earlier ones left: one step for each call above, several for a batch or a job
abbrev pub Steps : Type 0
Steps = List Call

unfoldable pub run_all : State → List Steps → State
unfolding run
run_all st [] = st
run_all st (c ∷ cs) = run_all (run st c) cs

unfoldable pub since_all : History → State → List Steps → History
unfolding since run
since_all h st [] = h
since_all h st (c ∷ cs) = since_all (since h st c) (run st c) cs

-- before the first call nothing has been brought in
abbrev pub nothing : History
nothing q w = ⊥

-- the list has the name w
unfoldable pub Has : List ℕ → List (List ℕ) → Type 0
Has w [] = ⊥
Has w (v ∷ vs) = (v ≡ w) ⊎ Has w vs

-- no name comes twice
abbrev pub NoTwo : List (List ℕ) → Type 0
NoTwo ns = InOrder (λ v w. v ≡ w → ⊥) ns

-- store q as demand 2 has it: "each store's ranges are sorted and disjoint and hold exactly the blocks .. ; held is their number". So a list of their names,
-- each once, is as long as held; and two blocks have two names
pub record Exactly (st : State) (h : History) (q : ℕ) : Type 0 where
  pub sorted : Sorted (store_of st q).ranges
  pub filled : All Filled (store_of st q).ranges
  pub only : (w : List ℕ) → Stored st q w → h q w
  pub all : (w : List ℕ) → h q w → Stored st q w
  pub names : List (List ℕ)
  pub theirs : (w : List ℕ) → Has w names ↔ Stored st q w
  pub once : NoTwo names
  pub held : length names ≡ held_of st q
  pub named :
      (n o m p : ℕ) → Holds (store_of st q).ranges n o → Holds (store_of st q).ranges m p → name_of st.tree n o ≡ name_of st.tree m p
      → (n ≡ m) × (o ≡ p)
