-- The number and the values of 01 for each case of an answer, and the state that all lent columns make. Assumes nothing.
use Rattle.std.specs.Prelude.{ℕ, List, Float}
use Rattle.model.specs.declared.ResolveAnswer.{ResolveAnswer}
use Rattle.model.specs.declared.InsertAnswer.{InsertAnswer}
use Rattle.model.specs.declared.BringAnswer.{BringAnswer}
use Rattle.model.specs.declared.TouchAnswer.{TouchAnswer}
use Rattle.model.specs.declared.RemoveAnswer.{RemoveAnswer}
use Rattle.model.specs.declared.ExpireAnswer.{ExpireAnswer}
use Rattle.model.specs.declared.LookupAnswer.{LookupAnswer}
use Rattle.model.specs.State.{State, nodes_in, used_in}
use Rattle.model.specs.Calls.{Outcome, Answer, refused, done, NoValue}
use Rattle.shape_state.specs.Lent.{tree_of, ranges_of, pins_of, state_of}
use Rattle.shape_answer.specs.declared.Plain.{Plain}
use Rattle.shape_answer.specs.declared.Plain.TheVariants as PlainIs
use Rattle.shape_answer.specs.declared.Count.{Count}
use Rattle.shape_answer.specs.declared.Count.TheVariants as CountIs
use Rattle.shape_answer.specs.declared.Resolved.{Resolved}
use Rattle.shape_answer.specs.declared.Resolved.TheVariants as ResolvedIs
use Rattle.shape_answer.specs.declared.Inserted.{Inserted}
use Rattle.shape_answer.specs.declared.Inserted.TheVariants as InsertedIs
use Rattle.shape_answer.specs.declared.StoreInserted.{StoreInserted}
use Rattle.shape_answer.specs.declared.StoreInserted.TheVariants as StoreInsertedIs
use Rattle.shape_answer.specs.declared.StoreUsed.{StoreUsed}
use Rattle.shape_answer.specs.declared.StoreUsed.TheVariants as StoreUsedIs
use Rattle.shape_answer.specs.declared.StoreRemoved.{StoreRemoved}
use Rattle.shape_answer.specs.declared.StoreRemoved.TheVariants as StoreRemovedIs
use Rattle.shape_answer.specs.declared.StoreExpired.{StoreExpired}
use Rattle.shape_answer.specs.declared.StoreExpired.TheVariants as StoreExpiredIs
use Rattle.shape_answer.specs.declared.Looked.{Looked}
use Rattle.shape_answer.specs.declared.Looked.TheVariants as LookedIs

-- the state that all lent columns make; every call names the columns in this order
abbrev pub state_from :
    List ℕ → List ℕ → List ℕ → List ℕ → List ℕ
    → List ℕ → List ℕ → List ℕ → List ℕ → List ℕ → List Float → List ℕ
    → List ℕ → List ℕ → List ℕ → List ℕ
    → List ℕ → List ℕ → List ℕ → State
state_from parent depth len run words node start end id stamp touched write pin_node pin_start pin_end pin_count marks bytes books =
    state_of (tree_of parent depth len run words (nodes_in books) (used_in books)) (ranges_of node start end id stamp touched write)
    (pins_of pin_node pin_start pin_end pin_count) marks bytes books

abbrev pub outcome : {L A : Type 0} → State → L → Answer A → Outcome L A
outcome st l a = record { state = st; lists = l; answer = a }

-- ---- each case of an answer

abbrev pub plain_of : Plain → Answer NoValue
plain_of (PlainIs.Refused n) = refused n
plain_of PlainIs.Done = done tt

abbrev pub count_of : Count → Answer ℕ
count_of (CountIs.Refused n) = refused n
count_of (CountIs.Done k) = done k

abbrev pub resolved_of : Resolved → Answer ResolveAnswer
resolved_of (ResolvedIs.Refused n) = refused n
resolved_of (ResolvedIs.Done a) = done a

abbrev pub inserted_of : Inserted → Answer InsertAnswer
inserted_of (InsertedIs.Refused n) = refused n
inserted_of (InsertedIs.Done a) = done a

abbrev pub store_inserted_of : StoreInserted → Answer BringAnswer
store_inserted_of (StoreInsertedIs.Refused n) = refused n
store_inserted_of (StoreInsertedIs.Done a) = done a

abbrev pub store_used_of : StoreUsed → Answer TouchAnswer
store_used_of (StoreUsedIs.Refused n) = refused n
store_used_of (StoreUsedIs.Done a) = done a

abbrev pub store_removed_of : StoreRemoved → Answer RemoveAnswer
store_removed_of (StoreRemovedIs.Refused n) = refused n
store_removed_of (StoreRemovedIs.Done a) = done a

abbrev pub store_expired_of : StoreExpired → Answer ExpireAnswer
store_expired_of (StoreExpiredIs.Refused n) = refused n
store_expired_of (StoreExpiredIs.Done a) = done a

abbrev pub looked_of : Looked → Answer LookupAnswer
looked_of (LookedIs.Refused n) = refused n
looked_of (LookedIs.Done a) = done a
