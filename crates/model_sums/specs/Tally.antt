-- Request P1: the four calls that keep the sums. Each is the plain call, with the sums among the lists that it is lent: 14 also for a list of sums that is
-- too short, and 21 behind all else. Assumes nothing.
use Rattle.std.specs.Prelude.{ℕ, ◌<◌, List, [], ◌∷◌, ◌++◌, length, ltb, Float}
use Rattle.model.specs.declared.Span.{Span}
use Rattle.model.specs.declared.BringAnswer.{BringAnswer}
use Rattle.model.specs.declared.RemoveAnswer.{RemoveAnswer}
use Rattle.model.specs.declared.ExpireAnswer.{ExpireAnswer}
use Rattle.model.specs.declared.LookupAnswer.{LookupAnswer}
use Rattle.model.specs.State.{State, capacity_of}
use Rattle.model.specs.Refusals.{Condition, condition, first_of, OutList, store_insert_refusals, store_remove_refusals, store_expire_refusals, lookup_refusals}
use Rattle.model.specs.Calls.{Outcome, unless, store_insert, store_remove, store_expire, LookupLists, lookup}
use Rattle.model_sums.specs.Sums.{sum_places, More, add, Passes, passes, by_bring, by_expire, by_remove, by_lookup}

-- a call's answer lists, and the sums
pub record Summed (L : Type 0) : Type 0 where
  pub lists : L
  pub sums : List ℕ

abbrev pub summed : {L : Type 0} → L → List ℕ → Summed L
summed l v = record { lists = l; sums = v }

-- ---- refusals

-- 14: a list that the call writes is too short
abbrev pub short_sums : List ℕ → Condition
short_sums v = condition 14 (length v < sum_places) (ltb (length v) sum_places)

-- 21: "last, a running sum would pass 2^63 - 1"
abbrev pub past_limit : List More → List ℕ → Condition
past_limit ms v = condition 21 (Passes ms v) (passes ms v)

-- the plain call's conditions, of which the first is 1, with these two at their places
abbrev pub counted : List Condition → List ℕ → List More → List Condition
counted [] v ms = short_sums v ∷ past_limit ms v ∷ []
counted (c ∷ cs) v ms = c ∷ short_sums v ∷ (cs ++ (past_limit ms v ∷ []))

-- each counted call's conditions
abbrev pub tally_insert_refusals : State → Summed OutList → ℕ → Span → Float → ℕ → List Condition
tally_insert_refusals st l s sp time write =
    counted (store_insert_refusals st l.lists s sp time) l.sums (by_bring (capacity_of st s) s (store_insert st l.lists s sp time write))

abbrev pub tally_expire_refusals : State → Summed OutList → ℕ → Float → Float → List Condition
tally_expire_refusals st l s now seconds =
    counted (store_expire_refusals st l.lists s now seconds) l.sums (by_expire s (store_expire st l.lists s now seconds))

abbrev pub tally_remove_refusals : State → Summed (List ℕ) → ℕ → Span → List Condition
tally_remove_refusals st l s sp = counted (store_remove_refusals st l.lists s sp) l.sums (by_remove s (store_remove st l.lists s sp))

abbrev pub tally_lookup_refusals : State → Summed LookupLists → List ℕ → List ℕ → List Condition
tally_lookup_refusals st l ts hs =
    counted (lookup_refusals st l.lists.path l.lists.spans ts hs) l.sums (by_lookup (lookup st l.lists ts hs))

-- ---- the calls

-- the plain call's outcome beside the sums v
abbrev pub beside : {L A : Type 0} → Outcome L A → List ℕ → Outcome (Summed L) A
beside o v = record { state = o.state; lists = summed o.lists v; answer = o.answer }

-- a call with the conditions cs and the outcome o, of which `adds` says what it adds
abbrev pub tally : {L A : Type 0} → List Condition → (Outcome L A → List More) → State → Summed L → Outcome L A → Outcome (Summed L) A
tally cs adds st l o = unless (first_of (counted cs l.sums (adds o))) st l (beside o (add (adds o) l.sums))

unfoldable pub tally_insert : State → Summed OutList → ℕ → Span → Float → ℕ → Outcome (Summed OutList) BringAnswer
unfolding store_insert add
tally_insert st l s sp time write =
    tally (store_insert_refusals st l.lists s sp time) (by_bring (capacity_of st s) s) st l (store_insert st l.lists s sp time write)

unfoldable pub tally_expire : State → Summed OutList → ℕ → Float → Float → Outcome (Summed OutList) ExpireAnswer
unfolding store_expire add
tally_expire st l s now seconds =
    tally (store_expire_refusals st l.lists s now seconds) (by_expire s) st l (store_expire st l.lists s now seconds)

unfoldable pub tally_remove : State → Summed (List ℕ) → ℕ → Span → Outcome (Summed (List ℕ)) RemoveAnswer
unfolding store_remove add
tally_remove st l s sp = tally (store_remove_refusals st l.lists s sp) (by_remove s) st l (store_remove st l.lists s sp)

unfoldable pub tally_lookup : State → Summed LookupLists → List ℕ → List ℕ → Outcome (Summed LookupLists) LookupAnswer
unfolding lookup add
tally_lookup st l ts hs =
    tally (lookup_refusals st l.lists.path l.lists.spans ts hs) by_lookup st l (lookup st l.lists ts hs)
