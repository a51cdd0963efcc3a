-- Steps that keep the sums: the four counted calls, and plain calls that change no figure; one after another from a state and its sums. Assumes nothing.
use Rattle.std.specs.Prelude.{ℕ, Bool, true, false, List, [], ◌∷◌, eqb, Float}
use Rattle.model.specs.declared.Span.{Span}
use Rattle.model.specs.State.{State}
use Rattle.model.specs.Refusals.{OutList}
use Rattle.model.specs.Calls as Calls
use Rattle.model.specs.Calls.{Outcome, Answer, refused, done, LookupLists}
use Rattle.model_sums.specs.Sums.{no_sums}
use Rattle.model_sums.specs.Tally.{Summed, summed, tally_insert, tally_expire, tally_remove, tally_lookup}
use Rattle.theory_history.specs.History.{Call, set_up, resolve, insert, store_insert, store_used, store_remove, store_expire, pin_source, unpin_source, lookup, store_held, store_capacity, store_pinned, store_available, source_version, pin_stalls, reply_of}

-- a plain call that changes no figure: "other than bring-in, removal, expiry"; set-up begins anew
abbrev pub Uncounted : Call → Type 0
Uncounted (set_up table capacity refreshes) = ⊥
Uncounted (resolve l hs) = Unit {0}
Uncounted (insert l hs) = Unit {0}
Uncounted (store_insert l s sp time write) = ⊥
Uncounted (store_used s sps time counted) = Unit {0}
Uncounted (store_remove l s sp) = ⊥
Uncounted (store_expire l s now seconds) = ⊥
Uncounted (pin_source s sp) = Unit {0}
Uncounted (unpin_source s sp) = Unit {0}
Uncounted (lookup l ts hs) = Unit {0}
Uncounted (store_held s) = Unit {0}
Uncounted (store_capacity s) = Unit {0}
Uncounted (store_pinned s) = Unit {0}
Uncounted (store_available s) = Unit {0}
Uncounted (source_version s) = Unit {0}
Uncounted pin_stalls = Unit {0}

-- a counted call with its arguments, or such a plain call
pub data Step : Type 0 where
  brings : OutList → ℕ → Span → Float → ℕ → Step
  expires : OutList → ℕ → Float → Float → Step
  removes : List ℕ → ℕ → Span → Step
  looks : LookupLists → List ℕ → List ℕ → Step
  plain : (c : Call) → Uncounted c → Step

-- what a report carries from line to line
pub record Run : Type 0 where
  pub state : State
  pub sums : List ℕ

-- after set-up
abbrev pub started : State → List ℕ → List ℕ → List Bool → Run
started pools table capacity refreshes = record { state = (Calls.set_up pools table capacity refreshes).state; sums = no_sums }

abbrev pub left : {L A : Type 0} → Outcome (Summed L) A → Run
left o = record { state = o.state; sums = o.lists.sums }

abbrev pub after : Step → Run → Run
after (brings l s sp time write) r = left (tally_insert r.state (summed l r.sums) s sp time write)
after (expires l s now seconds) r = left (tally_expire r.state (summed l r.sums) s now seconds)
after (removes l s sp) r = left (tally_remove r.state (summed l r.sums) s sp)
after (looks l ts hs) r = left (tally_lookup r.state (summed l r.sums) ts hs)
after (plain c u) r = record { state = (reply_of c r.state).state; sums = r.sums }

unfoldable pub run_steps : Run → List Step → Run
run_steps r [] = r
run_steps r (c ∷ cs) = run_steps (after c r) cs

-- ---- the plain calls of a run: those that 21 did not refuse

abbrev pub unless_late : {A : Type 0} → Answer A → Call → List Call → List Call
unless_late (refused n) c cs = elim (eqb n 21) [ true ↦ cs | false ↦ c ∷ cs ]
unless_late (done a) c cs = c ∷ cs

-- the step's plain call in front of cs, unless 21 refused the step
abbrev pub call_of : Step → Run → List Call → List Call
call_of (brings l s sp time write) r cs =
    unless_late (tally_insert r.state (summed l r.sums) s sp time write).answer (store_insert l s sp time write) cs
call_of (expires l s now seconds) r cs = unless_late (tally_expire r.state (summed l r.sums) s now seconds).answer (store_expire l s now seconds) cs
call_of (removes l s sp) r cs = unless_late (tally_remove r.state (summed l r.sums) s sp).answer (store_remove l s sp) cs
call_of (looks l ts hs) r cs = unless_late (tally_lookup r.state (summed l r.sums) ts hs).answer (lookup l ts hs) cs
call_of (plain c u) r cs = c ∷ cs

unfoldable pub calls_of : Run → List Step → List Call
calls_of r [] = []
calls_of r (c ∷ cs) = call_of c r (calls_of (after c r) cs)
