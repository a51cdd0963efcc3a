-- The contract of each counted call settles it, as those of the plain calls do: it allows one state, lists, sums and answer to be left, and refuses exactly
-- where a condition of 01 or 02 holds, with all as it was lent. Assumes nothing.
use Prim.Native.Nat.{ℕ}
use mathlib.Core.List.{List}
use lib.Ieee.{Float}
use Rattle.model.specs.declared.Span.{Span}
use Rattle.model.specs.Refusals.{OutList}
use Rattle.model.specs.Calls.{LookupLists}
use Rattle.model_sums.specs.Tally.{Summed, tally_insert_refusals, tally_expire_refusals, tally_remove_refusals, tally_lookup_refusals, tally_insert, tally_expire, tally_remove, tally_lookup}
use Rattle.shape_answer.specs.Answers.{store_inserted_of, store_expired_of, store_removed_of, looked_of}
use Rattle.theory_outcome.specs.Settled.{World, state_in, Settled}
use Rattle.theory_outcome.proofs.Laws.{settled, store_inserted_one, store_expired_one, store_removed_one, looked-one}
use Rattle.theory_sums.proofs.Tallied.{tally_insert-kept, tally_expire-kept, tally_remove-kept, tally_lookup-kept}

pub tally_insert-settled : (w : World (Summed OutList)) (s : ℕ) (sp : Span) (time : Float) (write : ℕ)
    → Settled store_inserted_of (tally_insert_refusals (state_in w) w.lists s sp time write) w (tally_insert (state_in w) w.lists s sp time write)
tally_insert-settled w s sp time write = settled store_inserted_of store_inserted_one _ w _ (tally_insert-kept (state_in w) w.lists s sp time write)

pub tally_expire-settled : (w : World (Summed OutList)) (s : ℕ) (now seconds : Float)
    → Settled store_expired_of (tally_expire_refusals (state_in w) w.lists s now seconds) w (tally_expire (state_in w) w.lists s now seconds)
tally_expire-settled w s now seconds = settled store_expired_of store_expired_one _ w _ (tally_expire-kept (state_in w) w.lists s now seconds)

pub tally_remove-settled : (w : World (Summed (List ℕ))) (s : ℕ) (sp : Span)
    → Settled store_removed_of (tally_remove_refusals (state_in w) w.lists s sp) w (tally_remove (state_in w) w.lists s sp)
tally_remove-settled w s sp = settled store_removed_of store_removed_one _ w _ (tally_remove-kept (state_in w) w.lists s sp)

pub tally_lookup-settled : (w : World (Summed LookupLists)) (ts hs : List ℕ)
    → Settled looked_of (tally_lookup_refusals (state_in w) w.lists ts hs) w (tally_lookup (state_in w) w.lists ts hs)
tally_lookup-settled w ts hs = settled looked_of looked-one _ w _ (tally_lookup-kept (state_in w) w.lists ts hs)
