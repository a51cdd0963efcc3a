-- No counted call refuses with 0: 0 is how an accepted answer is told. Its own conditions have numbers from 1, and past them its answer is the plain call's.
-- Assumes nothing.
use Prim.Native.Nat.{ℕ, zero, suc}
use mathlib.Core.Path.{◌≡◌}
use mathlib.Core.List.{List}
use native.Mathlib.Omega.{arith}
use lib.Ieee.{Float}
use Rattle.model.specs.declared.Span.{Span}
use Rattle.model.specs.State.{State, capacity_of}
use Rattle.model.specs.Refusals.{Condition, first_of, OutList, store_insert_refusals, store_expire_refusals, store_remove_refusals, lookup_refusals}
use Rattle.model.specs.Calls.{Outcome, unless, LookupLists, store_insert, store_expire, store_remove, lookup}
use Rattle.model_sums.specs.Sums.{More, add, by_bring, by_expire, by_remove, by_lookup}
use Rattle.model_sums.specs.Tally.{Summed, counted, beside, tally, tally_insert, tally_expire, tally_remove, tally_lookup}
use Rattle.rust_values.proofs.Telling.{Numbered, store_insert-numbered, store_expire-numbered, store_remove-numbered, lookup-numbered}

unless-numbered : {L A : Type 0} (n : ℕ) (st : State) (l : L) (o : Outcome L A) → Numbered o.answer → Numbered (unless n st l o).answer
unless-numbered zero st l o h e = h e
unless-numbered (suc n) st l o h e = let z : 0 ≡ suc n = cc in absurd (omega arith)

tally-numbered : {L A : Type 0} (cs : List Condition) (adds : Outcome L A → List More) (st : State) (l : Summed L) (o : Outcome L A)
    → Numbered o.answer → Numbered (tally cs adds st l o).answer
tally-numbered cs adds st l o = unless-numbered (first_of (counted cs l.sums (adds o))) st l (beside o (add (adds o) l.sums))

pub tally_insert-numbered : (st : State) (l : Summed OutList) (s : ℕ) (sp : Span) (time : Float) (w : ℕ) → Numbered (tally_insert st l s sp time w).answer
unfolding tally_insert
tally_insert-numbered st l s sp time w =
    tally-numbered (store_insert_refusals st l.lists s sp time) (by_bring (capacity_of st s) s) st l (store_insert st l.lists s sp time w)
    (store_insert-numbered st l.lists s sp time w)

pub tally_expire-numbered : (st : State) (l : Summed OutList) (s : ℕ) (now seconds : Float) → Numbered (tally_expire st l s now seconds).answer
unfolding tally_expire
tally_expire-numbered st l s now seconds =
    tally-numbered (store_expire_refusals st l.lists s now seconds) (by_expire s) st l (store_expire st l.lists s now seconds)
    (store_expire-numbered st l.lists s now seconds)

pub tally_remove-numbered : (st : State) (l : Summed (List ℕ)) (s : ℕ) (sp : Span) → Numbered (tally_remove st l s sp).answer
unfolding tally_remove
tally_remove-numbered st l s sp =
    tally-numbered (store_remove_refusals st l.lists s sp) (by_remove s) st l (store_remove st l.lists s sp) (store_remove-numbered st l.lists s sp)

pub tally_lookup-numbered : (st : State) (l : Summed LookupLists) (ts hs : List ℕ) → Numbered (tally_lookup st l ts hs).answer
unfolding tally_lookup
tally_lookup-numbered st l ts hs =
    tally-numbered (lookup_refusals st l.lists.path l.lists.spans ts hs) by_lookup st l (lookup st l.lists ts hs) (lookup-numbered st l.lists ts hs)
