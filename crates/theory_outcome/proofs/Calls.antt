-- Each public call's contract settles the call: any two things that it allows to be left coincide, and it refuses exactly where a condition of 01 holds.
-- Assumes nothing.
use Prim.Native.Nat.{ℕ}
use mathlib.Core.Bool.{Bool}
use mathlib.Core.List.{List}
use lib.Ieee.{Float}
use Rattle.model.specs.declared.Span.{Span}
use Rattle.model.specs.Refusals.{PathList, OutList, set_up_refusals, resolve_refusals, insert_refusals, store_insert_refusals, store_used_refusals, store_remove_refusals, store_expire_refusals, pin_refusals, unpin_refusals, lookup_refusals, count_refusals, store_count_refusals}
use Rattle.model.specs.Calls.{NoList, LookupLists, set_up, resolve_call, insert, store_insert, store_used, store_remove, store_expire, pin_source, unpin_source, lookup, held_call, capacity_call, pinned_call, available_call, version_call, stalls_call}
use Rattle.theory_refuse.proofs.Refused.{set_up-kept, resolve-kept, insert-kept, store_insert-kept, store_used-kept, store_remove-kept, store_expire-kept, pin-kept, unpin-kept, lookup-kept, held_kept, capacity-kept, pinned-kept, available_kept, version-kept, stalls-kept}
use Rattle.shape_answer.specs.Answers.{plain_of, count_of, resolved_of, inserted_of, store_inserted_of, store_used_of, store_removed_of, store_expired_of, looked_of}
use Rattle.theory_outcome.specs.Settled.{World, state_in, Settled}
use Rattle.theory_outcome.proofs.Laws.{settled, plain-one, count-one, resolved_one, inserted_one, store_inserted_one, store_used-one, store_removed_one, store_expired_one, looked-one}

pub set_up-settled : (w : World NoList) (table capacity : List ℕ) (refreshes : List Bool)
    → Settled plain_of (set_up_refusals (state_in w) table capacity refreshes) w (set_up (state_in w) table capacity refreshes)
set_up-settled w table capacity refreshes = settled plain_of plain-one _ w _ (set_up-kept (state_in w) table capacity refreshes)

pub resolve-settled : (w : World PathList) (hs : List ℕ)
    → Settled resolved_of (resolve_refusals (state_in w) w.lists hs) w (resolve_call (state_in w) w.lists hs)
resolve-settled w hs = settled resolved_of resolved_one _ w _ (resolve-kept (state_in w) w.lists hs)

pub insert-settled : (w : World PathList) (hs : List ℕ)
    → Settled inserted_of (insert_refusals (state_in w) w.lists hs) w (insert (state_in w) w.lists hs)
insert-settled w hs = settled inserted_of inserted_one _ w _ (insert-kept (state_in w) w.lists hs)

pub store_insert-settled : (w : World OutList) (s : ℕ) (sp : Span) (time : Float) (write : ℕ)
    → Settled store_inserted_of (store_insert_refusals (state_in w) w.lists s sp time) w (store_insert (state_in w) w.lists s sp time write)
store_insert-settled w s sp time write = settled store_inserted_of store_inserted_one _ w _ (store_insert-kept (state_in w) w.lists s sp time write)

pub store_used-settled : (w : World NoList) (s : ℕ) (sps : List Span) (time : Float) (counted : Bool)
    → Settled store_used_of (store_used_refusals (state_in w) s sps time counted) w (store_used (state_in w) s sps time counted)
store_used-settled w s sps time counted = settled store_used_of store_used-one _ w _ (store_used-kept (state_in w) s sps time counted)

pub store_remove-settled : (w : World (List ℕ)) (s : ℕ) (sp : Span)
    → Settled store_removed_of (store_remove_refusals (state_in w) w.lists s sp) w (store_remove (state_in w) w.lists s sp)
store_remove-settled w s sp = settled store_removed_of store_removed_one _ w _ (store_remove-kept (state_in w) w.lists s sp)

pub store_expire-settled : (w : World OutList) (s : ℕ) (now seconds : Float)
    → Settled store_expired_of (store_expire_refusals (state_in w) w.lists s now seconds) w (store_expire (state_in w) w.lists s now seconds)
store_expire-settled w s now seconds = settled store_expired_of store_expired_one _ w _ (store_expire-kept (state_in w) w.lists s now seconds)

pub pin-settled : (w : World NoList) (s : ℕ) (sp : Span) → Settled plain_of (pin_refusals (state_in w) s sp) w (pin_source (state_in w) s sp)
pin-settled w s sp = settled plain_of plain-one _ w _ (pin-kept (state_in w) s sp)

pub unpin-settled : (w : World NoList) (s : ℕ) (sp : Span) → Settled plain_of (unpin_refusals (state_in w) s sp) w (unpin_source (state_in w) s sp)
unpin-settled w s sp = settled plain_of plain-one _ w _ (unpin-kept (state_in w) s sp)

pub lookup-settled : (w : World LookupLists) (ts hs : List ℕ)
    → Settled looked_of (lookup_refusals (state_in w) w.lists.path w.lists.spans ts hs) w (lookup (state_in w) w.lists ts hs)
lookup-settled w ts hs = settled looked_of looked-one _ w _ (lookup-kept (state_in w) w.lists ts hs)

-- ---- the counters

pub held-settled : (w : World NoList) (s : ℕ) → Settled count_of (store_count_refusals (state_in w) s) w (held_call (state_in w) s)
held-settled w s = settled count_of count-one _ w _ (held_kept (state_in w) s)

pub capacity-settled : (w : World NoList) (s : ℕ) → Settled count_of (store_count_refusals (state_in w) s) w (capacity_call (state_in w) s)
capacity-settled w s = settled count_of count-one _ w _ (capacity-kept (state_in w) s)

pub pinned-settled : (w : World NoList) (s : ℕ) → Settled count_of (store_count_refusals (state_in w) s) w (pinned_call (state_in w) s)
pinned-settled w s = settled count_of count-one _ w _ (pinned-kept (state_in w) s)

pub available_settled : (w : World NoList) (s : ℕ) → Settled count_of (store_count_refusals (state_in w) s) w (available_call (state_in w) s)
available_settled w s = settled count_of count-one _ w _ (available_kept (state_in w) s)

pub version-settled : (w : World NoList) (s : ℕ) → Settled count_of (store_count_refusals (state_in w) s) w (version_call (state_in w) s)
version-settled w s = settled count_of count-one _ w _ (version-kept (state_in w) s)

pub stalls-settled : (w : World NoList) → Settled count_of (count_refusals (state_in w)) w (stalls_call (state_in w))
stalls-settled w = settled count_of count-one _ w _ (stalls-kept (state_in w))
