-- Every public call keeps every clause of a sound state, accepted or refused; and an unpin what every store holds. Assumes nothing.
use Prim.Native.Nat.{ℕ, ◌+◌}
use mathlib.Core.Path.{◌≡◌, refl}
use mathlib.Core.Bool.{Bool}
use mathlib.Core.List.{List}
use native.Mathlib.Omega.{arith}
use lib.Ieee.{Float}
use Rattle.model.specs.declared.Span.{Span}
use Rattle.model.specs.Sizes.{store_records, store_pins}
use Rattle.model.specs.State.{State, stores_of, records_of, held_of, entries_of}
use Rattle.model.specs.Sound.{Sound}
use Rattle.model.specs.Refusals.{PathList, OutList, SpanIn, no_span, cut_records, cut_entries}
use Rattle.model.specs.Calls.{done, LookupLists, set_up, resolve_call, insert, store_insert, store_used, store_remove, store_expire, pin_source, unpin_source, lookup, held_call, capacity_call, pinned_call, available_call, version_call, stalls_call}
use Rattle.theory_refuse.proofs.Refused.{set_up-kept, resolve-kept, insert-kept, store_insert-kept, store_used-kept, store_remove-kept, store_expire-kept, pin-kept, unpin-kept, lookup-kept, held_kept, capacity-kept, pinned-kept, available_kept, version-kept, stalls-kept}
use Rattle.theory_lay.proofs.SetUp
use Rattle.theory_bring.proofs.Facts.{all_from}
use Rattle.theory_calls.proofs.Accepted.{unless_holds, unless-sound, unless-same, unless-done, neither, each_fits, span_in_lem, is_finite, set_up_fits_lem}
use Rattle.theory_calls.proofs.Stores.{bring_in-sound, touch_spans-sound, remove_in_sound, expire_in_sound, pin_in_sound, unpin_in_sound, unpin_in_held}
use Rattle.theory_calls.proofs.Insert.{insert_path-sound}

-- an accepted set-up; a refused one gives the pools back
pub set_up-sound : (pools : State) (table capacity : List ℕ) (refreshes : List Bool) → (set_up pools table capacity refreshes).answer ≡ done tt
    → Sound (set_up pools table capacity refreshes).state
unfolding set_up
set_up-sound pools table capacity refreshes e =
    let a = unless-done _ _ _ (set_up-kept pools table capacity refreshes) tt e in
    rw a.state (SetUp.set_up-sound pools table capacity refreshes (set_up_fits_lem pools table capacity refreshes a.none.0))

pub insert-sound : (st : State) (l : PathList) (hs : List ℕ) → Sound st → Sound (insert st l hs).state
unfolding insert
insert-sound st l hs h =
    unless-sound _ _ _ (insert-kept st l hs) h
    (λ (unsound, (short, (many, (few_nodes, (few_words, (few_records, (few_entries, (late, end)))))))).
    insert_path-sound st hs h (omega arith) (omega arith) (omega arith)
    (each_fits (λ s. records_of st s + cut_records st hs s) (stores_of st) store_records few_records)
    (each_fits (λ s. entries_of st s + cut_entries st hs s) (stores_of st) store_pins few_entries) (omega arith))

pub store_insert-sound : (st : State) (l : OutList) (s : ℕ) (sp : Span) (time : Float) (write : ℕ) → Sound st
    → Sound (store_insert st l s sp time write).state
unfolding store_insert
store_insert-sound st l s sp time write h =
    unless-sound _ _ _ (store_insert-kept st l s sp time write) h
    (λ (unsound, (short, (no_store, (bad_span, (bad_time, (few_records, (late, end))))))).
    let fits = neither late in
    bring_in-sound st s h (omega arith) sp time write (span_in_lem st.tree sp bad_span) (is_finite time bad_time) (omega arith) fits.0 fits.1)

pub store_used-sound : (st : State) (s : ℕ) (sps : List Span) (time : Float) (counted : Bool) → Sound st → Sound (store_used st s sps time counted).state
unfolding store_used
store_used-sound st s sps time counted h =
    unless-sound _ _ _ (store_used-kept st s sps time counted) h
    (λ (unsound, (no_store, (many, (bad_spans, (bad_time, turns))))).
    touch_spans-sound st s sps time counted h (omega arith)
    (all_from (SpanIn st.tree) no_span sps (λ i l. span_in_lem st.tree _ (λ bad. bad_spans (i, l, bad)))) (is_finite time bad_time) turns)

pub store_remove-sound : (st : State) (l : List ℕ) (s : ℕ) (sp : Span) → Sound st → Sound (store_remove st l s sp).state
unfolding store_remove
store_remove-sound st l s sp h =
    unless-sound _ _ _ (store_remove-kept st l s sp) h
    (λ (unsound, (short, (no_store, (bad_span, (few_records, (late, end)))))).
    remove_in_sound st s h (omega arith) sp (span_in_lem st.tree sp bad_span) (omega arith) (omega arith))

pub store_expire-sound : (st : State) (l : OutList) (s : ℕ) (now seconds : Float) → Sound st → Sound (store_expire st l s now seconds).state
unfolding store_expire
store_expire-sound st l s now seconds h =
    unless-sound _ _ _ (store_expire-kept st l s now seconds) h
    (λ (unsound, (short, (no_store, (bad_times, end)))). expire_in_sound st s h (omega arith) now seconds)

pub pin-sound : (st : State) (s : ℕ) (sp : Span) → Sound st → Sound (pin_source st s sp).state
unfolding pin_source
pin-sound st s sp h =
    unless-sound _ _ _ (pin-kept st s sp) h
    (λ (unsound, (no_store, (bad_span, (few_entries, end)))).
    let fits = neither few_entries in
    pin_in_sound st s h (omega arith) sp (span_in_lem st.tree sp bad_span) fits.0 fits.1)

pub unpin-sound : (st : State) (s : ℕ) (sp : Span) → Sound st → Sound (unpin_source st s sp).state
unfolding unpin_source
unpin-sound st s sp h =
    unless-sound _ _ _ (unpin-kept st s sp) h
    (λ (unsound, (no_store, (bad_span, (no_entry, end)))). unpin_in_sound st s h (omega arith) sp)

-- "unpin .. never trims": accepted or refused, every store's held blocks are what they were
pub unpin-held : (st : State) (s : ℕ) (sp : Span) → Sound st → (q : ℕ) → held_of (unpin_source st s sp).state q ≡ held_of st q
unfolding unpin_source
unpin-held st s sp h q =
    unless_holds _ _ _ (λ x. held_of x q ≡ held_of st q) (unpin-kept st s sp) refl
    (λ (unsound, (no_store, rest)). unpin_in_held st s h (omega arith) sp q)

-- ---- calls that only read: the state is the same, and so as sound

pub resolve_same : (st : State) (l : PathList) (hs : List ℕ) → (resolve_call st l hs).state ≡ st
unfolding resolve_call
resolve_same st l hs = unless-same _ _ (resolve-kept st l hs)

pub resolve-sound : (st : State) (l : PathList) (hs : List ℕ) → Sound st → Sound (resolve_call st l hs).state
resolve-sound st l hs h = rw (resolve_same st l hs) h

pub lookup-same : (st : State) (l : LookupLists) (ts hs : List ℕ) → (lookup st l ts hs).state ≡ st
unfolding lookup
lookup-same st l ts hs = unless-same _ _ (lookup-kept st l ts hs)

pub lookup-sound : (st : State) (l : LookupLists) (ts hs : List ℕ) → Sound st → Sound (lookup st l ts hs).state
lookup-sound st l ts hs h = rw (lookup-same st l ts hs) h

pub held_same : (st : State) (s : ℕ) → (held_call st s).state ≡ st
unfolding held_call
held_same st s = unless-same _ _ (held_kept st s)

pub held-sound : (st : State) (s : ℕ) → Sound st → Sound (held_call st s).state
held-sound st s h = rw (held_same st s) h

pub capacity-same : (st : State) (s : ℕ) → (capacity_call st s).state ≡ st
unfolding capacity_call
capacity-same st s = unless-same _ _ (capacity-kept st s)

pub capacity-sound : (st : State) (s : ℕ) → Sound st → Sound (capacity_call st s).state
capacity-sound st s h = rw (capacity-same st s) h

pub pinned-same : (st : State) (s : ℕ) → (pinned_call st s).state ≡ st
unfolding pinned_call
pinned-same st s = unless-same _ _ (pinned-kept st s)

pub pinned-sound : (st : State) (s : ℕ) → Sound st → Sound (pinned_call st s).state
pinned-sound st s h = rw (pinned-same st s) h

pub available_same : (st : State) (s : ℕ) → (available_call st s).state ≡ st
unfolding available_call
available_same st s = unless-same _ _ (available_kept st s)

pub available_sound : (st : State) (s : ℕ) → Sound st → Sound (available_call st s).state
available_sound st s h = rw (available_same st s) h

pub version-same : (st : State) (s : ℕ) → (version_call st s).state ≡ st
unfolding version_call
version-same st s = unless-same _ _ (version-kept st s)

pub version-sound : (st : State) (s : ℕ) → Sound st → Sound (version_call st s).state
version-sound st s h = rw (version-same st s) h

pub stalls-same : (st : State) → (stalls_call st).state ≡ st
unfolding stalls_call
stalls-same st = unless-same _ _ (stalls-kept st)

pub stalls-sound : (st : State) → Sound st → Sound (stalls_call st).state
stalls-sound st h = rw (stalls-same st) h
