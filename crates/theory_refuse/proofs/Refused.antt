-- A refused call gives back the state and the lists that it was handed: one law of `unless`, and a line for each public call. Assumes nothing.
use Prim.Native.Nat.{ℕ, zero, suc, ◌≤◌}
use mathlib.Core.Path.{◌≡◌, refl}
use mathlib.Core.Logic.{inl, inr, ⊎_elim}
use mathlib.Core.Bool.{Bool}
use mathlib.Core.List.{List, [], ◌∷◌}
use native.Mathlib.Omega.{arith}
use lib.Ieee.{Float}
use Rattle.model.specs.declared.Span.{Span}
use Rattle.model.specs.State.{State}
use Rattle.model.specs.Refusals.{Condition, Exact, first_of, First, PathList, OutList, set_up_refusals, resolve_refusals, insert_refusals, store_insert_refusals, touch_span, turn_refusals, store_used_refusals, store_remove_refusals, store_expire_refusals, pin_refusals, unpin_refusals, lookup_refusals, count_refusals, store_count_refusals}
use Rattle.model.specs.Calls.{done, unless, LookupLists, set_up, resolve_call, insert, store_insert, store_used, store_remove, store_expire, pin_source, unpin_source, lookup, held_call, capacity_call, pinned_call, available_call, version_call, stalls_call}
use Rattle.theory_refuse.specs.Refused.{SomeHolds, KeptWhenRefused}
use Rattle.theory_refuse.proofs.Refusals.{first_says, set_up_exact, resolve_exact, insert_exact, store_insert_exact, store_used_exact, store_remove_exact, store_expire_exact, pin_exact, unpin_exact, lookup_exact, count_exact, store_count_exact}

-- no condition has the number 0, which says that none holds
abbrev pub Numbered : List Condition → Type 0
Numbered [] = Unit {0}
Numbered (c ∷ cs) = (1 ≤ c.number) × Numbered cs

none-holds : (cs : List Condition) → Numbered cs → First cs 0 → SomeHolds cs → ⊥
none-holds [] m f h = h
none-holds (c ∷ cs) m (inl f) h = omega arith
none-holds (c ∷ cs) m (inr f) h = ⊎_elim f.0 (none-holds cs m.1 f.1) h

some_holds : (cs : List Condition) (n : ℕ) → First cs (suc n) → SomeHolds cs
some_holds [] n f = absurd (omega arith)
some_holds (c ∷ cs) n (inl f) = inl f.0
some_holds (c ∷ cs) n (inr f) = inr (some_holds cs n f.1)

-- whatever the call does where it is not refused
pub unless-kept : {L A : Type 0} {cs : List Condition} {st : State} {l : L} → Exact cs → Numbered cs → (st' : State) (l' : L) (v : A)
    → KeptWhenRefused cs st l (unless (first_of cs) st l (record { state = st'; lists = l'; answer = done v }))
unless-kept {L} {A} {cs} {st} {l} e m st' l' v = go (first_of cs) refl (first_says cs e)
  where
    go : (k : ℕ) → first_of cs ≡ k → First cs k → KeptWhenRefused cs st l (unless k st l (record { state = st'; lists = l'; answer = done v }))
    go zero p f =
        record {
          refuses = λ h. absurd (none-holds cs m f h);
          keeps = λ n q. let z : ◌≡◌ {A = ℕ} 0 1 = cc in absurd (omega arith);
        }
    go (suc k) p f =
        record {
          refuses = λ h. (suc k, refl);
          keeps =
              λ n q.
              let r : suc k ≡ n = cc in
              record { holds = some_holds cs k f; first = rw r at f; number = cc; state = refl; lists = refl };
        }

pub set_up-kept : (pools : State) (table capacity : List ℕ) (refreshes : List Bool)
    → KeptWhenRefused (set_up_refusals pools table capacity refreshes) pools tt (set_up pools table capacity refreshes)
unfolding set_up
set_up-kept pools table capacity refreshes = unless-kept (set_up_exact pools table capacity refreshes) (omega arith) _ _ _

pub resolve-kept : (st : State) (l : PathList) (hs : List ℕ) → KeptWhenRefused (resolve_refusals st l hs) st l (resolve_call st l hs)
unfolding resolve_call
resolve-kept st l hs = unless-kept (resolve_exact st l hs) (omega arith) _ _ _

pub insert-kept : (st : State) (l : PathList) (hs : List ℕ) → KeptWhenRefused (insert_refusals st l hs) st l (insert st l hs)
unfolding insert
insert-kept st l hs = unless-kept (insert_exact st l hs) (omega arith) _ _ _

pub store_insert-kept : (st : State) (l : OutList) (s : ℕ) (sp : Span) (time : Float) (write : ℕ)
    → KeptWhenRefused (store_insert_refusals st l s sp time) st l (store_insert st l s sp time write)
unfolding store_insert
store_insert-kept st l s sp time write = unless-kept (store_insert_exact st l s sp time) (omega arith) _ _ _

turn-numbered : (st : State) (s : ℕ) (sps : List Span) (time : Float) (counted : Bool) → Numbered (turn_refusals st s sps time counted)
turn-numbered st s [] time counted = tt
turn-numbered st s (sp ∷ sps) time counted = (omega arith, (omega arith, turn-numbered (touch_span st s sp time counted) s sps time counted))

pub store_used-kept : (st : State) (s : ℕ) (sps : List Span) (time : Float) (counted : Bool)
    → KeptWhenRefused (store_used_refusals st s sps time counted) st tt (store_used st s sps time counted)
unfolding store_used
store_used-kept st s sps time counted =
    let turns = turn-numbered st s sps time counted in
    unless-kept (store_used_exact st s sps time counted) (omega arith, (omega arith, (omega arith, (omega arith, (omega arith, turns))))) _ _ _

pub store_remove-kept : (st : State) (l : List ℕ) (s : ℕ) (sp : Span) → KeptWhenRefused (store_remove_refusals st l s sp) st l (store_remove st l s sp)
unfolding store_remove
store_remove-kept st l s sp = unless-kept (store_remove_exact st l s sp) (omega arith) _ _ _

pub store_expire-kept : (st : State) (l : OutList) (s : ℕ) (now seconds : Float)
    → KeptWhenRefused (store_expire_refusals st l s now seconds) st l (store_expire st l s now seconds)
unfolding store_expire
store_expire-kept st l s now seconds = unless-kept (store_expire_exact st l s now seconds) (omega arith) _ _ _

pub pin-kept : (st : State) (s : ℕ) (sp : Span) → KeptWhenRefused (pin_refusals st s sp) st tt (pin_source st s sp)
unfolding pin_source
pin-kept st s sp = unless-kept (pin_exact st s sp) (omega arith) _ _ _

pub unpin-kept : (st : State) (s : ℕ) (sp : Span) → KeptWhenRefused (unpin_refusals st s sp) st tt (unpin_source st s sp)
unfolding unpin_source
unpin-kept st s sp = unless-kept (unpin_exact st s sp) (omega arith) _ _ _

pub lookup-kept : (st : State) (l : LookupLists) (ts hs : List ℕ)
    → KeptWhenRefused (lookup_refusals st l.path l.spans ts hs) st l (lookup st l ts hs)
unfolding lookup
lookup-kept st l ts hs = unless-kept (lookup_exact st l.path l.spans ts hs) (omega arith) _ _ _

-- ---- the counters

pub held_kept : (st : State) (s : ℕ) → KeptWhenRefused (store_count_refusals st s) st tt (held_call st s)
unfolding held_call
held_kept st s = unless-kept (store_count_exact st s) (omega arith) _ _ _

pub capacity-kept : (st : State) (s : ℕ) → KeptWhenRefused (store_count_refusals st s) st tt (capacity_call st s)
unfolding capacity_call
capacity-kept st s = unless-kept (store_count_exact st s) (omega arith) _ _ _

pub pinned-kept : (st : State) (s : ℕ) → KeptWhenRefused (store_count_refusals st s) st tt (pinned_call st s)
unfolding pinned_call
pinned-kept st s = unless-kept (store_count_exact st s) (omega arith) _ _ _

pub available_kept : (st : State) (s : ℕ) → KeptWhenRefused (store_count_refusals st s) st tt (available_call st s)
unfolding available_call
available_kept st s = unless-kept (store_count_exact st s) (omega arith) _ _ _

pub version-kept : (st : State) (s : ℕ) → KeptWhenRefused (store_count_refusals st s) st tt (version_call st s)
unfolding version_call
version-kept st s = unless-kept (store_count_exact st s) (omega arith) _ _ _

pub stalls-kept : (st : State) → KeptWhenRefused (count_refusals st) st tt (stalls_call st)
unfolding stalls_call
stalls-kept st = unless-kept (count_exact st) (omega arith) _ _ _
