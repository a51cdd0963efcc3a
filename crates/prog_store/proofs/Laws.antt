-- Each call keeps a sound state sound, and its answer is within its lists: from the equation of its contract. Assumes nothing.
use Prim.Native.Nat.{ℕ}
use mathlib.Core.Path.{◌≡◌, sym, subst, ap}
use mathlib.Core.Bool.{Bool}
use mathlib.Core.List.{List}
use lib.Ieee.{Float}
use Rattle.model.specs.declared.Span.{Span}
use Rattle.model.specs.State.{State}
use Rattle.model.specs.Sound.{Sound}
use Rattle.model.specs.Refusals.{OutList}
use Rattle.model.specs.Calls.{Outcome, Answer, NoList, store_insert, store_used, store_remove, store_expire, pin_source, unpin_source}
use Rattle.shape_answer.specs.declared.Plain.{Plain}
use Rattle.shape_answer.specs.declared.StoreInserted.{StoreInserted}
use Rattle.shape_answer.specs.declared.StoreInserted.TheVariants as StoreInsertedIs
use Rattle.shape_answer.specs.declared.StoreUsed.{StoreUsed}
use Rattle.shape_answer.specs.declared.StoreRemoved.{StoreRemoved}
use Rattle.shape_answer.specs.declared.StoreRemoved.TheVariants as StoreRemovedIs
use Rattle.shape_answer.specs.declared.StoreExpired.{StoreExpired}
use Rattle.shape_answer.specs.declared.StoreExpired.TheVariants as StoreExpiredIs
use Rattle.shape_answer.specs.Answers.{outcome, plain_of, store_inserted_of, store_used_of, store_removed_of, store_expired_of}
use Rattle.theory_calls.proofs.Calls.{store_insert-sound, store_used-sound, store_remove-sound, store_expire-sound, pin-sound, unpin-sound}
use Rattle.theory_calls.proofs.Fits.{store_insert-fits, store_remove-fits, store_expire-fits}
use Rattle.text_answer.specs.Text.{BringIn, ExpireIn, RemoveIn}

-- the state of an outcome
keeps : {L A : Type 0} {st : State} {l : L} {a : Answer A} {o : Outcome L A} → outcome st l a ≡ o → Sound o.state → Sound st
keeps e h = subst Sound (sym (ap (λ o. o.state) e)) h

module _ (st st' : State) (s : ℕ) (sp : Span) where
  pub pin-keeps : (a : Plain) → outcome {L = NoList} st' tt (plain_of a) ≡ pin_source st s sp → Sound st → Sound st'
  pin-keeps a e h = keeps e (pin-sound st s sp h)

  pub unpin-keeps : (a : Plain) → outcome {L = NoList} st' tt (plain_of a) ≡ unpin_source st s sp → Sound st → Sound st'
  unpin-keeps a e h = keeps e (unpin-sound st s sp h)

  module _ (l l' : OutList) (time : Float) (write : ℕ) where
    pub bring_in_lem : (a : StoreInserted) → outcome st' l' (store_inserted_of a) ≡ store_insert st l s sp time write → BringIn a
    bring_in_lem (StoreInsertedIs.Refused n) e = tt
    bring_in_lem (StoreInsertedIs.Done d) e = store_insert-fits st l s sp time write d (sym (ap (λ o. o.answer) e))

    pub bring-keeps : (a : StoreInserted) → outcome st' l' (store_inserted_of a) ≡ store_insert st l s sp time write → Sound st → Sound st'
    bring-keeps a e h = keeps e (store_insert-sound st l s sp time write h)

  module _ (l l' : List ℕ) where
    pub remove_in : (a : StoreRemoved) → outcome st' l' (store_removed_of a) ≡ store_remove st l s sp → RemoveIn a
    remove_in (StoreRemovedIs.Refused n) e = tt
    remove_in (StoreRemovedIs.Done d) e = store_remove-fits st l s sp d (sym (ap (λ o. o.answer) e))

    pub remove-keeps : (a : StoreRemoved) → outcome st' l' (store_removed_of a) ≡ store_remove st l s sp → Sound st → Sound st'
    remove-keeps a e h = keeps e (store_remove-sound st l s sp h)

module _ (st st' : State) (s : ℕ) (l l' : OutList) (time seconds : Float) where
  pub expire_in : (a : StoreExpired) → outcome st' l' (store_expired_of a) ≡ store_expire st l s time seconds → ExpireIn a
  expire_in (StoreExpiredIs.Refused n) e = tt
  expire_in (StoreExpiredIs.Done d) e = store_expire-fits st l s time seconds d (sym (ap (λ o. o.answer) e))

  pub expire-keeps : (a : StoreExpired) → outcome st' l' (store_expired_of a) ≡ store_expire st l s time seconds → Sound st → Sound st'
  expire-keeps a e h = keeps e (store_expire-sound st l s time seconds h)

pub touch-keeps : (st st' : State) (s : ℕ) (sps : List Span) (time : Float) (counted : Bool) (a : StoreUsed)
    → outcome {L = NoList} st' tt (store_used_of a) ≡ store_used st s sps time counted → Sound st → Sound st'
touch-keeps st st' s sps time counted a e h = keeps e (store_used-sound st s sps time counted h)
