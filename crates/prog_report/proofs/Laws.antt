-- Each operation keeps the state sound and the sums in balance with it: its call is one of the steps that keep them, by the equation of the call's contract.
-- Assumes nothing.
use Prim.Native.Nat.{ℕ}
use mathlib.Core.Path.{◌≡◌, sym, subst, ap, ◌∙◌}
use mathlib.Core.Bool.{Bool}
use mathlib.Core.List.{List, [], ◌∷◌}
use native.Mathlib.Omega.{arith}
use lib.Ieee.{Float}
use Rattle.model.specs.declared.Span.{Span}
use Rattle.model.specs.State.{State}
use Rattle.model.specs.Refusals.{OutList, PathList}
use Rattle.model.specs.Calls.{Answer, refused, done, NoList, LookupLists, set_up, insert, store_used}
use Rattle.model_sums.specs.Sums.{no_sums}
use Rattle.model_sums.specs.Tally.{summed, tally_insert, tally_expire, tally_remove, tally_lookup}
use Rattle.shape_answer.specs.declared.Plain.{Plain}
use Rattle.shape_answer.specs.declared.Plain.TheVariants as PlainIs
use Rattle.shape_answer.specs.declared.StoreInserted.{StoreInserted}
use Rattle.shape_answer.specs.declared.StoreUsed.{StoreUsed}
use Rattle.shape_answer.specs.declared.StoreRemoved.{StoreRemoved}
use Rattle.shape_answer.specs.declared.StoreExpired.{StoreExpired}
use Rattle.shape_answer.specs.declared.Inserted.{Inserted}
use Rattle.shape_answer.specs.declared.Looked.{Looked}
use Rattle.shape_answer.specs.Answers.{outcome, plain_of, inserted_of, store_inserted_of, store_used_of, store_removed_of, store_expired_of, looked_of}
use Rattle.theory_calls.proofs.Calls.{set_up-sound}
use Rattle.theory_history.specs.History as History
use Rattle.theory_sums.specs.Steps.{Step, brings, expires, removes, looks, plain, Run, left, after, run_steps}
use Rattle.theory_sums.proofs.Stepped.{step}
use Rattle.theory_sums.proofs.Sums.{steps-balance, sums-of_calls}
use Rattle.prog_report.specs.Kept.{InOrder, Begun, count_one, count_if}

abbrev run_of : State → List ℕ → Run
run_of st v = record { state = st; sums = v }

module _ (st st' : State) (v : List ℕ) where
  -- what a step leaves
  keeps : (c : Step) (r : Run) → r ≡ after c (run_of st v) → InOrder st v → InOrder r.state r.sums
  unfolding run_steps
  keeps c r e h =
      let k = step c (run_of st v) h.sound h.long in
      subst (λ (x : Run). InOrder x.state x.sums) (sym e)
      (record {
        sound = k.sound;
        long = omega (arith, k.size, h.long);
        balance = steps-balance (c ∷ []) (run_of st v) h.sound h.long h.balance;
      })

  -- ---- plain calls: the sums stay

  pub insert-keeps : (l l' : PathList) (hs : List ℕ) (a : Inserted) → outcome st' l' (inserted_of a) ≡ insert st l hs → InOrder st v → InOrder st' v
  insert-keeps l l' hs a e = keeps (plain (History.insert l hs) tt) (run_of st' v) (ap (λ o. run_of o.state v) e)

  pub touch-keeps : (s : ℕ) (sps : List Span) (time : Float) (counted : Bool) (a : StoreUsed)
      → outcome {L = NoList} st' tt (store_used_of a) ≡ store_used st s sps time counted → InOrder st v → InOrder st' v
  touch-keeps s sps time counted a e = keeps (plain (History.store_used s sps time counted) tt) (run_of st' v) (ap (λ o. run_of o.state v) e)

  -- ---- counted calls

  module _ (v' : List ℕ) where
    pub bring-keeps : (l l' : OutList) (s : ℕ) (sp : Span) (time : Float) (write : ℕ) (a : StoreInserted)
        → outcome st' (summed l' v') (store_inserted_of a) ≡ tally_insert st (summed l v) s sp time write → InOrder st v → InOrder st' v'
    bring-keeps l l' s sp time write a e = keeps (brings l s sp time write) (run_of st' v') (ap left e)

    pub expire-keeps : (l l' : OutList) (s : ℕ) (now seconds : Float) (a : StoreExpired)
        → outcome st' (summed l' v') (store_expired_of a) ≡ tally_expire st (summed l v) s now seconds → InOrder st v → InOrder st' v'
    expire-keeps l l' s now seconds a e = keeps (expires l s now seconds) (run_of st' v') (ap left e)

    pub remove-keeps : (l l' : List ℕ) (s : ℕ) (sp : Span) (a : StoreRemoved)
        → outcome st' (summed l' v') (store_removed_of a) ≡ tally_remove st (summed l v) s sp → InOrder st v → InOrder st' v'
    remove-keeps l l' s sp a e = keeps (removes l s sp) (run_of st' v') (ap left e)

    pub lookup-keeps : (l l' : LookupLists) (ts hs : List ℕ) (a : Looked)
        → outcome st' (summed l' v') (looked_of a) ≡ tally_lookup st (summed l v) ts hs → InOrder st v → InOrder st' v'
    lookup-keeps l l' ts hs a e = keeps (looks l ts hs) (run_of st' v') (ap left e)

-- ---- set-up

pub begun : (pools st : State) (table capacity : List ℕ) (refreshes : List Bool) (a : Plain)
    → outcome {L = NoList} st tt (plain_of a) ≡ set_up pools table capacity refreshes → Begun a st
unfolding run_steps
begun pools st table capacity refreshes PlainIs.Done e =
    let w : (set_up pools table capacity refreshes).answer ≡ done tt = sym (ap (λ o. o.answer) e) in
    subst (λ (x : State). InOrder x no_sums) (sym (ap (λ o. o.state) e))
    (record {
      sound = set_up-sound pools table capacity refreshes w;
      long = omega arith;
      balance = sums-of_calls pools table capacity refreshes w [];
    })
begun pools st table capacity refreshes (PlainIs.Refused n) e = tt

pub accepted : (a : Plain) (st : State) → a ≡ PlainIs.Done → Begun a st → InOrder st no_sums
accepted a st e h = subst (λ (x : Plain). Begun x st) e h

-- ---- a refusal's count

pub counted : {A : Type 0} (x : Answer A) (n : ℕ) (l l' : List ℕ) → x ≡ refused n → l' ≡ count_one n l → l' ≡ count_if x l
counted x n l l' e h = h ∙ sym (ap (λ y. count_if y l) e)
