-- What each counted call gives where the state isn't sound, where the list of sums is shorter than its 59 places, and where that is long enough and an answer
-- list is short: 1, 14 and 14, with state, lists and sums as they were. Assumes nothing.
use Prim.Native.Nat.{ℕ, suc, ◌≤◌, ◌<◌}
use mathlib.Core.Path.{◌≡◌, refl}
use mathlib.Core.List.{List}
use mathlib.Core.Logic.{inl, inr}
use native.Mathlib.Omega.{arith}
use lib.ListN.{length}
use lib.Ieee.{Float}
use Rattle.model.specs.declared.Span.{Span}
use Rattle.model.specs.declared.BringAnswer.{BringAnswer}
use Rattle.model.specs.declared.RemoveAnswer.{RemoveAnswer}
use Rattle.model.specs.declared.ExpireAnswer.{ExpireAnswer}
use Rattle.model.specs.declared.LookupAnswer.{LookupAnswer}
use Rattle.model.specs.Sizes.{out_places}
use Rattle.model.specs.State.{State, capacity_of}
use Rattle.model.specs.Sound.{Sound}
use Rattle.model.specs.Refusals.{Condition, Exact, First, OutList, PathFits, OutFits, TierFits, store_insert_refusals, store_remove_refusals, store_expire_refusals, lookup_refusals}
use Rattle.model.specs.Calls.{Outcome, LookupLists, refused, store_insert, store_remove, store_expire, lookup}
use Rattle.model_sums.specs.Sums.{More, sum_places, by_bring, by_expire, by_remove, by_lookup}
use Rattle.model_sums.specs.Tally.{Summed, counted, tally, tally_insert_refusals, tally_expire_refusals, tally_remove_refusals, tally_lookup_refusals, tally_insert, tally_expire, tally_remove, tally_lookup}
use Rattle.theory_refuse.proofs.Refusals.{first-is, store_insert_exact, store_remove_exact, store_expire_exact, lookup_exact}
use Rattle.shape_answer.specs.Answers.{outcome}
use Rattle.theory_sums.proofs.Tallied.{exact_counted}

-- ---- a counted call is refused by the number of the first of its conditions that holds

gate : {L A : Type 0} (cs : List Condition) → Exact cs → (adds : Outcome L A → List More) (st : State) (l : Summed L) (o : Outcome L A) (n : ℕ)
    → First (counted cs l.sums (adds o)) (suc n) → outcome st l (refused (suc n)) ≡ tally cs adds st l o
gate cs e adds st l o n f = rw (first-is (counted cs l.sums (adds o)) (exact_counted cs (adds o) l.sums e) (suc n) f)

pub tally_insert_gate : (st : State) (l : Summed OutList) (s : ℕ) (sp : Span) (time : Float) (w n : ℕ)
    → First (tally_insert_refusals st l s sp time w) (suc n) → outcome {A = BringAnswer} st l (refused (suc n)) ≡ tally_insert st l s sp time w
unfolding tally_insert
tally_insert_gate st l s sp time w =
    gate (store_insert_refusals st l.lists s sp time) (store_insert_exact st l.lists s sp time) (by_bring (capacity_of st s) s) st l
    (store_insert st l.lists s sp time w)

pub tally_expire_gate : (st : State) (l : Summed OutList) (s : ℕ) (now seconds : Float) (n : ℕ)
    → First (tally_expire_refusals st l s now seconds) (suc n) → outcome {A = ExpireAnswer} st l (refused (suc n)) ≡ tally_expire st l s now seconds
unfolding tally_expire
tally_expire_gate st l s now seconds =
    gate (store_expire_refusals st l.lists s now seconds) (store_expire_exact st l.lists s now seconds) (by_expire s) st l
    (store_expire st l.lists s now seconds)

pub tally_remove_gate : (st : State) (l : Summed (List ℕ)) (s : ℕ) (sp : Span) (n : ℕ)
    → First (tally_remove_refusals st l s sp) (suc n) → outcome {A = RemoveAnswer} st l (refused (suc n)) ≡ tally_remove st l s sp
unfolding tally_remove
tally_remove_gate st l s sp =
    gate (store_remove_refusals st l.lists s sp) (store_remove_exact st l.lists s sp) (by_remove s) st l (store_remove st l.lists s sp)

pub tally_lookup_gate : (st : State) (l : Summed LookupLists) (ts hs : List ℕ) (n : ℕ)
    → First (tally_lookup_refusals st l ts hs) (suc n) → outcome {A = LookupAnswer} st l (refused (suc n)) ≡ tally_lookup st l ts hs
unfolding tally_lookup
tally_lookup_gate st l ts hs =
    gate (lookup_refusals st l.lists.path l.lists.spans ts hs) (lookup_exact st l.lists.path l.lists.spans ts hs) by_lookup st l
    (lookup st l.lists ts hs)

-- ---- the state isn't sound

module _ (st : State) (no : Sound st → ⊥) where
  pub tally_insert-unsound : (l : Summed OutList) (s : ℕ) (sp : Span) (time : Float) (w : ℕ)
      → outcome {A = BringAnswer} st l (refused 1) ≡ tally_insert st l s sp time w
  tally_insert-unsound l s sp time w = tally_insert_gate st l s sp time w 0 (inl (no, refl))

  pub tally_expire-unsound : (l : Summed OutList) (s : ℕ) (now seconds : Float)
      → outcome {A = ExpireAnswer} st l (refused 1) ≡ tally_expire st l s now seconds
  tally_expire-unsound l s now seconds = tally_expire_gate st l s now seconds 0 (inl (no, refl))

  pub tally_remove-unsound : (l : Summed (List ℕ)) (s : ℕ) (sp : Span) → outcome {A = RemoveAnswer} st l (refused 1) ≡ tally_remove st l s sp
  tally_remove-unsound l s sp = tally_remove_gate st l s sp 0 (inl (no, refl))

  pub tally_lookup-unsound : (l : Summed LookupLists) (ts hs : List ℕ) → outcome {A = LookupAnswer} st l (refused 1) ≡ tally_lookup st l ts hs
  tally_lookup-unsound l ts hs = tally_lookup_gate st l ts hs 0 (inl (no, refl))

-- ---- the state is sound, and the list of sums is short

module _ (st : State) (sound : Sound st) where
  pub tally_insert-short-sums : (l : Summed OutList) (s : ℕ) (sp : Span) (time : Float) (w : ℕ) → length l.sums < sum_places
      → outcome {A = BringAnswer} st l (refused 14) ≡ tally_insert st l s sp time w
  tally_insert-short-sums l s sp time w h = tally_insert_gate st l s sp time w 13 (inr (λ n. n sound, inl (h, refl)))

  pub tally_expire-short-sums : (l : Summed OutList) (s : ℕ) (now seconds : Float) → length l.sums < sum_places
      → outcome {A = ExpireAnswer} st l (refused 14) ≡ tally_expire st l s now seconds
  tally_expire-short-sums l s now seconds h = tally_expire_gate st l s now seconds 13 (inr (λ n. n sound, inl (h, refl)))

  pub tally_remove-short-sums : (l : Summed (List ℕ)) (s : ℕ) (sp : Span) → length l.sums < sum_places
      → outcome {A = RemoveAnswer} st l (refused 14) ≡ tally_remove st l s sp
  tally_remove-short-sums l s sp h = tally_remove_gate st l s sp 13 (inr (λ n. n sound, inl (h, refl)))

  pub tally_lookup-short-sums : (l : Summed LookupLists) (ts hs : List ℕ) → length l.sums < sum_places
      → outcome {A = LookupAnswer} st l (refused 14) ≡ tally_lookup st l ts hs
  tally_lookup-short-sums l ts hs h = tally_lookup_gate st l ts hs 13 (inr (λ n. n sound, inl (h, refl)))

  -- ---- it is long enough, and an answer list is short

  pub tally_insert-short : (l : Summed OutList) (s : ℕ) (sp : Span) (time : Float) (w : ℕ) → sum_places ≤ length l.sums → (OutFits l.lists → ⊥)
      → outcome {A = BringAnswer} st l (refused 14) ≡ tally_insert st l s sp time w
  tally_insert-short l s sp time w long h =
      tally_insert_gate st l s sp time w 13 (inr (λ n. n sound, inr (λ short. omega (arith, long, short), inl (h, refl))))

  pub tally_expire-short : (l : Summed OutList) (s : ℕ) (now seconds : Float) → sum_places ≤ length l.sums → (OutFits l.lists → ⊥)
      → outcome {A = ExpireAnswer} st l (refused 14) ≡ tally_expire st l s now seconds
  tally_expire-short l s now seconds long h =
      tally_expire_gate st l s now seconds 13 (inr (λ n. n sound, inr (λ short. omega (arith, long, short), inl (h, refl))))

  pub tally_remove-short : (l : Summed (List ℕ)) (s : ℕ) (sp : Span) → sum_places ≤ length l.sums → (out_places ≤ length l.lists → ⊥)
      → outcome {A = RemoveAnswer} st l (refused 14) ≡ tally_remove st l s sp
  tally_remove-short l s sp long h =
      tally_remove_gate st l s sp 13 (inr (λ n. n sound, inr (λ short. omega (arith, long, short), inl (omega (arith, h), refl))))

  pub tally_lookup-short : (l : Summed LookupLists) (ts hs : List ℕ) → sum_places ≤ length l.sums → (PathFits l.lists.path → ⊥)
      → outcome {A = LookupAnswer} st l (refused 14) ≡ tally_lookup st l ts hs
  tally_lookup-short l ts hs long h =
      tally_lookup_gate st l ts hs 13 (inr (λ n. n sound, inr (λ short. omega (arith, long, short), inl (h, refl))))

  pub tally_lookup-short-spans : (l : Summed LookupLists) (ts hs : List ℕ) → sum_places ≤ length l.sums → PathFits l.lists.path
      → (TierFits l.lists.spans → ⊥) → outcome {A = LookupAnswer} st l (refused 14) ≡ tally_lookup st l ts hs
  tally_lookup-short-spans l ts hs long p h =
      tally_lookup_gate st l ts hs 13 (inr (λ n. n sound, inr (λ short. omega (arith, long, short), inr (λ n. n p, inl (h, refl)))))
