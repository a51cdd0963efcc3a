-- What each public call gives where the state isn't sound, and where it is sound and an answer list is shorter than its size: 1 and 14, with state and lists
-- as they were. Assumes nothing.
use mathlib.Core.Path.{◌≡◌, refl}
use mathlib.Core.Bool.{Bool}
use mathlib.Core.List.{List}
use mathlib.Core.Logic.{inl, inr}
use Prim.Native.Nat.{ℕ, ◌≤◌}
use native.Mathlib.Omega.{arith}
use lib.ListN.{length}
use lib.Ieee.{Float}
use Rattle.model.specs.declared.Span.{Span}
use Rattle.model.specs.declared.ResolveAnswer.{ResolveAnswer}
use Rattle.model.specs.declared.InsertAnswer.{InsertAnswer}
use Rattle.model.specs.declared.BringAnswer.{BringAnswer}
use Rattle.model.specs.declared.TouchAnswer.{TouchAnswer}
use Rattle.model.specs.declared.RemoveAnswer.{RemoveAnswer}
use Rattle.model.specs.declared.ExpireAnswer.{ExpireAnswer}
use Rattle.model.specs.declared.LookupAnswer.{LookupAnswer}
use Rattle.model.specs.Sizes.{out_places}
use Rattle.model.specs.State.{State}
use Rattle.model.specs.Sound.{Sound}
use Rattle.model.specs.Tree.{resolve, blocks}
use Rattle.model.specs.Store.{store_of, with_ranges, with_pins, with_next}
use Rattle.model.specs.Remove.{remove}
use Rattle.model.specs.Expire.{expire}
use Rattle.model.specs.Pins.{pin, pin_need, unpin}
use Rattle.model.specs.Lookup.{lookup_path, tier_sums}
use Rattle.model.specs.Insert.{insert_path}
use Rattle.model.specs.Refusals.{PathList, OutList, PathFits, OutFits, TierFits, resolve_refusals, insert_refusals, store_insert_refusals, store_used_refusals, store_remove_refusals, store_expire_refusals, pin_refusals, unpin_refusals, lookup_refusals, count_refusals, store_count_refusals}
use Rattle.model.specs.Calls.{NoList, NoValue, LookupLists, refused, resolve_call, insert, brought, bring_in, store_insert, touch_spans, bytes_touched, store_used, store_remove, store_expire, pin_source, unpin_source, lookup, held_call, capacity_call, pinned_call, available_call, version_call, stalls_call}
use Rattle.theory_refuse.proofs.Refusals.{first-is, resolve_exact, insert_exact, store_insert_exact, store_used_exact, store_remove_exact, store_expire_exact, pin_exact, unpin_exact, lookup_exact, count_exact, store_count_exact}
use Rattle.shape_answer.specs.Answers.{outcome}

-- ---- the state isn't sound

module _ (st : State) (n : Sound st → ⊥) where
  pub resolve-unsound : (l : PathList) (hs : List ℕ) → outcome {A = ResolveAnswer} st l (refused 1) ≡ resolve_call st l hs
  unfolding resolve_call resolve blocks
  resolve-unsound l hs = rw (first-is (resolve_refusals st l hs) (resolve_exact st l hs) 1 (inl (n, refl)))

  pub insert-unsound : (l : PathList) (hs : List ℕ) → outcome {A = InsertAnswer} st l (refused 1) ≡ insert st l hs
  unfolding insert resolve blocks insert_path
  insert-unsound l hs = rw (first-is (insert_refusals st l hs) (insert_exact st l hs) 1 (inl (n, refl)))

  pub store_insert-unsound : (l : OutList) (s : ℕ) (sp : Span) (time : Float) (w : ℕ) → outcome {A = BringAnswer} st l (refused 1) ≡ store_insert st l s sp time w
  unfolding store_insert brought bring_in
  store_insert-unsound l s sp time w = rw (first-is (store_insert_refusals st l s sp time) (store_insert_exact st l s sp time) 1 (inl (n, refl)))

  pub store_used-unsound : (s : ℕ) (sps : List Span) (time : Float) (counted : Bool) → outcome {L = NoList} {A = TouchAnswer} st tt (refused 1) ≡ store_used st s sps time counted
  unfolding store_used touch_spans bytes_touched
  store_used-unsound s sps time counted = rw (first-is (store_used_refusals st s sps time counted) (store_used_exact st s sps time counted) 1 (inl (n, refl)))

  pub store_remove-unsound : (l : List ℕ) (s : ℕ) (sp : Span) → outcome {A = RemoveAnswer} st l (refused 1) ≡ store_remove st l s sp
  unfolding store_remove remove store_of with_ranges with_next
  store_remove-unsound l s sp = rw (first-is (store_remove_refusals st l s sp) (store_remove_exact st l s sp) 1 (inl (n, refl)))

  pub store_expire-unsound : (l : OutList) (s : ℕ) (now seconds : Float) → outcome {A = ExpireAnswer} st l (refused 1) ≡ store_expire st l s now seconds
  unfolding store_expire expire store_of with_ranges
  store_expire-unsound l s now seconds = rw (first-is (store_expire_refusals st l s now seconds) (store_expire_exact st l s now seconds) 1 (inl (n, refl)))

  pub pin-unsound : (s : ℕ) (sp : Span) → outcome {L = NoList} {A = NoValue} st tt (refused 1) ≡ pin_source st s sp
  unfolding pin_source pin pin_need store_of with_pins
  pin-unsound s sp = rw (first-is (pin_refusals st s sp) (pin_exact st s sp) 1 (inl (n, refl)))

  pub unpin-unsound : (s : ℕ) (sp : Span) → outcome {L = NoList} {A = NoValue} st tt (refused 1) ≡ unpin_source st s sp
  unfolding unpin_source unpin store_of with_pins
  unpin-unsound s sp = rw (first-is (unpin_refusals st s sp) (unpin_exact st s sp) 1 (inl (n, refl)))

  pub lookup-unsound : (l : LookupLists) (ts hs : List ℕ) → outcome {A = LookupAnswer} st l (refused 1) ≡ lookup st l ts hs
  unfolding lookup resolve blocks lookup_path tier_sums
  lookup-unsound l ts hs = rw (first-is (lookup_refusals st l.path l.spans ts hs) (lookup_exact st l.path l.spans ts hs) 1 (inl (n, refl)))

  pub held-unsound : (s : ℕ) → outcome {L = NoList} {A = ℕ} st tt (refused 1) ≡ held_call st s
  unfolding held_call
  held-unsound s = rw (first-is (store_count_refusals st s) (store_count_exact st s) 1 (inl (n, refl)))

  pub capacity-unsound : (s : ℕ) → outcome {L = NoList} {A = ℕ} st tt (refused 1) ≡ capacity_call st s
  unfolding capacity_call
  capacity-unsound s = rw (first-is (store_count_refusals st s) (store_count_exact st s) 1 (inl (n, refl)))

  pub pinned-unsound : (s : ℕ) → outcome {L = NoList} {A = ℕ} st tt (refused 1) ≡ pinned_call st s
  unfolding pinned_call
  pinned-unsound s = rw (first-is (store_count_refusals st s) (store_count_exact st s) 1 (inl (n, refl)))

  pub available_unsound : (s : ℕ) → outcome {L = NoList} {A = ℕ} st tt (refused 1) ≡ available_call st s
  unfolding available_call
  available_unsound s = rw (first-is (store_count_refusals st s) (store_count_exact st s) 1 (inl (n, refl)))

  pub version-unsound : (s : ℕ) → outcome {L = NoList} {A = ℕ} st tt (refused 1) ≡ version_call st s
  unfolding version_call
  version-unsound s = rw (first-is (store_count_refusals st s) (store_count_exact st s) 1 (inl (n, refl)))

  pub stalls-unsound : outcome {L = NoList} {A = ℕ} st tt (refused 1) ≡ stalls_call st
  unfolding stalls_call
  stalls-unsound = rw (first-is (count_refusals st) (count_exact st) 1 (inl (n, refl)))

-- ---- the state is sound, and an answer list is short

module _ (st : State) (sound : Sound st) where
  pub resolve-short : (l : PathList) (hs : List ℕ) → (PathFits l → ⊥) → outcome {A = ResolveAnswer} st l (refused 14) ≡ resolve_call st l hs
  unfolding resolve_call resolve blocks
  resolve-short l hs h = rw (first-is (resolve_refusals st l hs) (resolve_exact st l hs) 14 (inr (λ n. n sound, inl (h, refl))))

  pub insert-short : (l : PathList) (hs : List ℕ) → (PathFits l → ⊥) → outcome {A = InsertAnswer} st l (refused 14) ≡ insert st l hs
  unfolding insert resolve blocks insert_path
  insert-short l hs h = rw (first-is (insert_refusals st l hs) (insert_exact st l hs) 14 (inr (λ n. n sound, inl (h, refl))))

  pub store_insert-short : (l : OutList) (s : ℕ) (sp : Span) (time : Float) (w : ℕ) → (OutFits l → ⊥)
      → outcome {A = BringAnswer} st l (refused 14) ≡ store_insert st l s sp time w
  unfolding store_insert brought bring_in
  store_insert-short l s sp time w h = rw (first-is (store_insert_refusals st l s sp time) (store_insert_exact st l s sp time) 14 (inr (λ n. n sound, inl (h, refl))))

  pub store_remove-short : (l : List ℕ) (s : ℕ) (sp : Span) → (out_places ≤ length l → ⊥) → outcome {A = RemoveAnswer} st l (refused 14) ≡ store_remove st l s sp
  unfolding store_remove remove store_of with_ranges with_next
  store_remove-short l s sp h =
      rw (first-is (store_remove_refusals st l s sp) (store_remove_exact st l s sp) 14 (inr (λ n. n sound, inl (omega (arith, h), refl))))

  pub store_expire-short : (l : OutList) (s : ℕ) (now seconds : Float) → (OutFits l → ⊥) → outcome {A = ExpireAnswer} st l (refused 14) ≡ store_expire st l s now seconds
  unfolding store_expire expire store_of with_ranges
  store_expire-short l s now seconds h =
      rw (first-is (store_expire_refusals st l s now seconds) (store_expire_exact st l s now seconds) 14 (inr (λ n. n sound, inl (h, refl))))

  pub lookup-short : (l : LookupLists) (ts hs : List ℕ) → (PathFits l.path → ⊥) → outcome {A = LookupAnswer} st l (refused 14) ≡ lookup st l ts hs
  unfolding lookup resolve blocks lookup_path tier_sums
  lookup-short l ts hs h =
      rw (first-is (lookup_refusals st l.path l.spans ts hs) (lookup_exact st l.path l.spans ts hs) 14 (inr (λ n. n sound, inl (h, refl))))

  pub lookup-short-spans : (l : LookupLists) (ts hs : List ℕ) → PathFits l.path → (TierFits l.spans → ⊥)
      → outcome {A = LookupAnswer} st l (refused 14) ≡ lookup st l ts hs
  unfolding lookup resolve blocks lookup_path tier_sums
  lookup-short-spans l ts hs p h =
      rw (first-is (lookup_refusals st l.path l.spans ts hs) (lookup_exact st l.path l.spans ts hs) 14
      (inr (λ n. n sound, inr (λ n. n p, inl (h, refl)))))
