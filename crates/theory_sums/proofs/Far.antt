-- Far from the limit a counted call is the plain call and what it adds, never 21: it adds at most 2^55 to any sum. Assumes nothing.
use Prim.Native.Nat.{ℕ, ◌+◌, ◌≤◌}
use mathlib.Core.Path.{◌≡◌, refl}
use mathlib.Core.Logic.{inl, inr}
use mathlib.Core.List.{List, [], ◌∷◌}
use native.Mathlib.Omega.{arith}
use lib.ListN.{length}
use lib.Ieee.{Float}
use Rattle.model.specs.declared.Span.{Span}
use Rattle.model.specs.State.{State, at, capacity_of}
use Rattle.model.specs.Refusals.{OutList}
use Rattle.model.specs.Calls.{Answer, refused, done, LookupLists, store_insert, store_remove, store_expire, lookup}
use Rattle.model_sums.specs.Sums.{sum_places, More, add, Passes, max_sum, add_bring, add_expire, add_remove, add_lookup, more_if, by_bring, by_expire, by_remove, by_lookup, brought_at, gave_at, age_at, removed_at, bytes_at, dead_at, lookups_at, blocks_at, read_at}
use Rattle.model_sums.specs.Tally.{Summed, beside, tally_insert, tally_expire, tally_remove, tally_lookup}
use Rattle.theory_sums.specs.Bounds.{FarAt}
use Rattle.theory_sums.proofs.Tallied.{low-insert, low-expire, low-remove, low-lookup}
use Rattle.theory_sums.proofs.Bounds.{insert-most, expire-most, remove-most, look_most}

-- every sum that is added to stays within the limit
abbrev pub Low : List More → List ℕ → Type 0
Low [] v = Unit {0}
Low (m ∷ ms) v = (at v m.place + m.amount ≤ max_sum) × Low ms v

pub low-none : (ms : List More) (v : List ℕ) → Low ms v → Passes ms v → ⊥
unfolding Passes
low-none [] v h p = p
low-none (m ∷ ms) v h (inl p) = omega (arith, h.0)
low-none (m ∷ ms) v h (inr p) = low-none ms v h.1 p

pub low-answer : {A : Type 0} (x : Answer A) (f : A → List More) (v : List ℕ) → ((a : A) → x ≡ done a → Low (f a) v) → Passes (more_if x f) v → ⊥
low-answer (refused n) f v low = low-none [] v tt
low-answer (done a) f v low = low-none (f a) v (low a refl)

module _ (st : State) where
  pub far_insert : (l : Summed OutList) (s : ℕ) (sp : Span) (time : Float) (write : ℕ) → sum_places ≤ length l.sums
      → FarAt l.sums (brought_at s ∷ gave_at (capacity_of st s) s ∷ bytes_at s ∷ dead_at s ∷ [])
      → tally_insert st l s sp time write
      ≡ beside (store_insert st l.lists s sp time write)
      (add (by_bring (capacity_of st s) s (store_insert st l.lists s sp time write)) l.sums)
  far_insert l s sp time write long far =
      let o = store_insert st l.lists s sp time write in
      low-insert st l s sp time write long
      (low-answer o.answer (λ a. add_bring (capacity_of st s) s a o.lists) l.sums
      (λ a e.
      let (blocks, m) = insert-most st l.lists s sp time write a e in
      (omega (arith, far.0), (omega (arith, far.1.0, m.blocks), (omega (arith, far.1.1.0, m.bytes), (omega (arith, far.1.1.1.0, m.dead), tt))))))

  pub far_expire : (l : Summed OutList) (s : ℕ) (now seconds : Float) → sum_places ≤ length l.sums
      → FarAt l.sums (age_at s ∷ bytes_at s ∷ dead_at s ∷ [])
      → tally_expire st l s now seconds
      ≡ beside (store_expire st l.lists s now seconds) (add (by_expire s (store_expire st l.lists s now seconds)) l.sums)
  far_expire l s now seconds long far =
      let o = store_expire st l.lists s now seconds in
      low-expire st l s now seconds long
      (low-answer o.answer (λ a. add_expire s a o.lists) l.sums
      (λ a e.
      let m = expire-most st l.lists s now seconds a e in
      (omega (arith, far.0, m.blocks), (omega (arith, far.1.0, m.bytes), (omega (arith, far.1.1.0, m.dead), tt)))))

  pub far_remove : (l : Summed (List ℕ)) (s : ℕ) (sp : Span) → sum_places ≤ length l.sums → FarAt l.sums (removed_at s ∷ [])
      → tally_remove st l s sp ≡ beside (store_remove st l.lists s sp) (add (by_remove s (store_remove st l.lists s sp)) l.sums)
  far_remove l s sp long far =
      low-remove st l s sp long
      (low-answer (store_remove st l.lists s sp).answer (add_remove s) l.sums
      (λ a e. (omega (arith, far.0, remove-most st l.lists s sp a e), tt)))

  pub far_lookup : (l : Summed LookupLists) (ts hs : List ℕ) → sum_places ≤ length l.sums → FarAt l.sums (lookups_at ∷ blocks_at ∷ read_at ∷ [])
      → tally_lookup st l ts hs ≡ beside (lookup st l.lists ts hs) (add (by_lookup (lookup st l.lists ts hs)) l.sums)
  far_lookup l ts hs long far =
      low-lookup st l ts hs long
      (low-answer (lookup st l.lists ts hs).answer add_lookup l.sums
      (λ a e.
      let m = look_most st l.lists ts hs a e in (omega (arith, far.0), (omega (arith, far.1.0, m.0), (omega (arith, far.1.1.0, m.1), tt)))))
