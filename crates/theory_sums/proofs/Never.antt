-- Far from the limit no call passes it: it adds at most 2^55 to any sum. Assumes nothing.
use Prim.Native.Nat.{ℕ, zero, suc, ◌≤◌}
use mathlib.Core.List.{List}
use native.Mathlib.Omega.{arith}
use lib.Ieee.{Float}
use Rattle.model.specs.declared.Span.{Span}
use Rattle.model.specs.State.{State, at, capacity_of}
use Rattle.model.specs.Refusals.{OutList}
use Rattle.model.specs.Calls.{LookupLists, store_insert, store_remove, store_expire, lookup}
use Rattle.model_sums.specs.Sums.{Passes, add_bring, add_expire, add_remove, add_lookup, by_bring, by_expire, by_remove, by_lookup, gave_at}
use Rattle.theory_sums.specs.Bounds.{far_sum, Far, FarOver}
use Rattle.theory_sums.proofs.Far.{low-answer}
use Rattle.theory_sums.proofs.Bounds.{insert-most, expire-most, remove-most, look_most}

-- where a bring-in's given-out blocks count
far_gave : {s : ℕ} {v : List ℕ} → Far s v → (c : ℕ) → at v (gave_at c s) ≤ far_sum
far_gave far zero = far.back
far_gave far (suc c) = far.room

module _ (st : State) (v : List ℕ) where
  pub insert_never_passes : (l : OutList) (s : ℕ) (sp : Span) (time : Float) (write : ℕ) → Far s v
      → Passes (by_bring (capacity_of st s) s (store_insert st l s sp time write)) v → ⊥
  insert_never_passes l s sp time write far =
      let o = store_insert st l s sp time write in
      low-answer o.answer (λ a. add_bring (capacity_of st s) s a o.lists) v
      (λ a e.
      let (blocks, m) = insert-most st l s sp time write a e in (
        omega (arith, far.brought),
        (omega (arith, far_gave far (capacity_of st s), m.blocks), (omega (arith, far.bytes, m.bytes), (omega (arith, far.dead, m.dead), tt))),
      ))

  pub expire_never_passes : (l : OutList) (s : ℕ) (now seconds : Float) → Far s v → Passes (by_expire s (store_expire st l s now seconds)) v → ⊥
  expire_never_passes l s now seconds far =
      let o = store_expire st l s now seconds in
      low-answer o.answer (λ a. add_expire s a o.lists) v
      (λ a e.
      let m = expire-most st l s now seconds a e in
      (omega (arith, far.age, m.blocks), (omega (arith, far.bytes, m.bytes), (omega (arith, far.dead, m.dead), tt))))

  pub remove_never_passes : (l : List ℕ) (s : ℕ) (sp : Span) → Far s v → Passes (by_remove s (store_remove st l s sp)) v → ⊥
  remove_never_passes l s sp far =
      low-answer (store_remove st l s sp).answer (add_remove s) v (λ a e. (omega (arith, far.removed, remove-most st l s sp a e), tt))

  pub lookup_never_passes : (l : LookupLists) (ts hs : List ℕ) → FarOver v → Passes (by_lookup (lookup st l ts hs)) v → ⊥
  lookup_never_passes l ts hs far =
      low-answer (lookup st l ts hs).answer add_lookup v
      (λ a e.
      let m = look_most st l ts hs a e in (omega (arith, far.lookups), (omega (arith, far.blocks, m.0), (omega (arith, far.bytes, m.1), tt))))
