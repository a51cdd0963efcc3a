-- The blocks, and the number of blocks, that two lists of ranges hold together. Assumes nothing.
use Prim.Native.Nat.{ℕ, ◌+◌}
use mathlib.Core.Path.{◌≡◌}
use mathlib.Core.Logic.{◌⊎◌, inl, inr, ⊎_elim, ◌↔◌}
use mathlib.Core.List.{List, [], ◌∷◌, ◌++◌}
use native.Mathlib.Omega.{arith}
use Rattle.model.specs.State.{Range}
use Rattle.model.specs.Blocks.{Holds}
use Rattle.model.specs.Store.{total}

pub holds_append : (ps qs : List Range) (n o : ℕ) → Holds (ps ++ qs) n o ↔ (Holds ps n o ⊎ Holds qs n o)
unfolding Holds
holds_append [] qs n o = (λ h. inr h, ⊎_elim (λ h. absurd h) (λ h. h))
holds_append (p ∷ ps) qs n o =
    let k = holds_append ps qs n o in (
      ⊎_elim (λ h. inl (inl h)) (λ h. ⊎_elim (λ x. inl (inr x)) (λ y. inr y) (k.0 h)),
      ⊎_elim (⊎_elim (λ x. inl x) (λ x. inr (k.1 (inl x)))) (λ y. inr (k.1 (inr y))),
    )

pub total_append : (ps qs : List Range) → total (ps ++ qs) ≡ total ps + total qs
unfolding total
total_append [] qs = omega arith
total_append (p ∷ ps) qs = omega (arith, total_append ps qs)
