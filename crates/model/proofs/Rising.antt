-- The byte table rises, so that a later place has no smaller number: from step to step.
use Prim.Native.Nat.{ℕ, zero, suc, ◌≤◌, ◌<◌}
use mathlib.Core.List.{List}
use mathlib.Core.Logic.{⊎_elim}
use mathlib.Core.Path.{◌≡◌}
use native.Mathlib.Omega.{arith}
use native.Mathlib.Nat.{eq-or-lt_of_le}
use Rattle.model.specs.State.{at}
use Rattle.model.specs.Sound.{Rising}

pub rises : {table : List ℕ} → Rising table → (i j : ℕ) → i ≤ j → j ≤ 1024 → at table i ≤ at table j
rises {table} r i zero a b = let e : i ≡ 0 = omega arith in rw e (omega arith)
rises {table} r i (suc j) a b =
    ⊎_elim (λ (e : i ≡ suc j). rw e (omega arith))
    (λ (l : i < suc j). omega (arith, rises r i j (omega arith) (omega arith), r.steps j (omega arith) (omega arith))) (eq-or-lt_of_le a)
