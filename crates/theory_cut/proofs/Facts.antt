-- A fact of one number more, and which nodes a list has ranges on. Assumes nothing.
use Prim.Native.Nat.{ℕ, suc, ◌<◌}
use mathlib.Core.Path.{◌≡◌, refl, sym, subst}
use mathlib.Core.Bool.{Bool, true, false, ◌||◌}
use mathlib.Core.List.{List, [], ◌∷◌}
use mathlib.Core.Logic.{⊎_elim}
use native.Mathlib.Nat.{eq-or-lt_of_le}
use lib.Dec.{eqb}
use borrow.Author.Tests.{ne_eqb}
use native.Mathlib.Omega.{arith}
use Rattle.model.specs.Words.{Says, Each}
use Rattle.model.specs.State.{Range}
use Rattle.model.specs.Store.{on_node}
use Rattle.theory_refuse.proofs.Says.{eq_sure}
use Rattle.theory_sound.specs.Facts.{All}

-- one number more
pub each_more : (P : ℕ → Type 0) {a n m : ℕ} → n ≡ suc m → P m → Each a m P → Each a n P
each_more P {a} {n} {m} e new old i low high =
    ⊎_elim (λ (q : i ≡ m). subst P (sym q) new) (λ (h : i < m). old i low h) (eq-or-lt_of_le (omega arith))

-- no range is on a node that each differs from
pub off-node : (n : ℕ) (rs : List Range) → All (λ r. r.node ≡ n → ⊥) rs → on_node n rs ≡ false
unfolding All on_node
off-node n [] h = refl
off-node n (r ∷ rs) h = rw (ne_eqb r.node n h.0) (off-node n rs h.1)

pub node-off : (n : ℕ) (rs : List Range) → on_node n rs ≡ false → All (λ r. r.node ≡ n → ⊥) rs
unfolding All on_node
node-off n [] h = tt
node-off n (r ∷ rs) h = go (eqb r.node n) (eq_sure r.node n).says h (node-off n rs)
  where
    go : (b : Bool) → Says b (r.node ≡ n) → b || on_node n rs ≡ false → (on_node n rs ≡ false → All (λ q. q.node ≡ n → ⊥) rs)
        → (r.node ≡ n → ⊥) × All (λ q. q.node ≡ n → ⊥) rs
    go true s e ih = let z : ◌≡◌ {A = ℕ} 0 1 = cc in absurd (omega arith)
    go false s e ih = (s, ih e)
