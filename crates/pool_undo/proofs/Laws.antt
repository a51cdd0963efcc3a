-- What is put back of a store, column by column. Assumes nothing.
use Prim.Native.Nat.{ℕ, ◌*◌}
use mathlib.Core.Path.{◌≡◌}
use mathlib.Core.List.{List}
use lib.Ieee.{Float}
use Rattle.shape_state.specs.Lent.{ranges_of}
use Rattle.pool_part.specs.Parts.{back, back_ranges}
use Rattle.pool_undo.specs.declared.Old.{Old}
use Rattle.pool_undo.specs.Old.{old_ranges}

pub undone_eq : (s : ℕ) (old : Old) (node start end id stamp : List ℕ) (touched : List Float) (write : List ℕ) {a b d e f : List ℕ} {g : List Float}
    {h : List ℕ}
    → a ≡ back (128 * s) 128 old.node node → b ≡ back (128 * s) 128 old.start start → d ≡ back (128 * s) 128 old.end end
    → e ≡ back (128 * s) 128 old.id id → f ≡ back (128 * s) 128 old.stamp stamp → g ≡ back (128 * s) 128 old.touched touched
    → h ≡ back (128 * s) 128 old.write write
    → ranges_of a b d e f g h ≡ back_ranges (128 * s) 128 (old_ranges old) (ranges_of node start end id stamp touched write)
unfolding back_ranges
undone_eq s old node start end id stamp touched write p q r t u v w = cc
