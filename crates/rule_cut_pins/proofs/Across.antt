-- The entries across are those that are counted in their columns. Assumes nothing.
use Prim.Native.Nat.{ℕ}
use mathlib.Core.Path.{◌≡◌, refl}
use mathlib.Core.List.{List}
use Rattle.model.specs.State.{Pins}
use Rattle.model.specs.Store.{pins}
use Rattle.model.specs.Insert.{pins_across}
use Rattle.rule_cut.specs.Cut.{across_before}
use Rattle.rule_cut.proofs.Counted.{across-all}
use Rattle.rule_cut_pins.specs.Entries.{pins_across_in}

across-is : (j k n : ℕ) (c : Pins) → across_before j k c.node c.start c.end n ≡ pins_across_in j k n c
unfolding pins_across pins
across-is j k n c = across-all j k c.node c.start c.end (λ a b. pins_across j k (pins c a b)) (λ a. refl) (λ a b. refl) n

-- of any columns that have these starts and ends on these nodes
pub across-of : (j k n : ℕ) (node start end : List ℕ) (c : Pins) → c.node ≡ node → c.start ≡ start → c.end ≡ end
    → across_before j k node start end n ≡ pins_across_in j k n c
across-of j k n node start end c p q s = rw (← p, ← q, ← s) (across-is j k n c)
