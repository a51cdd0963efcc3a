-- The ranges across are those that are counted in their columns. Assumes nothing.
use Prim.Native.Nat.{ℕ}
use mathlib.Core.Path.{◌≡◌, refl}
use mathlib.Core.List.{List}
use Rattle.model.specs.State.{Ranges}
use Rattle.model.specs.Store.{ranges}
use Rattle.model.specs.Insert.{ranges_across}
use Rattle.rule_cut.specs.Cut.{across_before}
use Rattle.rule_cut.proofs.Counted.{across-all}
use Rattle.rule_cut.specs.Cutting.{across_in}

across-is : (j k n : ℕ) (c : Ranges) → across_before j k c.node c.start c.end n ≡ across_in j k n c
unfolding ranges_across ranges
across-is j k n c = across-all j k c.node c.start c.end (λ a b. ranges_across j k (ranges c a b)) (λ a. refl) (λ a b. refl) n

-- of any columns that have these starts and ends on these nodes
pub across-of : (j k n : ℕ) (node start end : List ℕ) (c : Ranges) → c.node ≡ node → c.start ≡ start → c.end ≡ end
    → across_before j k node start end n ≡ across_in j k n c
across-of j k n node start end c p q s = rw (← p, ← q, ← s) (across-is j k n c)
