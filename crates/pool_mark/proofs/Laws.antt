-- The ranges on a node are told by their node column alone. Assumes nothing.
use Rattle.std.proofs.Common.{◌≡◌, ℕ, zero, suc, ◌+◌, ◌≤◌, length, take, drop, refl, arith, drop-cons, eqb}
use Rattle.std.specs.List.{list_any}
use Rattle.model.specs.State.{Ranges}
use Rattle.model.specs.Store.{ranges, on_node}

-- looked for in the n nodes from place a on, v is found where one of the n ranges is on it
pub found-on : (v : ℕ) (c : Ranges) (a n : ℕ) → a + n ≤ length c.node → list_any (λ y. eqb y v) (take n (drop a c.node)) ≡ on_node v (ranges c a n)
unfolding on_node ranges
found-on v c a zero h = refl
found-on v c a (suc n) h = rw (drop-cons c.node a 0 (omega arith), found-on v c (suc a) n (omega arith))
