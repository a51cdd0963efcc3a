use Rattle.std.proofs.Common.{◌≡◌, ◌-◌, ◌*◌, ◌≤◌}
use Rattle.test_store.specs.Pins.{pinned_from}
use Rattle.test_store.proofs.pinned_is.Given as goal

abbrev pub invariant-loop-k : goal.invariant-loop-k
invariant-loop-k l = (l.sum ≡ pinned_from l.start l.end l.count l.a (l.k - l.a)) × (l.sum ≤ 1024000000 * (l.k - l.a))
