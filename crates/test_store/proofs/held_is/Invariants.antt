use Rattle.std.proofs.Common.{◌≡◌, ◌-◌, ◌*◌, ◌≤◌}
use Rattle.test_store.specs.Records.{held_from}
use Rattle.test_store.proofs.held_is.Given as goal

abbrev pub invariant-loop-k : goal.invariant-loop-k
invariant-loop-k l = (l.sum ≡ held_from l.start l.end l.a (l.k - l.a)) × (l.sum ≤ 1024 * (l.k - l.a))
