use Rattle.std.proofs.Common.{◌≡◌, ◌%◌}
use Rattle.model.specs.State.{at}
use Rattle.test_tree.specs.Chain.{reach}
use Rattle.test_tree.proofs.Chain.{Walk}
use Rattle.test_state.specs.Ids.{Live, id_bucket}
use Rattle.test_state.proofs.fresh.Given as goal

abbrev pub invariant-loop-link : goal.invariant-loop-link
invariant-loop-link l = Walk (id_bucket l.id) (Live l.books) (λ k. at l.id k ≡ l.y) (l.y % 1024) (reach l.fn.from) (reach l.link)

abbrev pub decreases-loop-link : goal.decreases-loop-link
decreases-loop-link l = reach l.link
