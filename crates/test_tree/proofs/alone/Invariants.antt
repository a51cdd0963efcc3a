use Rattle.test_tree.specs.Chain.{reach}
use Rattle.test_tree.specs.Siblings.{Twins, NotRoot, hash_bucket}
use Rattle.test_tree.proofs.Chain.{Walk}
use Rattle.test_tree.proofs.alone.Given as goal

abbrev pub invariant-loop-link : goal.invariant-loop-link
invariant-loop-link l =
    Walk (hash_bucket l.parent l.run l.words) NotRoot (λ k. Twins l.parent l.run l.words k l.i) (hash_bucket l.parent l.run l.words l.i) (reach l.fn.from) (reach l.link)

abbrev pub decreases-loop-link : goal.decreases-loop-link
decreases-loop-link l = reach l.link
