use Rattle.test_tree.specs.Siblings.{Twins, NotRoot, hash_bucket}
use Rattle.test_tree.proofs.Apart.{Met}
use Rattle.test_tree.proofs.siblings_differ.Given as goal

abbrev pub invariant-loop-i : goal.invariant-loop-i
invariant-loop-i l = Met 256 (hash_bucket l.parent l.run l.words) NotRoot (Twins l.parent l.run l.words) l.last l.prev l.i
