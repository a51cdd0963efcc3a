use Rattle.test_state.specs.Ids.{Live, SameId, id_bucket}
use Rattle.test_tree.proofs.Apart.{Met}
use Rattle.test_state.proofs.ids_differ.Given as goal

abbrev pub invariant-loop-k : goal.invariant-loop-k
invariant-loop-k l = Met 1024 (id_bucket l.id) (Live l.books) (SameId l.id) l.last l.prev l.k
