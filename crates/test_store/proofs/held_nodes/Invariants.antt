use Rattle.std.proofs.Common.{◌+◌}
use Rattle.test_store.specs.Marks.{Flags}
use Rattle.test_store.proofs.held_nodes.Given as goal

abbrev pub invariant-loop-v : goal.invariant-loop-v
invariant-loop-v l = Flags l.node l.held l.a (l.a + l.v-index)
