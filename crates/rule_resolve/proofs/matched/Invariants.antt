use Prim.Native.Nat.{◌-◌}
use mathlib.Core.List.{[]}
use Rattle.model.specs.Tree.{agrees}
use Rattle.shape_state.specs.Lent.{tree_of}
use Rattle.rule_resolve.proofs.Laws.{Halving}
use Rattle.rule_resolve.proofs.matched.Given as goal

abbrev pub invariant-loop-hi : goal.invariant-loop-hi
invariant-loop-hi l = Halving (agrees (tree_of [] [] l.len l.run l.words 0 0) l.hashes l.pos l.k) l.c l.lo l.hi

abbrev pub decreases-loop-hi : goal.decreases-loop-hi
decreases-loop-hi l = l.hi - l.lo
