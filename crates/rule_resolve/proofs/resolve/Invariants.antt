use Prim.Native.Nat.{ℕ, ◌-◌}
use mathlib.Core.List.{List}
use mathlib.Core.Path.{◌≡◌}
use lib.ListN.{length}
use Rattle.model.specs.Tree.{next_child}
use Rattle.shape_state.specs.Lent.{tree_of}
use Rattle.shape_answer.specs.Lists.{path_list_of}
use Rattle.rule_resolve.proofs.Walk.{Walking, match_at}
use Rattle.rule_resolve.proofs.resolve.Given as goal

abbrev pub invariant-loop-pos : goal.invariant-loop-pos
invariant-loop-pos l = (length l.path_node ≡ length l.initial.path_node)
    × (length l.path_len ≡ length l.initial.path_len)
    × ((depth : List ℕ) (used : ℕ)
    → let t = tree_of l.parent depth l.len l.run l.words l.nodes used in
    Walking t l.hashes (path_list_of l.initial.path_node l.initial.path_len) (next_child t l.hashes l.pos l.cur) (match_at l.segs l.pos l.cur l.last) (path_list_of l.path_node l.path_len))

abbrev pub decreases-loop-pos : goal.decreases-loop-pos
decreases-loop-pos l = length l.hashes - l.pos
