-- `test_tree::tree_sound` meets its contract: each test's answer is a fact of the tree, and together they are all of them. Assumes nothing.
use Rattle.std.proofs.Common.{sym, ◌∙◌}
use Rattle.theory_refuse.proofs.Says.{says_true, says_false, map_says, sure}
use Rattle.test_tree.proofs.Tree.{fits-of, owner_of, unlike_of, tree_is}
use Rattle.test_tree.proofs.tree_sound.Goals as goal
use Rattle.test_tree.proofs.tree_sound.Goals.{then-tree_sized, else-tree_sized, then-nodes_fit, else-nodes_fit}

pub returns-then-runs_apart : goal.returns-then-runs_apart
returns-then-runs_apart c =
    elim c.if-nodes_fit.branch [
      | then-nodes_fit w ↦ elim c.if-tree_sized.branch [
        | then-tree_sized v ↦
            let sized = says_true v.if-tree_sized.true c.tree_sized.ensures in
            let fits = says_true (sym v.value-is ∙ w.if-nodes_fit.true) v.nodes_fit.ensures in
            let owner = says_true (sym w.value-is ∙ c.if-runs_apart.true) w.runs_apart.ensures in
            map_says c.siblings_differ.result (tree_is sized fits owner) unlike_of (sure _ c.siblings_differ.ensures)
        | else-tree_sized v ↦ absurd (cc)
      ]
      | else-nodes_fit w ↦ absurd (cc)
    ]

pub returns-else-runs_apart : goal.returns-else-runs_apart
returns-else-runs_apart c =
    rw c.if-runs_apart.false (λ h. elim c.if-nodes_fit.branch [
      | then-nodes_fit w ↦ says_false (sym w.value-is ∙ c.if-runs_apart.false) w.runs_apart.ensures (owner_of h)
      | else-nodes_fit w ↦ elim c.if-tree_sized.branch [
        | then-tree_sized v ↦ says_false (sym v.value-is ∙ w.if-nodes_fit.false) v.nodes_fit.ensures (fits-of h)
        | else-tree_sized v ↦ says_false v.if-tree_sized.false c.tree_sized.ensures h.sized
      ]
    ])
