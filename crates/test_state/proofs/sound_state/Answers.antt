-- `test_state::sound_state` meets its contract: each test's answer is a part of `Tested`, which is `Sound` in other words. Assumes nothing.
use Rattle.std.proofs.Common.{ℕ, ◌<◌, ◌≤◌, sym, ◌∙◌, arith}
use Rattle.std.proofs.lemmas.Grind.{common_steps}
use Rattle.model.specs.State.{at, nodes_in}
use Rattle.theory_refuse.proofs.Says.{says_true}
use Rattle.test_tree.proofs.Tree.{lens_bound}
use Rattle.test_state.proofs.State.{tested-of}
use Rattle.test_state.proofs.sound_state.Goals as goal
use Rattle.test_state.proofs.sound_state.Goals.{then-table_rises, else-table_rises, then-tree_sound, else-tree_sound}

pub all_records_fit-requires : goal.all_records_fit-requires
all_records_fit-requires c =
    let short : (k : ℕ) → k < nodes_in c.args.books.now → at c.args.len.now k ≤ 1024 = elim c.if-table_rises.branch [
      | then-table_rises w ↦ lens_bound (says_true (sym w.value-is ∙ c.if-tree_sound.true) w.tree_sound.ensures)
      | else-table_rises w ↦ absurd (cc)
    ] in
    grind (arith, common_steps)

pub all_pins_fit-requires : goal.all_pins_fit-requires
all_pins_fit-requires c =
    let short : (k : ℕ) → k < nodes_in c.args.books.now → at c.args.len.now k ≤ 1024 = elim c.if-tree_sound.branch [
      | then-tree_sound v ↦ elim c.if-table_rises.branch [
        | then-table_rises w ↦ lens_bound (says_true (sym w.value-is ∙ v.if-tree_sound.true) w.tree_sound.ensures)
        | else-table_rises w ↦ absurd (cc)
      ]
      | else-tree_sound v ↦ absurd (cc)
    ] in
    grind (arith, common_steps)

pub returns-else-all_marks_fit : goal.returns-else-all_marks_fit
returns-else-all_marks_fit c =
    rw c.if-all_marks_fit.false (λ h. let t = tested-of _ h in grind (arith, common_steps))
