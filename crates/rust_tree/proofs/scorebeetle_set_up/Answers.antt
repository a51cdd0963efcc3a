-- `rust_tree::scorebeetle_set_up` meets its contract: the inner call's equation, its answer told as a number. Assumes nothing.
use Rattle.shape_answer.specs.Answers.{plain_of}
use Rattle.rust_values.proofs.Telling.{plainly, set_up-numbered}
use Rattle.rust_tree.proofs.scorebeetle_set_up.Goals as goal

pub returns : goal.returns
returns c = let k = c.set_up-r in
    plainly (plain_of k.result) k.ensures (set_up-numbered _ _ _ _) c.plain.ensures
