-- `rust_tally::scorebeetle_tally_remove` meets its contract: the counted removal's equation, its answer told as a number and a list. Assumes nothing.
use Rattle.shape_answer.specs.Answers.{store_removed_of}
use Rattle.rust_values.specs.Told.{remove_at, remove_values}
use Rattle.rust_values.proofs.Telling.{telling, remove-told}
use Rattle.rust_tally.proofs.Numbered.{tally_remove-numbered}
use Rattle.rust_tally.proofs.scorebeetle_tally_remove.Goals as goal

pub tally_remove-r-requires : goal.tally_remove-r-requires
tally_remove-r-requires c = (c.requires.1, c.requires.2, c.requires.3)

pub returns : goal.returns
returns c = let k = c.tally_remove-r in
    telling remove_at remove_values (store_removed_of k.result) (remove-told _) c.args.answer.now k.ensures (tally_remove-numbered _ _ _ _) c.requires.0 c.store_removed.ensures.0 c.store_removed.ensures.1
