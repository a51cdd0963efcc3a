-- `rust_tally::scorebeetle_tally_insert` meets its contract: the counted bring-in's equation, its answer told as a number and a list. Assumes nothing.
use Rattle.shape_answer.specs.Answers.{store_inserted_of}
use Rattle.rust_values.specs.Told.{bring_at, bring_values}
use Rattle.rust_values.proofs.Telling.{telling, bring-told}
use Rattle.rust_tally.proofs.Numbered.{tally_insert-numbered}
use Rattle.rust_tally.proofs.scorebeetle_tally_insert.Goals as goal

pub tally_insert-r-requires : goal.tally_insert-r-requires
tally_insert-r-requires c = (c.requires.1, c.requires.2, c.requires.3)

pub returns : goal.returns
returns c = let k = c.tally_insert-r in
    telling bring_at bring_values (store_inserted_of k.result) (bring-told _) c.args.answer.now k.ensures (tally_insert-numbered _ _ _ _ _ _) c.requires.0 c.store_inserted.ensures.0 c.store_inserted.ensures.1
