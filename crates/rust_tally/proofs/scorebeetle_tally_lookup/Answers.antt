-- `rust_tally::scorebeetle_tally_lookup` meets its contract: the counted lookup's equation, its answer told as a number and a list. Assumes nothing.
use Rattle.shape_answer.specs.Answers.{looked_of}
use Rattle.rust_values.specs.Told.{lookup_at, lookup_values}
use Rattle.rust_values.proofs.Telling.{telling, lookup-told}
use Rattle.rust_tally.proofs.Numbered.{tally_lookup-numbered}
use Rattle.rust_tally.proofs.scorebeetle_tally_lookup.Goals as goal

pub tally_lookup-r-requires : goal.tally_lookup-r-requires
tally_lookup-r-requires c = (c.requires.1, c.requires.2, c.requires.3, c.requires.4)

pub returns : goal.returns
returns c = let k = c.tally_lookup-r in
    telling lookup_at lookup_values (looked_of k.result) (lookup-told k.result) c.args.answer.now k.ensures (tally_lookup-numbered _ _ _ _) c.requires.0 c.looked.ensures.0 c.looked.ensures.1
