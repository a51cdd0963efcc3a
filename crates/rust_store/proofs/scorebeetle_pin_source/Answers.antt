-- `rust_store::scorebeetle_pin_source` meets its contract: the known call's equation or the public one's, its answer told as a number. Assumes nothing.
use Rattle.shape_answer.specs.Answers.{plain_of}
use Rattle.rust_values.proofs.Telling.{plainly, pin-numbered}
use Rattle.rust_store.proofs.scorebeetle_pin_source.Goals as goal

pub pin_source-r-requires : goal.pin_source-r-requires
pin_source-r-requires c = c.requires c.if-known.true

pub returns-then-known : goal.returns-then-known
returns-then-known c = let k = c.pin_source-r in
    plainly (plain_of k.result) k.ensures (pin-numbered _ _ _) c.plain.ensures

pub returns : goal.returns
returns c = let k = c.pin_source-r-2 in
    plainly (plain_of k.result) k.ensures (pin-numbered _ _ _) c.plain-2.ensures
