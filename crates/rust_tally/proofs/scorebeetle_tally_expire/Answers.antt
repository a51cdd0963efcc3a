-- `rust_tally::scorebeetle_tally_expire` meets its contract: the counted expiry's equation, its answer told as a number and a list. Assumes nothing.
use Rattle.shape_answer.specs.Answers.{store_expired_of}
use Rattle.rust_values.specs.Told.{expire_at, expire_values}
use Rattle.rust_values.proofs.Telling.{telling, expire-told}
use Rattle.rust_tally.proofs.Numbered.{tally_expire-numbered}
use Rattle.rust_tally.proofs.scorebeetle_tally_expire.Goals as goal

pub tally_expire-r-requires : goal.tally_expire-r-requires
tally_expire-r-requires c = (c.requires.1, c.requires.2, c.requires.3)

pub returns : goal.returns
returns c = let k = c.tally_expire-r in
    telling expire_at expire_values (store_expired_of k.result) (expire-told _) c.args.answer.now k.ensures (tally_expire-numbered _ _ _ _ _) c.requires.0 c.store_expired.ensures.0 c.store_expired.ensures.1
