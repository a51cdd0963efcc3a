-- `rust_store::scorebeetle_store_expire` meets its contract: the known call's equation or the public one's, its answer told as a number and a list. Assumes nothing.
use Rattle.shape_answer.specs.Answers.{store_expired_of}
use Rattle.rust_values.specs.Told.{expire_at, expire_values}
use Rattle.rust_values.proofs.Telling.{telling, expire-told, store_expire-numbered}
use Rattle.rust_store.proofs.scorebeetle_store_expire.Goals as goal

pub store_expire-r-requires : goal.store_expire-r-requires
store_expire-r-requires c = c.requires.1 c.if-known.true

pub returns-then-known : goal.returns-then-known
returns-then-known c = let k = c.store_expire-r in
    telling expire_at expire_values (store_expired_of k.result) (expire-told _) c.args.answer.now k.ensures (store_expire-numbered _ _ _ _ _) c.requires.0 c.store_expired.ensures.0 c.store_expired.ensures.1

pub returns : goal.returns
returns c = let k = c.store_expire-r-2 in
    telling expire_at expire_values (store_expired_of k.result) (expire-told _) c.args.answer.now k.ensures (store_expire-numbered _ _ _ _ _) c.requires.0 c.store_expired-2.ensures.0 c.store_expired-2.ensures.1
