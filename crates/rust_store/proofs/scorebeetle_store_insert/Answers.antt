-- `rust_store::scorebeetle_store_insert` meets its contract: the known call's equation or the public one's, its answer told as a number and a list. Assumes nothing.
use Rattle.shape_answer.specs.Answers.{store_inserted_of}
use Rattle.rust_values.specs.Told.{bring_at, bring_values}
use Rattle.rust_values.proofs.Telling.{telling, bring-told, store_insert-numbered}
use Rattle.rust_store.proofs.scorebeetle_store_insert.Goals as goal

pub store_insert-r-requires : goal.store_insert-r-requires
store_insert-r-requires c = c.requires.1 c.if-known.true

pub returns-then-known : goal.returns-then-known
returns-then-known c = let k = c.store_insert-r in
    telling bring_at bring_values (store_inserted_of k.result) (bring-told _) c.args.answer.now k.ensures (store_insert-numbered _ _ _ _ _ _) c.requires.0 c.store_inserted.ensures.0 c.store_inserted.ensures.1

pub returns : goal.returns
returns c = let k = c.store_insert-r-2 in
    telling bring_at bring_values (store_inserted_of k.result) (bring-told _) c.args.answer.now k.ensures (store_insert-numbered _ _ _ _ _ _) c.requires.0 c.store_inserted-2.ensures.0 c.store_inserted-2.ensures.1
