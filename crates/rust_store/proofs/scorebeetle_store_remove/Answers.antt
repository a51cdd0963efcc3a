-- `rust_store::scorebeetle_store_remove` meets its contract: the known call's equation or the public one's, its answer told as a number and a list. Assumes nothing.
use Rattle.shape_answer.specs.Answers.{store_removed_of}
use Rattle.rust_values.specs.Told.{remove_at, remove_values}
use Rattle.rust_values.proofs.Telling.{telling, remove-told, store_remove-numbered}
use Rattle.rust_store.proofs.scorebeetle_store_remove.Goals as goal

pub store_remove-r-requires : goal.store_remove-r-requires
store_remove-r-requires c = c.requires.1 c.if-known.true

pub returns-then-known : goal.returns-then-known
returns-then-known c = let k = c.store_remove-r in
    telling remove_at remove_values (store_removed_of k.result) (remove-told _) c.args.answer.now k.ensures (store_remove-numbered _ _ _ _) c.requires.0 c.store_removed.ensures.0 c.store_removed.ensures.1

pub returns : goal.returns
returns c = let k = c.store_remove-r-2 in
    telling remove_at remove_values (store_removed_of k.result) (remove-told _) c.args.answer.now k.ensures (store_remove-numbered _ _ _ _) c.requires.0 c.store_removed-2.ensures.0 c.store_removed-2.ensures.1
