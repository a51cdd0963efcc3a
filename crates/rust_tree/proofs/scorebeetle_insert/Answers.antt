-- `rust_tree::scorebeetle_insert` meets its contract: the known call's equation or the public one's, its answer told as a number and a list. Assumes nothing.
use Rattle.shape_answer.specs.Answers.{inserted_of}
use Rattle.rust_values.specs.Told.{insert_at, insert_values}
use Rattle.rust_values.proofs.Telling.{telling, insert-told, insert-numbered}
use Rattle.rust_tree.proofs.scorebeetle_insert.Goals as goal

pub insert-r-requires : goal.insert-r-requires
insert-r-requires c = c.requires.1 c.if-known.true

pub returns-then-known : goal.returns-then-known
returns-then-known c = let k = c.insert-r in
    telling insert_at insert_values (inserted_of k.result) (insert-told _) c.args.answer.now k.ensures (insert-numbered _ _ _) c.requires.0 c.inserted.ensures.0 c.inserted.ensures.1

pub returns : goal.returns
returns c = let k = c.insert-r-2 in
    telling insert_at insert_values (inserted_of k.result) (insert-told _) c.args.answer.now k.ensures (insert-numbered _ _ _) c.requires.0 c.inserted-2.ensures.0 c.inserted-2.ensures.1
