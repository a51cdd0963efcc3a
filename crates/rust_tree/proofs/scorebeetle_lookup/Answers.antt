-- `rust_tree::scorebeetle_lookup` meets its contract: the known call's equation or the public one's, its answer told as a number and a list. Assumes nothing.
use Rattle.shape_answer.specs.Answers.{looked_of}
use Rattle.rust_values.specs.Told.{lookup_at, lookup_values}
use Rattle.rust_values.proofs.Telling.{telling, lookup-told, lookup-numbered}
use Rattle.rust_tree.proofs.scorebeetle_lookup.Goals as goal

pub lookup-r-requires : goal.lookup-r-requires
lookup-r-requires c = c.requires.1 c.if-known.true

pub returns-then-known : goal.returns-then-known
returns-then-known c = let k = c.lookup-r in
    telling lookup_at lookup_values (looked_of k.result) (lookup-told k.result) c.args.answer.now k.ensures (lookup-numbered _ _ _ _) c.requires.0 c.looked.ensures.0 c.looked.ensures.1

pub returns : goal.returns
returns c = let k = c.lookup-r-2 in
    telling lookup_at lookup_values (looked_of k.result) (lookup-told k.result) c.args.answer.now k.ensures (lookup-numbered _ _ _ _) c.requires.0 c.looked-2.ensures.0 c.looked-2.ensures.1
