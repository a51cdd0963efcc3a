-- `rust_tree::scorebeetle_resolve` meets its contract: the known call's equation or the public one's, its answer told as a number and a list. Assumes nothing.
use Rattle.shape_answer.specs.Answers.{resolved_of}
use Rattle.rust_values.specs.Told.{resolve_at, resolve_values}
use Rattle.rust_values.proofs.Telling.{telling, resolve-told, resolve-numbered}
use Rattle.rust_tree.proofs.scorebeetle_resolve.Goals as goal

pub resolve-r-requires : goal.resolve-r-requires
resolve-r-requires c = c.requires.1 c.if-known.true

pub returns-then-known : goal.returns-then-known
returns-then-known c = let k = c.resolve-r in
    telling resolve_at resolve_values (resolved_of k.result) (resolve-told _) c.args.answer.now k.ensures (resolve-numbered _ _ _) c.requires.0 c.path.ensures.0 c.path.ensures.1

pub returns : goal.returns
returns c = let k = c.resolve-r-2 in
    telling resolve_at resolve_values (resolved_of k.result) (resolve-told _) c.args.answer.now k.ensures (resolve-numbered _ _ _) c.requires.0 c.path-2.ensures.0 c.path-2.ensures.1
