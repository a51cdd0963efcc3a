-- `rule_overlap::split_rec` meets its contract: the end is stored, then the right part is put behind.
use mathlib.Core.Path.{◌∙◌, ap}
use Rattle.model.specs.State.{range_at}
use Rattle.rule_overlap.proofs.Laws.{split-is}
use Rattle.rule_overlap.proofs.split_rec.Goals as goal

pub returns-clause-columns : goal.returns-clause-columns
returns-clause-columns c = let p = c.requires in
    split-is _ p.2 _ _ p.0 p.1 _ _ _ _ (c.at.ensures ∙ ap (λ t. range_at t c.args.i) c.view.ensures) c.put.ensures.columns
