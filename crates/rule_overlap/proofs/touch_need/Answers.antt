-- `rule_overlap::touch_need` meets its contract: the head of the first overlapped record and the tail of the last are all new pieces.
use mathlib.Core.Path.{◌∙◌}
use Rattle.rule_overlap.proofs.Laws.{need-none, need-off, need-on, byte-plus}
use Rattle.rule_overlap.proofs.touch_need.Goals.{then-lo-hi-via-then-lo-hi, then-lo-hi-via-else-lo-hi+then-not-refreshes}
use Rattle.rule_overlap.proofs.touch_need.Goals as goal

pub returns-then-lo-hi : goal.returns-then-lo-hi
returns-then-lo-hi c = elim c.then-lo-hi.branch [
  | then-lo-hi-via-then-lo-hi w ↦ need-none _ _ _ _ _ _ _ _ c.end_overlap-hi.ensures w.if-lo-hi.true
  | then-lo-hi-via-else-lo-hi+then-not-refreshes w ↦ need-off _ _ _ _ _ _ w.if-not-refreshes.true
]

pub returns : goal.returns
returns c =
    need-on _ _ _ _ _ _ _ _ _ _ c.requires c.end_overlap-hi.ensures c.if-lo-hi.false c.if-not-refreshes.false (c.from.ensures ∙ byte-plus _) (c.from-2.ensures ∙ byte-plus _)
