-- `rule_choose::oldest` meets its contract: going down, the best so far is the first of the records from there on.
use Rattle.std.proofs.Common.{refl, sym, ◌∙◌, arith}
use Rattle.pool_range.specs.Lent.{seen}
use Rattle.rule_choose.proofs.Laws.{best_start, best_take, best_stay, best_within, best_end, leads-same}
use Rattle.rule_choose.proofs.oldest.Goals as goal

pub loop-i-init : goal.loop-i-init
loop-i-init c = λ d e f. best_start _ _ _

pub leads-requires : goal.leads-requires
leads-requires c = (c.requires.0, c.requires.1, omega arith, best_within _ _ _ _ _ (c.loop-i.invariant (seen c.args.ranges) refl refl))

pub loop-i-preserved-then-leads : goal.loop-i-preserved-then-leads
loop-i-preserved-then-leads c = λ d e f.
    best_take _ _ _ _ _ (omega arith) c.loop-i.auto.i _ refl (c.if-leads.ensures ∙ sym (leads-same d (seen c.args.ranges) _ _ e f)) (c.loop-i.invariant d e f)

pub loop-i-preserved : goal.loop-i-preserved
loop-i-preserved c = λ d e f.
    best_stay _ _ _ _ _ (omega arith) c.loop-i.auto.i _ (c.if-leads.ensures ∙ sym (leads-same d (seen c.args.ranges) _ _ e f)) (c.loop-i.invariant d e f)

pub returns : goal.returns
returns c = λ d e f. best_end _ _ _ _ _ c.loop-i-test.false (c.loop-i.invariant d e f)
