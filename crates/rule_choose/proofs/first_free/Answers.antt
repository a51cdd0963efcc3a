-- `rule_choose::first_free` meets its contract: going down, the best so far is the first of the records from there on.
use Rattle.std.proofs.Common.{not, refl, sym, ap, ◌∙◌, [], List, ℕ, ◌-◌, arith}
use Rattle.model.specs.State.{at, range_at}
use Rattle.pool_range.specs.Lent.{seen}
use Rattle.rule_choose.proofs.Laws.{best_start, best_skip, best_take, best_stay, best_within, best_end, leads-same}
use Rattle.rule_choose.proofs.first_free.Goals as goal
use Rattle.rule_choose.proofs.first_free.Goals.{else-leads-via-then-leads+else-not-is_pinned, else-leads-via-else-leads}

pub loop-i-init : goal.loop-i-init
loop-i-init c = λ d v a z e f count. best_start _ _ _

pub leads-requires : goal.leads-requires
leads-requires c = let p = c.requires.n_in_bounds in
    (p.3, p.4, omega arith, best_within _ _ _ _ _ (c.loop-i.invariant (seen c.args.ranges) refl refl refl refl refl []))

pub loop-i-preserved-then-not-is_pinned : goal.loop-i-preserved-then-not-is_pinned
loop-i-preserved-then-not-is_pinned c = λ d v a z e f count.
    let j : ℕ = c.loop-i.i - 1 in
    let there : List ℕ → ℕ = (λ l. at l j) in
    best_take _ _ _ _ j (omega arith) c.loop-i.auto.i _
    (ap not (sym (c.if-not-is_pinned.ensures count (range_at d j) (ap there v) (ap there a) (ap there z))))
    (c.if-leads.ensures ∙ sym (leads-same d (seen c.args.ranges) j _ e f))
    (c.loop-i.invariant d v a z e f count)

pub loop-i-preserved : goal.loop-i-preserved
loop-i-preserved c = λ d v a z e f count.
    let j : ℕ = c.loop-i.i - 1 in
    let there : List ℕ → ℕ = (λ l. at l j) in
    elim c.else-leads.branch [
      | else-leads-via-then-leads+else-not-is_pinned w ↦
          best_skip _ _ _ _ j (omega arith) c.loop-i.auto.i _
          (ap not (sym (w.if-not-is_pinned.ensures count (range_at d j) (ap there v) (ap there a) (ap there z))))
          (c.loop-i.invariant d v a z e f count)
      | else-leads-via-else-leads w ↦
          best_stay _ _ _ _ j (omega arith) c.loop-i.auto.i _
          (w.if-leads.ensures ∙ sym (leads-same d (seen c.args.ranges) j _ e f))
          (c.loop-i.invariant d v a z e f count)
    ]

pub returns : goal.returns
returns c = λ d v a z e f count. best_end _ _ _ _ _ c.loop-i-test.false (c.loop-i.invariant d v a z e f count)
