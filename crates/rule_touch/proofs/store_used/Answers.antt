-- `rule_touch::store_used` meets its contract: the stages one after another, by the laws of `Touching`.
use mathlib.Core.Path.{subst, ap, ◌∙◌}
use Prim.Native.Nat.{◌-◌}
use native.Mathlib.Omega.{arith}
use Rattle.model.specs.State.{Ranges}
use Rattle.model.specs.Store.{ranges}
use Rattle.model.specs.Touch.{bytes_read}
use Rattle.pool_range.specs.Lent.{lent}
use Rattle.rule_resolve.specs.Span.{only_depth}
use Rattle.rule_overlap.specs.Overlap.{Overlap}
use Rattle.rule_overlap.proofs.Laws.{touch-fits}
use Rattle.rule_touch.proofs.Laws.{touching_none, touching_off, touching_on}
use Rattle.rule_touch.proofs.store_used.Goals as goal

pub returns-then-lo-hi-clause-touching : goal.returns-then-lo-hi-clause-touching
returns-then-lo-hi-clause-touching c = λ t x deep same high on marks.
    let p = c.requires.n_bound in
    let over = subst (λ (r : Ranges). Overlap r.node r.start r.end c.args.n c.args.sp c.first_overlap-lo.result c.end_overlap-hi.result) c.view-2.ensures c.end_overlap-hi.ensures in
    touching_none _ _ _ _ c.args.sp _ _ _ (record { few = p.0; sized = p.1; over = over }) t _ x same c.if-lo-hi.true _ marks

pub returns-then-not-refreshes-clause-touching : goal.returns-then-not-refreshes-clause-touching
returns-then-not-refreshes-clause-touching c = λ t x deep same high on marks.
    let a = c.args in
    let lo = c.first_overlap-lo.result in
    let hi = c.end_overlap-hi.result in
    let p = c.requires.n_bound in
    let over = subst (λ (r : Ranges). Overlap r.node r.start r.end a.n a.sp lo hi) c.view-2.ensures c.end_overlap-hi.ensures in
    let read = c.read_bytes-read.ensures ∙ ap (λ (r : Ranges). bytes_read a.counted (only_depth a.depth.now) a.bytes.now a.sp (ranges r lo (hi - lo))) c.view-3.ensures in
    touching_off _ _ _ _ a.sp _ _ _ (record { few = p.0; sized = p.1; over = over }) t _ x same c.if-lo-hi.false _ deep _ read _ _ marks c.mark_read.ensures (on ∙ c.if-not-refreshes.true)

pub refresh-renewed-requires-clause-lo_lt_hi : goal.refresh-renewed-requires-clause-lo_lt_hi
refresh-renewed-requires-clause-lo_lt_hi c =
    let a = c.args in
    let p = c.requires.n_bound in
    let over = subst (λ (r : Ranges). Overlap r.node r.start r.end a.n a.sp c.first_overlap-lo.result c.end_overlap-hi.result) c.view-2.ensures c.end_overlap-hi.ensures in
    (omega (arith, over.order, c.if-lo-hi.false), (touch-fits (lent a.ranges.now) _ _ _ a.sp over c.if-lo-hi.false _ _ _ c.requires.touch_fits c.if-not-refreshes.false).0, record { few = p.0; sized = p.1; over = over })

pub refresh-renewed-requires-clause-start_lt_end : goal.refresh-renewed-requires-clause-start_lt_end
refresh-renewed-requires-clause-start_lt_end c =
    let a = c.args in
    let over = subst (λ (r : Ranges). Overlap r.node r.start r.end a.n a.sp c.first_overlap-lo.result c.end_overlap-hi.result) c.view-2.ensures c.end_overlap-hi.ensures in
    let q = touch-fits _ _ _ _ a.sp over c.if-lo-hi.false _ _ _ c.requires.touch_fits c.if-not-refreshes.false in
    (c.requires.start_lt_end.0, q.1, q.2)

pub returns-clause-touching : goal.returns-clause-touching
returns-clause-touching c = λ t x deep same high on marks.
    let a = c.args in
    let lo = c.first_overlap-lo.result in
    let hi = c.end_overlap-hi.result in
    let p = c.requires.n_bound in
    let over = subst (λ (r : Ranges). Overlap r.node r.start r.end a.n a.sp lo hi) c.view-2.ensures c.end_overlap-hi.ensures in
    let read = c.read_bytes-read.ensures ∙ ap (λ (r : Ranges). bytes_read a.counted (only_depth a.depth.now) a.bytes.now a.sp (ranges r lo (hi - lo))) c.view-3.ensures in
    touching_on _ _ _ _ a.sp _ _ _ (record { few = p.0; sized = p.1; over = over }) t _ x same c.if-lo-hi.false _ deep _ read _ _ marks c.mark_read.ensures (on ∙ c.if-not-refreshes.false)
    _ high _ _ _ c.refresh-renewed.ensures.refreshed
