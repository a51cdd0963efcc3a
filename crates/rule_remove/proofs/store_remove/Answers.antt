-- `rule_remove::store_remove` meets its contract: the stages one after another, by the law `freed_some`.
use mathlib.Core.Path.{sym, subst, ap, ◌∙◌}
use Prim.Native.Nat.{◌-◌}
use lib.ListN.{length}
use native.Mathlib.Omega.{arith}
use Rattle.model.specs.State.{Ranges}
use Rattle.model.specs.Store.{ranges}
use Rattle.model.specs.Remove.{writes, gone_blocks}
use Rattle.model.specs.Calls.{front}
use Rattle.pool_range.specs.Lent.{lent}
use Rattle.rule_overlap.specs.Overlap.{Overlap}
use Rattle.rule_overlap.proofs.Laws.{remove-fits}
use Rattle.rule_remove.proofs.Laws.{freed_none, freed_some, cut_sized}
use Rattle.rule_remove.proofs.store_remove.Goals as goal

pub returns-then-lo-hi-clause-freed : goal.returns-then-lo-hi-clause-freed
returns-then-lo-hi-clause-freed c = λ x same marks.
    let p = c.requires.n_bound in
    let over = subst (λ (r : Ranges). Overlap r.node r.start r.end c.args.n c.args.sp c.first_overlap-lo.result c.end_overlap-hi.result) c.view-2.ensures c.end_overlap-hi.ensures in
    freed_none _ _ _ _ c.args.sp _ (record { few = p.0; sized = p.1; over = over }) x same c.if-lo-hi.true _ _ marks

pub cut_out-left-requires-clause-n_bound : goal.cut_out-left-requires-clause-n_bound
cut_out-left-requires-clause-n_bound c =
    let a = c.args in
    let over = subst (λ (r : Ranges). Overlap r.node r.start r.end a.n a.sp c.first_overlap-lo.result c.end_overlap-hi.result) c.view-2.ensures c.end_overlap-hi.ensures in
    remove-fits (lent a.ranges.now) _ _ _ a.sp over c.if-lo-hi.false c.requires.remove_fits

pub unmark-requires : goal.unmark-requires
unmark-requires c =
    let a = c.args in
    let over = subst (λ (r : Ranges). Overlap r.node r.start r.end a.n a.sp c.first_overlap-lo.result c.end_overlap-hi.result) c.view-2.ensures c.end_overlap-hi.ensures in
    let room = remove-fits (lent a.ranges.now) _ _ _ a.sp over c.if-lo-hi.false c.requires.remove_fits in
    let k = cut_sized _ _ _ _ _ _ a.sp c.requires.n_bound.1 room c.cut_out-left.ensures.cut in
    (omega (arith, k.1, k.0.node, ap (λ (r : Ranges). length r.node) c.view-5.ensures), c.requires.start_lt_end.2)

pub returns-clause-freed : goal.returns-clause-freed
returns-clause-freed c = λ x same marks.
    let a = c.args in
    let lo = c.first_overlap-lo.result in
    let hi = c.end_overlap-hi.result in
    let p = c.requires.n_bound in
    let over = subst (λ (r : Ranges). Overlap r.node r.start r.end a.n a.sp lo hi) c.view-2.ensures c.end_overlap-hi.ensures in
    let room = remove-fits (lent a.ranges.now) _ _ _ a.sp over c.if-lo-hi.false c.requires.remove_fits in
    let gone = c.removed_blocks-removed.ensures ∙ ap (λ (r : Ranges). gone_blocks a.sp.start a.sp.end (ranges r lo (hi - lo))) c.view-3.ensures in
    let list = c.list_writes-writes.ensures.list ∙ ap (λ (r : Ranges). front (writes (ranges r lo (hi - lo))) a.list.now) c.view-4.ensures in
    let count = c.list_writes-writes.ensures.count ∙ ap (λ (r : Ranges). length (writes (ranges r lo (hi - lo)))) c.view-4.ensures in
    freed_some _ _ _ _ a.sp _ (record { few = p.0; sized = p.1; over = over }) x same c.if-lo-hi.false _ _ _ _ _ _ _ _ _ marks gone list count room
    c.cut_out-left.ensures.cut (c.unmark.ensures _ (ap (λ (r : Ranges). r.node) (sym c.view-5.ensures)))
