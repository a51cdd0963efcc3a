-- `rule_touch::refresh` meets its contract: one range wholly inside is stamped in place, and otherwise the ranges are cut and joined.
use native.Mathlib.Omega.{arith}
use Rattle.rule_touch.proofs.Laws.{refreshed_one, refreshed_cut, recut_sized}
use Rattle.rule_touch.proofs.refresh.Goals as goal

pub returns-then-one_inside-clause-refreshed : goal.returns-then-one_inside-clause-refreshed
returns-then-one_inside-clause-refreshed c = let p = c.requires.lo_lt_hi in
    refreshed_one _ _ _ _ _ _ _ _ p.0 p.2 _ (rw c.view.ensures at c.one_inside.ensures) c.if-one_inside.true

pub join_ranges-m-requires : goal.join_ranges-m-requires
join_ranges-m-requires c =
    let p = c.requires.lo_lt_hi in
    let room = c.requires.start_lt_end.2 in
    let e = c.recut-need.ensures in
    (omega (arith, p.0, p.2.over.high), omega (arith, e.count, room), recut_sized _ _ _ _ _ _ _ _ p.0 p.2 _ (rw c.view.ensures at c.one_inside.ensures) room _ _ e.columns e.count)

pub returns-clause-refreshed : goal.returns-clause-refreshed
returns-clause-refreshed c =
    let p = c.requires.lo_lt_hi in
    let e = c.recut-need.ensures in
    let f = c.join_ranges-m.ensures in
    refreshed_cut _ _ _ _ _ _ _ _ p.0 p.2 _ (rw c.view.ensures at c.one_inside.ensures) c.requires.start_lt_end.2 _ _ e.columns e.count c.if-one_inside.false _ _ f.columns f.count.0
