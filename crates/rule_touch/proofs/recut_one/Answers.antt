-- `rule_touch::recut_one` meets its contract: at most two splits, and the middle's stamp and time, by the law `one-is`.
use native.Mathlib.Omega.{arith}
use Rattle.rule_touch.proofs.Laws.{one-is, room-tail, sized₁, sized₂, place}
use Rattle.rule_touch.proofs.recut_one.Goals as goal

pub split_if-t-requires : goal.split_if-t-requires
split_if-t-requires c =
    let p = c.requires.i_lt_n in
    let q = c.requires.start_lt_end in
    let e = c.split_if-h.ensures in
    (omega (arith, p.0), room-tail _ p.3 _ _ p.0 _ _ _ c.args.top c.args.time c.args.next q.0 q.1 p.1 _ _ e.columns e.count, sized₁ _ p.3 _ _ p.0 _ _ _ c.args.top c.args.time c.args.next q.0 q.1 p.1 _ _ e.columns e.count)

pub bounds-ranges-m : goal.bounds-ranges-m
bounds-ranges-m c =
    let p = c.requires.i_lt_n in
    let q = c.requires.start_lt_end in
    let e = c.split_if-h.ensures in
    let f = c.split_if-t.ensures in
    omega (
      arith,
      place _ p.3 _ _ p.0 _ _ _ c.args.top c.args.time c.args.next q.0 q.1 p.1 _ _ e.columns e.count,
      (sized₂ _ p.3 _ _ p.0 _ _ _ c.args.top c.args.time c.args.next q.0 q.1 p.1 _ _ e.columns e.count _ _ f.columns f.count).stamp,
    )

pub bounds-ranges-m-2 : goal.bounds-ranges-m-2
bounds-ranges-m-2 c =
    let p = c.requires.i_lt_n in
    let q = c.requires.start_lt_end in
    let e = c.split_if-h.ensures in
    let f = c.split_if-t.ensures in
    omega (
      arith,
      place _ p.3 _ _ p.0 _ _ _ c.args.top c.args.time c.args.next q.0 q.1 p.1 _ _ e.columns e.count,
      (sized₂ _ p.3 _ _ p.0 _ _ _ c.args.top c.args.time c.args.next q.0 q.1 p.1 _ _ e.columns e.count _ _ f.columns f.count).touched,
    )

pub returns-clause-columns : goal.returns-clause-columns
returns-clause-columns c =
    let p = c.requires.i_lt_n in
    let q = c.requires.start_lt_end in
    let e = c.split_if-h.ensures in
    let f = c.split_if-t.ensures in
    one-is _ p.3 _ _ p.0 _ _ _ _ _ _ q.0 q.1 p.1 _ _ e.columns e.count _ _ f.columns f.count
