-- `rule_remove::cut_out` meets its contract: a range that reaches past both ends is the only one, and otherwise none does.
use mathlib.Core.Path.{refl}
use native.Mathlib.Omega.{arith}
use borrow.Author.Tests.{lt-ltb, le-ltb}
use Rattle.rule_remove.proofs.Laws.{none-past, room, out-middle, past_both, not_past}
use Rattle.rule_remove.proofs.cut_out.Goals.{else-ranges-lo-via-then-ranges-lo+else-sp-ranges, else-ranges-lo-via-else-ranges-lo}
use Rattle.rule_remove.proofs.cut_out.Goals as goal

pub cut_middle-requires : goal.cut_middle-requires
cut_middle-requires c = let p = c.requires.lo_lt_hi in
    (omega (arith, p.0, p.1.over.high), room _ _ _ _ _ p.0 p.1 p.2 (past_both c.if-ranges-lo.true c.if-sp-ranges.true) c.requires.n_bound, p.1.sized)

pub returns-then-sp-ranges-clause-cut : goal.returns-then-sp-ranges-clause-cut
returns-then-sp-ranges-clause-cut c = let p = c.requires.lo_lt_hi in
    out-middle _ _ _ _ _ p.0 p.1 p.2 (past_both c.if-ranges-lo.true c.if-sp-ranges.true) _ _ c.cut_middle.ensures.columns

pub cut_ends-m-requires-clause-each : goal.cut_ends-m-requires-clause-each
cut_ends-m-requires-clause-each c = let p = c.requires.lo_lt_hi in
    none-past _ _ _ _ _ p.0 p.1 p.2 (elim c.else-ranges-lo.branch [
      | else-ranges-lo-via-then-ranges-lo+else-sp-ranges w ↦ not_past (lt-ltb _ _ w.if-ranges-lo.true) (le-ltb _ _ w.if-sp-ranges.false)
      | else-ranges-lo-via-else-ranges-lo w ↦ rw (le-ltb _ _ w.if-ranges-lo.false) refl
    ])

pub returns-clause-cut : goal.returns-clause-cut
returns-clause-cut c = c.cut_ends-m.ensures.cut _
