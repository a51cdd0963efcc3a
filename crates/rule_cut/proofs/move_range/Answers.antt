-- `rule_cut::move_range` meets its contract: what is taken out stands in the place that it leaves. Assumes nothing.
use mathlib.Core.Path.{ap, ◌∙◌}
use native.Mathlib.Omega.{arith}
use Rattle.model.specs.State.{Ranges, range_at}
use Rattle.pool_range.specs.Lent.{lent}
use Rattle.pool_range.specs.Part.{range_of, Sized}
use Rattle.rule_cut.proofs.Moved.{moved-range, cut-sized}
use Rattle.rule_cut.proofs.move_range.Goals as goal

pub put-requires : goal.put-requires
put-requires c = let a = c.args in
    let s : Sized 128 (lent c.cut.new.self) = rw c.cut.ensures.columns (cut-sized a.n a.p (lent a.ranges.now) c.requires.0 c.requires.1 c.requires.4) in
    (omega arith, omega (arith, c.requires.0), s)

pub returns-clause-columns : goal.returns-clause-columns
returns-clause-columns c = let a = c.args in
    rw (c.put.ensures.columns, c.cut.ensures.columns)
    (moved-range a.n a.p a.k a.m (range_of c.at-r.result) (lent a.ranges.now) c.requires.0 c.requires.1 c.requires.4
    (c.at-r.ensures ∙ ap (λ (x : Ranges). range_at x a.p) c.view.ensures))
