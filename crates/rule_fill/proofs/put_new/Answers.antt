-- `rule_fill::put_new` meets its contract: the record is put at its place, by the law `placed`.
use Rattle.std.proofs.Common.{refl}
use Rattle.pool_range.specs.Lent.{lent, seen}
use Rattle.pool_range.specs.Part.{range_of}
use Rattle.rule_fill.proofs.Laws.{placed}
use Rattle.rule_fill.proofs.put_new.Goals as goal

pub returns-clause-columns : goal.returns-clause-columns
returns-clause-columns c = let a = c.args in
    let e = c.place_for-at.ensures in
    placed a.n c.place_for-at.result (range_of a.r) (lent a.ranges.now) (lent c.put.new.self) c.requires.0 c.requires.1 e.0 (rw c.view.ensures at (e.1 (seen c.view.result) refl refl)) c.put.ensures.columns
