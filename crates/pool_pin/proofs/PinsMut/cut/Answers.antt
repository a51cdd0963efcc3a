-- `pool_pin::PinsMut::cut` meets its contract: the entry is cut out of each column. Assumes nothing.
use Rattle.pool_pin.specs.Columns.{lent}
use Rattle.pool_pin.proofs.Columns.{cut-given, width}
use Rattle.pool_pin.proofs.PinsMut.cut.Goals as goal

pub returns-clause-columns : goal.returns-clause-columns
returns-clause-columns c = let a = c.args in
    cut-given a.a a.n (lent a.self.now) c.requires.0 c.requires.2 _ a.at
    c.cut.new.column c.cut-2.new.column c.cut-3.new.column c.cut-4.new.column
    (width a.a) c.requires.1 c.cut.ensures c.cut-2.ensures c.cut-3.ensures c.cut-4.ensures
