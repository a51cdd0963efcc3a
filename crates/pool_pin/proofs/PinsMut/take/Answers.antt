-- `pool_pin::PinsMut::take` meets its contract: the entry has one less, or it is cut out. Assumes nothing.
use Rattle.pool_pin.specs.Columns.{lent}
use Rattle.pool_pin.proofs.Placed.{take_off, take_last}
use Rattle.pool_pin.proofs.PinsMut.take.Goals as goal

pub returns-then-pins-le1-clause-columns : goal.returns-then-pins-le1-clause-columns
returns-then-pins-le1-clause-columns c = let a = c.args in
    (take_last a.a a.n (lent a.self.now) a.sp 1 a.at c.requires.1 _ c.if-pins-le1.true c.cut.ensures.columns).0

pub returns-then-pins-le1-clause-entries : goal.returns-then-pins-le1-clause-entries
returns-then-pins-le1-clause-entries c = let a = c.args in
    (take_last a.a a.n (lent a.self.now) a.sp 1 a.at c.requires.1 _ c.if-pins-le1.true c.cut.ensures.columns).1

pub returns-clause-columns : goal.returns-clause-columns
returns-clause-columns c = let a = c.args in
    (take_off a.a a.n (lent a.self.now) a.sp 1 a.at c.requires.1 c.requires.0 c.requires.2 c.if-pins-le1.false).0

pub returns-clause-entries : goal.returns-clause-entries
returns-clause-entries c = let a = c.args in
    (take_off a.a a.n (lent a.self.now) a.sp 1 a.at c.requires.1 c.requires.0 c.requires.2 c.if-pins-le1.false).1
