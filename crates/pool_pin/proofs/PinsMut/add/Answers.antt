-- `pool_pin::PinsMut::add` meets its contract: the entry that is there has more, or a new one is put in. Assumes nothing.
use Rattle.std.proofs.Common.{sym}
use Rattle.pool_pin.specs.Columns.{lent}
use Rattle.pool_pin.specs.EntryPlace.{Stands, GoesIn, spans_from}
use Rattle.pool_pin.proofs.Placed.{add-on, add_in, long-there, long-new, few}
use Rattle.pool_pin.proofs.PinsMut.add.Goals as goal

pub returns-in-Ok-clause-columns : goal.returns-in-Ok-clause-columns
returns-in-Ok-clause-columns c = let a = c.args in
    let here : Stands (spans_from (lent a.self.now) a.a) a.n a.sp c.in-Ok.at = rw c.in-Ok.is at c.requires.1 in
    rw c.in-Ok.is (add-on a.a a.n (lent a.self.now) a.sp a.k c.in-Ok.at here (few a.place c.requires.0) c.requires.3)

pub returns-in-Ok-clause-entries : goal.returns-in-Ok-clause-entries
returns-in-Ok-clause-entries c = let a = c.args in
    let here : Stands (spans_from (lent a.self.now) a.a) a.n a.sp c.in-Ok.at = rw c.in-Ok.is at c.requires.1 in
    sym (long-there a.a a.n (lent a.self.now) a.sp a.k c.in-Ok.at here)

pub returns-in-Err-clause-columns : goal.returns-in-Err-clause-columns
returns-in-Err-clause-columns c = let a = c.args in
    let new : GoesIn (spans_from (lent a.self.now) a.a) a.n a.sp c.in-Err.at = rw c.in-Err.is at c.requires.1 in
    rw c.in-Err.is (add_in a.a a.n (lent a.self.now) a.sp a.k c.in-Err.at new _ c.put.ensures.columns)

pub returns-in-Err-clause-entries : goal.returns-in-Err-clause-entries
returns-in-Err-clause-entries c = let a = c.args in
    let new : GoesIn (spans_from (lent a.self.now) a.a) a.n a.sp c.in-Err.at = rw c.in-Err.is at c.requires.1 in
    sym (long-new a.a a.n (lent a.self.now) a.sp a.k c.in-Err.at new)
