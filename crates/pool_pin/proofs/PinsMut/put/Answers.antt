-- `pool_pin::PinsMut::put` meets its contract: the entry is put into each column. Assumes nothing.
use Rattle.model.specs.Pins.{pin_of}
use Rattle.pool_pin.specs.Columns.{lent}
use Rattle.pool_pin.proofs.Columns.{put-given, width}
use native.Mathlib.Nat.{le_of_lt}
use Rattle.pool_pin.proofs.PinsMut.put.Goals as goal

pub returns-clause-columns : goal.returns-clause-columns
returns-clause-columns c = let a = c.args in
    put-given a.a a.n (lent a.self.now) (le_of_lt c.requires.0) c.requires.2 _ a.at (pin_of a.sp a.k)
    c.put.new.column c.put-2.new.column c.put-3.new.column c.put-4.new.column
    (width a.a) c.requires.1 c.requires.0 c.put.ensures c.put-2.ensures c.put-3.ensures c.put-4.ensures
