-- The pins that lent columns make, and that two of them are the same slices. Assumes nothing.
use Rattle.std.specs.Prelude.{◌≡◌}
use Rattle.model.specs.State.{Pins}
use Rattle.shape_state.specs.Lent.{pins_of}
use Rattle.pool_pin.specs.declared.PinsMut.{PinsMut}

-- what columns hold that are lent to be changed
abbrev pub lent : PinsMut → Pins
lent p = pins_of p.node.now p.start.now p.end.now p.count.now

-- each column is the slice that it was
pub record SamePins (a b : PinsMut) : Type 0 where
  pub node : b.node.ghost_name ≡ a.node.ghost_name
  pub start : b.start.ghost_name ≡ a.start.ghost_name
  pub end : b.end.ghost_name ≡ a.end.ghost_name
  pub count : b.count.ghost_name ≡ a.count.ghost_name
