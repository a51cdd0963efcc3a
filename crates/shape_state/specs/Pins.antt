-- The pins that lent columns make. Assumes nothing.
use Rattle.model.specs.State.{Pins}
use Rattle.shape_state.specs.Lent.{pins_of}
use Rattle.shape_state.specs.declared.PinsRef.{PinsRef}

-- what columns hold that are lent to be read
abbrev pub pinned : PinsRef → Pins
pinned p = pins_of p.node.now p.start.now p.end.now p.count.now
