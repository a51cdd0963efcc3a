-- The ranges that lent columns make, and that two of them are the same slices. Assumes nothing.
use Rattle.std.specs.Prelude.{◌≡◌}
use Rattle.model.specs.State.{Ranges}
use Rattle.shape_state.specs.Lent.{ranges_of}
use Rattle.pool_range.specs.declared.RangesRef.{RangesRef}
use Rattle.pool_range.specs.declared.RangesMut.{RangesMut}

-- what columns hold that are lent to be read
abbrev pub seen : RangesRef → Ranges
seen r = ranges_of r.node.now r.start.now r.end.now r.id.now r.stamp.now r.touched.now r.write.now

-- what columns hold that are lent to be changed
abbrev pub lent : RangesMut → Ranges
lent r = ranges_of r.node.now r.start.now r.end.now r.id.now r.stamp.now r.touched.now r.write.now

-- each column is the slice that it was
pub record SameColumns (a b : RangesMut) : Type 0 where
  pub node : b.node.ghost_name ≡ a.node.ghost_name
  pub start : b.start.ghost_name ≡ a.start.ghost_name
  pub end : b.end.ghost_name ≡ a.end.ghost_name
  pub id : b.id.ghost_name ≡ a.id.ghost_name
  pub stamp : b.stamp.ghost_name ≡ a.stamp.ghost_name
  pub touched : b.touched.ghost_name ≡ a.touched.ghost_name
  pub write : b.write.ghost_name ≡ a.write.ghost_name
