-- The answer list that lent columns make, and that two of them are the same slices. Assumes nothing.
use Rattle.std.specs.Prelude.{◌≡◌}
use Rattle.shape_answer.specs.Lists.{out_list}
use Rattle.model.specs.Refusals.{OutList}
use Rattle.pool_out.specs.declared.OutsMut.{OutsMut}

abbrev pub listed : OutsMut → OutList
listed o = out_list o.node.now o.start.now o.end.now o.write.now o.bytes.now o.dead.now

-- each column is the slice that it was
pub record SameOuts (a b : OutsMut) : Type 0 where
  pub node : b.node.ghost_name ≡ a.node.ghost_name
  pub start : b.start.ghost_name ≡ a.start.ghost_name
  pub end : b.end.ghost_name ≡ a.end.ghost_name
  pub write : b.write.ghost_name ≡ a.write.ghost_name
  pub bytes : b.bytes.ghost_name ≡ a.bytes.ghost_name
  pub dead : b.dead.ghost_name ≡ a.dead.ghost_name
