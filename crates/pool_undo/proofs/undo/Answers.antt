-- `pool_undo::undo` meets its contract: each column's part is put back. Assumes nothing.
use Rattle.pool_undo.proofs.Laws.{undone_eq}
use Rattle.pool_undo.proofs.undo.Goals as goal

pub returns : goal.returns
returns c = (
  undone_eq c.args.s c.args.old
      c.args.node.now c.args.start.now c.args.end.now c.args.id.now c.args.stamp.now c.args.touched.now c.args.write.now
      c.put.ensures c.put-2.ensures c.put-3.ensures c.put-4.ensures c.put-5.ensures c.put-6.ensures c.put-7.ensures,
  c.put-8.ensures,
)
