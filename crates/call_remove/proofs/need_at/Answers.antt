-- `call_remove::need_at` meets its contract: the store's part of each column is lent on. Assumes nothing.
use Prim.Native.Nat.{◌*◌}
use native.Mathlib.Nat.{add-sub_cancel_left}
use Rattle.call_remove.proofs.Laws.{ordered_part, needs-part}
use Rattle.call_remove.proofs.need_at.Goals as goal

pub remove_need-requires : goal.remove_need-requires
remove_need-requires c = ordered_part c.args.s _ c.args.ranges.node.now c.args.ranges.start.now c.args.ranges.end.now _ (add-sub_cancel_left (128 * c.args.s) 128) c.requires.0

pub returns : goal.returns
returns c =
    needs-part c.args.s _ c.args.ranges.node.now c.args.ranges.start.now c.args.ranges.end.now _ (add-sub_cancel_left (128 * c.args.s) 128) _ _ c.remove_need.ensures
