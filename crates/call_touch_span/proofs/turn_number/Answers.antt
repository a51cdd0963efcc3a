-- `call_touch_span::turn_number` meets its contract: the needs are those of the store's part, and the test gives their number. Assumes nothing.
use native.Mathlib.Nat.{add-sub_cancel_left}
use Prim.Native.Nat.{◌*◌}
use Rattle.call_touch_span.proofs.Laws.{ordered_part, needs-part}
use Rattle.call_touch_span.proofs.turn_number.Goals as goal

pub touch_need-w-requires : goal.touch_need-w-requires
touch_need-w-requires c = let r = c.args.ranges in
    ordered_part c.args.s _ r.node.now r.start.now r.end.now _ (add-sub_cancel_left (128 * c.args.s) 128) c.requires.placed.0

pub returns : goal.returns
returns c = let r = c.args.ranges in
    record {
      needs = c.touch_need-w.result;
      are = needs-part c.args.s _ r.node.now r.start.now r.end.now _ (add-sub_cancel_left (128 * c.args.s) 128) _ _ _ c.touch_need-w.ensures;
      number = c.need_number.ensures;
    }
