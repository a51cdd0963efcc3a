-- `call_touch_span::touch_pools` meets its contract: the store's part of each pool is lent on, and what was laid into the part is laid into the pool. Assumes nothing.
use Prim.Native.Nat.{◌*◌}
use native.Mathlib.Nat.{add-sub_cancel_left}
use Rattle.shape_state.specs.Lent.{ranges_of}
use Rattle.pool_part.specs.Parts.{mid_ranges, back_ranges}
use Rattle.call_touch_span.proofs.Laws.{pool_one, pool_two, pool_three, pool_touched}
use Rattle.call_touch_span.proofs.touch_pools.Goals as goal

pub touch_part-requires : goal.touch_part-requires
unfolding mid_ranges
touch_part-requires c = let s = c.args.s in
    record { n_bound = pool_one c.requires _ (add-sub_cancel_left (128 * s) 128); start_lt_end = pool_two c.requires _ (add-sub_cancel_left (256 * s) 256); touch_fits = pool_three c.requires _ (add-sub_cancel_left (128 * s) 128) }

pub returns : goal.returns
unfolding mid_ranges back_ranges
returns c = let s = c.args.s in
    let k = c.touch_part in
    pool_touched c.requires {q = ranges_of k.new.node k.new.start k.new.end k.new.id k.new.stamp k.new.touched k.new.write} {ms₂ = k.new.marks} {r = k.result}
    c.args.time c.args.counted _ _ (add-sub_cancel_left (128 * s) 128) (add-sub_cancel_left (256 * s) 256) k.ensures
