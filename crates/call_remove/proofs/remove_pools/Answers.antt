-- `call_remove::remove_pools` meets its contract: the store's part of each pool is lent on, and what was laid into the part is laid into the pool. Assumes nothing.
use Prim.Native.Nat.{◌*◌}
use native.Mathlib.Nat.{add-sub_cancel_left}
use Rattle.shape_state.specs.Lent.{ranges_of}
use Rattle.pool_part.specs.Parts.{mid_ranges, back_ranges}
use Rattle.call_remove.proofs.Laws.{pool_sized, pool_span, pool_fits, pool_freed}
use Rattle.call_remove.proofs.remove_pools.Goals as goal

pub remove_part-requires : goal.remove_part-requires
unfolding mid_ranges
remove_part-requires c = let s = c.args.s in record { n_bound = pool_sized c.requires _ (add-sub_cancel_left (128 * s) 128); start_lt_end = pool_span c.requires _ (add-sub_cancel_left (256 * s) 256); remove_fits = pool_fits c.requires _ (add-sub_cancel_left (128 * s) 128) }

pub returns : goal.returns
unfolding mid_ranges back_ranges
returns c = let s = c.args.s in
    let k = c.remove_part in
    λ x e d.
    pool_freed c.requires c.args.next x {q = ranges_of k.new.node k.new.start k.new.end k.new.id k.new.stamp k.new.touched k.new.write} {ms₂ = k.new.marks} {ls₂ = k.new.list} {r = k.result} _ _ (add-sub_cancel_left (128 * s) 128) (add-sub_cancel_left (256 * s) 256) k.auto.marks k.ensures e d
