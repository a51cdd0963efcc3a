-- `call_expire::expire_pools` meets its contract: the store's part of each pool is lent on, and what was laid into the part is laid into the pool.
use Rattle.std.proofs.Common.{◌*◌}
use native.Mathlib.Nat.{add-sub_cancel_left}
use Rattle.shape_state.specs.Lent.{ranges_of}
use Rattle.pool_out.specs.Outs.{listed}
use Rattle.pool_part.specs.Parts.{mid_ranges, back_ranges}
use Rattle.call_expire.proofs.Laws.{pool_part, pool_given}
use Rattle.call_expire.proofs.expire_pools.Goals as goal

pub expire_part-requires : goal.expire_part-requires
unfolding mid_ranges
expire_part-requires c = let s = c.args.s in
    pool_part c.requires _ _ (add-sub_cancel_left (128 * s) 128) (add-sub_cancel_left (256 * s) 256)

pub returns-clause-expired : goal.returns-clause-expired
unfolding mid_ranges back_ranges
returns-clause-expired c = let s = c.args.s in
    let k = c.expire_part in
    pool_given c.requires {q = ranges_of k.new.node k.new.start k.new.end k.new.id k.new.stamp k.new.touched k.new.write} {ms₂ = k.new.marks} {l₂ = listed k.new.outs}
    {v₀ = c.args.version} c.args.time c.args.seconds _ _ (add-sub_cancel_left (128 * s) 128) (add-sub_cancel_left (256 * s) 256) k.auto.marks k.ensures.expired
