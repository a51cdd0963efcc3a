-- `rule_bring::bring_pools` meets its contract: the store's part of each pool is lent on, and what was laid into the part is laid into the pool.
use Rattle.std.proofs.Common.{◌+◌, ◌-◌, ◌*◌}
use native.Mathlib.Nat.{add-sub_cancel_left}
use Rattle.shape_state.specs.Lent.{ranges_of}
use Rattle.pool_out.specs.Outs.{listed}
use Rattle.pool_part.specs.Parts.{mid, mid_ranges, back_ranges, mid_pins}
use Rattle.rule_bring.proofs.Laws.{pool_part, pool_given}
use Rattle.rule_bring.proofs.bring_pools.Goals as goal

pub bring_part-requires-clause-part_ready : goal.bring_part-requires-clause-part_ready
unfolding mid_ranges
bring_part-requires-clause-part_ready c = let s = c.args.s in pool_part c.requires _ _ (add-sub_cancel_left (128 * s) 128) (add-sub_cancel_left (256 * s) 256)

pub returns-clause-brought : goal.returns-clause-brought
unfolding mid_ranges back_ranges mid_pins
returns-clause-brought c = let s = c.args.s in
    let k = c.bring_part in
    λ count.
    pool_given c.requires {q = ranges_of k.new.node k.new.start k.new.end k.new.id k.new.stamp k.new.touched k.new.write}
    {ms₂ = k.new.marks} {l₂ = listed k.new.outs} {v₀ = c.args.version} count c.args.capacity _ _ _
    (add-sub_cancel_left (128 * s) 128) (add-sub_cancel_left (256 * s) 256) (add-sub_cancel_left (32 * s) 32) k.auto.marks (k.ensures.brought (mid (32 * s) ((32 * s + 32) - 32 * s) count))
