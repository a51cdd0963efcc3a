-- `call_cut::cut_ranges` meets its contract: the part is lent on, and what was laid into the part is laid into the pool.
use Prim.Native.Nat.{◌*◌}
use Rattle.shape_state.specs.Lent.{ranges_of}
use Rattle.pool_part.specs.Parts.{mid_ranges, back_ranges}
use Rattle.call_cut.proofs.Stores.{asked, given_back, counted}
use native.Mathlib.Nat.{add-sub_cancel_left}
use Rattle.call_cut.proofs.cut_ranges.Goals as goal

pub cut_range_part-requires : goal.cut_range_part-requires
unfolding mid_ranges
cut_range_part-requires c = let p = c.requires in
    asked c.args.s _ c.args.n c.args.j c.args.k c.args.next (ranges_of c.args.node.now c.args.start.now c.args.end.now c.args.id.now c.args.stamp.now c.args.touched.now c.args.write.now) (add-sub_cancel_left (128 * c.args.s) 128) p.0 p.1 p.2 p.3

pub returns : goal.returns
unfolding mid_ranges back_ranges
returns c =
    let old = ranges_of c.args.node.now c.args.start.now c.args.end.now c.args.id.now c.args.stamp.now c.args.touched.now c.args.write.now in
    let k = c.cut_range_part in
    let p = c.requires in
    let q = ranges_of k.new.node k.new.start k.new.end k.new.id k.new.stamp k.new.touched k.new.write in (
      given_back c.args.s _ c.args.n c.args.j c.args.k c.args.m c.args.next old q (add-sub_cancel_left (128 * c.args.s) 128) p.1 k.ensures.columns,
      counted c.args.s _ c.args.n c.args.j c.args.k old k.result.n c.args.n (add-sub_cancel_left (128 * c.args.s) 128) p.1 k.ensures.count,
      counted c.args.s _ c.args.n c.args.j c.args.k old k.result.next c.args.next (add-sub_cancel_left (128 * c.args.s) 128) p.1 k.ensures.ids,
    )
