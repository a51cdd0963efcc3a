-- `call_cut::cut_pins` meets its contract: the part is lent on, and what was laid into the part is laid into the pool.
use native.Mathlib.Nat.{add-sub_cancel_left}
use Prim.Native.Nat.{◌*◌}
use Rattle.shape_state.specs.Lent.{pins_of}
use Rattle.pool_part.specs.Parts.{mid_pins, back_pins}
use Rattle.call_cut.proofs.Stores.{pins-asked, pins-given}
use Rattle.call_cut.proofs.cut_pins.Goals as goal

pub cut_pin_part-requires : goal.cut_pin_part-requires
unfolding mid_pins
cut_pin_part-requires c = let a = c.args in
    let p = c.requires in
    pins-asked a.s _ a.n a.j a.k (pins_of a.node.now a.start.now a.end.now a.count.now) (add-sub_cancel_left (32 * a.s) 32) p.0 p.1 p.2
    p.3

pub returns : goal.returns
unfolding mid_pins back_pins
returns c = let a = c.args in
    let k = c.cut_pin_part in
    pins-given a.s _ a.n a.j a.k a.m k.result (pins_of a.node.now a.start.now a.end.now a.count.now)
    (pins_of k.new.node k.new.start k.new.end k.new.count) (add-sub_cancel_left (32 * a.s) 32) c.requires.1 (k.ensures.columns, k.ensures.entries)
