-- `call_cut::cut_marks` meets its contract: the parts of both columns are lent on.
use native.Mathlib.Nat.{add-sub_cancel_left}
use Prim.Native.Nat.{◌*◌}
use Rattle.call_cut.proofs.Stores.{marks-part}
use Rattle.call_cut.proofs.cut_marks.Goals as goal

pub returns : goal.returns
returns c ranges same = let p = c.requires in
    let k = c.cut_marks in
    marks-part c.args.s _ _ c.args.n c.args.j c.args.k c.args.m ranges c.args.node.now c.args.marks.now k.new.marks
    (add-sub_cancel_left (128 * c.args.s) 128) (add-sub_cancel_left (256 * c.args.s) 256) p.0 p.1 p.4 k.ensures same
