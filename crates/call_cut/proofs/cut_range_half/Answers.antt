-- `call_cut::cut_range_half` meets its contract: what the two calls leave is put together by `half_is`.
use mathlib.Core.Path.{refl}
use Rattle.shape_state.specs.Lent.{ranges_of}
use Rattle.call_cut.proofs.Halves.{half_is}
use Rattle.call_cut.proofs.cut_range_half.Goals as goal

pub returns : goal.returns
returns c = let a = c.args in
    let f = c.cut_ranges-cut in
    let g = c.cut_marks in
    let new = ranges_of f.new.node f.new.start f.new.end f.new.id f.new.stamp f.new.touched f.new.write in
    half_is a.j a.k a.m a.s a.n a.next
    (ranges_of a.node.now a.start.now a.end.now a.id.now a.stamp.now a.touched.now a.write.now) a.marks.now c.requires
    new g.new.marks f.result f.ensures.0 f.ensures.1 f.ensures.2 (g.ensures new refl)
