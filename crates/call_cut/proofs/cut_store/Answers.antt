-- `call_cut::cut_store` meets its contract: what its calls leave is the cut of the store in the state, by `store_is`.
use Rattle.shape_state.specs.Lent.{ranges_of, pins_of}
use Rattle.call_cut.proofs.Halves.{store_is}
use Rattle.call_cut.proofs.cut_store.Goals as goal

pub returns : goal.returns
returns c = let a = c.args in
    let f = c.cut_range_half-cut in
    let g = c.cut_pins-entries in
    store_is a.j a.k a.m a.s (ranges_of a.node.now a.start.now a.end.now a.id.now a.stamp.now a.touched.now a.write.now)
    (pins_of a.pin_node.now a.pin_start.now a.pin_end.now a.pin_count.now) a.marks.now a.books.now c.requires
    c.book_of-b.result c.book_of-b.ensures
    (ranges_of f.new.node f.new.start f.new.end f.new.id f.new.stamp f.new.touched f.new.write)
    (pins_of g.new.node g.new.start g.new.end g.new.count) f.new.marks c.cut_books.new.books f.result g.result
    f.ensures g.ensures.0 g.ensures.1 c.cut_books.ensures
