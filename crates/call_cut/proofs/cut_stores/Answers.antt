-- `call_cut::cut_stores` meets its contract. The loop's invariant is `Turning`: what is left to cut gives what was to be cut.
-- Assumes nothing.
use native.Mathlib.Omega.{arith}
use Rattle.shape_state.specs.Lent.{ranges_of, pins_of}
use Rattle.call_cut.proofs.Laws.{stores-long, turning_start, turning_asks, turning_turn, turning_end}
use Rattle.call_cut.proofs.cut_stores.Goals as goal

pub bounds-books-2 : goal.bounds-books-2
bounds-books-2 c = let a = c.args in
    omega (
      arith,
      stores-long a.j a.k a.m (ranges_of a.node.now a.start.now a.end.now a.id.now a.stamp.now a.touched.now a.write.now)
          (pins_of a.pin_node.now a.pin_start.now a.pin_end.now a.pin_count.now) a.marks.now a.books.now c.requires,
    )

pub loop-s-init : goal.loop-s-init
loop-s-init c = let a = c.args in
    turning_start a.j a.k a.m (ranges_of a.node.now a.start.now a.end.now a.id.now a.stamp.now a.touched.now a.write.now)
    (pins_of a.pin_node.now a.pin_start.now a.pin_end.now a.pin_count.now) a.marks.now a.books.now

pub cut_store-requires : goal.cut_store-requires
cut_store-requires c = let a = c.args in
    let l = c.loop-s in
    turning_asks a.j a.k a.m (ranges_of a.node.now a.start.now a.end.now a.id.now a.stamp.now a.touched.now a.write.now)
    (pins_of a.pin_node.now a.pin_start.now a.pin_end.now a.pin_count.now) a.marks.now a.books.now l.s
    (ranges_of l.node l.start l.end l.id l.stamp l.touched l.write) (pins_of l.pin_node l.pin_start l.pin_end l.pin_count) l.marks l.books
    l.invariant c.requires c.loop-s-test.true

pub loop-s-preserved : goal.loop-s-preserved
loop-s-preserved c = let a = c.args in
    let l = c.loop-s in
    let f = c.cut_store in
    turning_turn a.j a.k a.m (ranges_of a.node.now a.start.now a.end.now a.id.now a.stamp.now a.touched.now a.write.now)
    (pins_of a.pin_node.now a.pin_start.now a.pin_end.now a.pin_count.now) a.marks.now a.books.now l.s
    (ranges_of l.node l.start l.end l.id l.stamp l.touched l.write) (pins_of l.pin_node l.pin_start l.pin_end l.pin_count) l.marks l.books
    l.invariant
    (ranges_of f.new.node f.new.start f.new.end f.new.id f.new.stamp f.new.touched f.new.write)
    (pins_of f.new.pin_node f.new.pin_start f.new.pin_end f.new.pin_count) f.new.marks f.new.books
    c.loop-s-test.true f.ensures

pub returns : goal.returns
returns c = let a = c.args in
    let l = c.loop-s in
    turning_end a.j a.k a.m (ranges_of a.node.now a.start.now a.end.now a.id.now a.stamp.now a.touched.now a.write.now)
    (pins_of a.pin_node.now a.pin_start.now a.pin_end.now a.pin_count.now) a.marks.now a.books.now l.s
    (ranges_of l.node l.start l.end l.id l.stamp l.touched l.write) (pins_of l.pin_node l.pin_start l.pin_end l.pin_count) l.marks l.books
    l.invariant c.loop-s-test.false
