-- `call_cut::cut_all` meets its contract: the tree's half and the stores' half make the model's cut.
-- Assumes nothing.
use Rattle.model.specs.State.{nodes_in, used_in}
use Rattle.shape_state.specs.Lent.{tree_of, ranges_of, pins_of, state_of}
use Rattle.call_cut.proofs.Laws.{tree_asks, all-is}
use Rattle.call_cut.proofs.cut_all.Goals as goal

pub cut_tree-requires : goal.cut_tree-requires
cut_tree-requires c = let a = c.args in
    tree_asks a.j a.k
    (state_of (tree_of a.parent.now a.depth.now a.len.now a.run.now a.words.now (nodes_in a.books.now) (used_in a.books.now)) (ranges_of a.node.now a.start.now a.end.now a.id.now a.stamp.now a.touched.now a.write.now)
    (pins_of a.pin_node.now a.pin_start.now a.pin_end.now a.pin_count.now) a.marks.now a.bytes.now a.books.now) c.requires

pub returns : goal.returns
returns c = let a = c.args in
    let f = c.cut_tree in
    let g = c.cut_stores in
    all-is a.j a.k
    (tree_of a.parent.now a.depth.now a.len.now a.run.now a.words.now (nodes_in a.books.now) (used_in a.books.now))
    f.new.parent f.new.depth f.new.len f.new.run a.words.now
    (ranges_of a.node.now a.start.now a.end.now a.id.now a.stamp.now a.touched.now a.write.now)
    (ranges_of g.new.node g.new.start g.new.end g.new.id g.new.stamp g.new.touched g.new.write)
    (pins_of a.pin_node.now a.pin_start.now a.pin_end.now a.pin_count.now)
    (pins_of g.new.pin_node g.new.pin_start g.new.pin_end g.new.pin_count)
    a.marks.now g.new.marks a.bytes.now a.books.now c.put_counts.new.books g.new.books
    (f.ensures a.words.now (used_in a.books.now)) c.put_counts.ensures g.ensures
