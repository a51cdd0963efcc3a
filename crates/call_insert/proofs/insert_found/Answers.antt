-- `call_insert::insert_found` meets its contract: nothing is new, or a leaf is added, or a node is cut and a leaf is added.
-- Assumes nothing.
use native.Mathlib.Omega.{arith}
use Rattle.std.specs.Prelude.{Some, None}
use Rattle.model.specs.State.{nodes_in, used_in}
use Rattle.model.specs.Tree.{resolve}
use Rattle.shape_state.specs.Lent.{tree_of, ranges_of, pins_of}
use Rattle.shape_answer.specs.Answers.{state_from}
use Rattle.shape_answer.specs.Lists.{path_list_of}
use Rattle.call_insert.proofs.Laws.{path_room, segs-few, segs_fit, node-small, node_in, nothing-new, leaf_asks, leaf_new, cut_asks, leaf_asks_cut, cut-new}
use Rattle.call_insert.proofs.insert_found.Goals as goal

pub lay_path-requires : goal.lay_path-requires
lay_path-requires c = path_room c.requires

pub returns-then-count-m : goal.returns-then-count-m
returns-then-count-m c = let f = c.lay_path in
    nothing-new c.requires (path_list_of f.new.path_node f.new.path_len) c.if-count-m.true f.ensures

pub offset_bounds-len-j : goal.offset_bounds-len-j
offset_bounds-len-j c = omega (arith, node-small c.requires c.if-count-m.false)

pub bounds-len-j : goal.bounds-len-j
bounds-len-j c = node_in c.requires c.if-count-m.false

pub add_rest-requires : goal.add_rest-requires
add_rest-requires c = ((resolve (tree_of c.args.parent.now c.args.depth.now c.args.len.now c.args.run.now c.args.words.now (nodes_in c.args.books.now) (used_in c.args.books.now)) c.args.hashes.now), leaf_asks c.requires c.if-count-m.false c.if-len-j.true)

pub returns-then-len-j : goal.returns-then-len-j
returns-then-len-j c = let a = c.args in
    let g = c.add_rest in
    leaf_new c.requires c.if-count-m.false c.if-len-j.true
    (state_from g.new.parent g.new.depth g.new.len g.new.run g.new.words a.node.now a.start.now a.end.now a.id.now a.stamp.now a.touched.now a.write.now a.pin_node.now a.pin_start.now a.pin_end.now a.pin_count.now a.marks.now a.bytes.now g.new.books)
    (path_list_of g.new.path_node g.new.path_len)
    (g.ensures (resolve (tree_of c.args.parent.now c.args.depth.now c.args.len.now c.args.run.now c.args.words.now (nodes_in c.args.books.now) (used_in c.args.books.now)) c.args.hashes.now) None (ranges_of a.node.now a.start.now a.end.now a.id.now a.stamp.now a.touched.now a.write.now) (pins_of a.pin_node.now a.pin_start.now a.pin_end.now a.pin_count.now) a.marks.now a.bytes.now c.requires.path)

pub cut_all-requires : goal.cut_all-requires
cut_all-requires c = cut_asks c.requires c.if-count-m.false c.if-len-j.false

pub add_rest-requires-2 : goal.add_rest-requires-2
add_rest-requires-2 c = let a = c.args in
    let f = c.cut_all in (
      (resolve (tree_of c.args.parent.now c.args.depth.now c.args.len.now c.args.run.now c.args.words.now (nodes_in c.args.books.now) (used_in c.args.books.now)) c.args.hashes.now),
      leaf_asks_cut c.requires c.if-count-m.false c.if-len-j.false
          (state_from f.new.parent f.new.depth f.new.len f.new.run a.words.now f.new.node f.new.start f.new.end f.new.id f.new.stamp f.new.touched f.new.write f.new.pin_node f.new.pin_start f.new.pin_end f.new.pin_count f.new.marks a.bytes.now f.new.books) f.ensures f.auto.books,
    )

pub returns : goal.returns
returns c = let a = c.args in
    let f = c.cut_all in
    let g = c.add_rest-2 in
    cut-new c.requires c.if-count-m.false c.if-len-j.false
    (state_from f.new.parent f.new.depth f.new.len f.new.run a.words.now f.new.node f.new.start f.new.end f.new.id f.new.stamp f.new.touched f.new.write f.new.pin_node f.new.pin_start f.new.pin_end f.new.pin_count f.new.marks a.bytes.now f.new.books) f.ensures
    (state_from g.new.parent g.new.depth g.new.len g.new.run g.new.words f.new.node f.new.start f.new.end f.new.id f.new.stamp f.new.touched f.new.write f.new.pin_node f.new.pin_start f.new.pin_end f.new.pin_count f.new.marks a.bytes.now g.new.books)
    (path_list_of g.new.path_node g.new.path_len)
    (g.ensures (resolve (tree_of c.args.parent.now c.args.depth.now c.args.len.now c.args.run.now c.args.words.now (nodes_in c.args.books.now) (used_in c.args.books.now)) c.args.hashes.now) (Some (record { node = a.m.node; at = a.m.len; new = nodes_in a.books.now }))
    (ranges_of f.new.node f.new.start f.new.end f.new.id f.new.stamp f.new.touched f.new.write) (pins_of f.new.pin_node f.new.pin_start f.new.pin_end f.new.pin_count) f.new.marks a.bytes.now c.requires.path)
