-- `call_insert::add_rest` meets its contract: the tree with its leaf, and the lists with its segment.
-- Assumes nothing.
use Rattle.model.specs.State.{nodes_in, used_in}
use Rattle.shape_state.specs.Lent.{tree_of}
use Rattle.shape_answer.specs.Lists.{path_list_of}
use Rattle.call_insert.proofs.Laws.{node-within, len-within, leafed}
use Rattle.call_insert.proofs.add_rest.Goals as goal

pub returns : goal.returns
returns c = λ ss split r p marks bytes found.
    let a = c.args in
    let f = c.add_leaf in
    let g = c.lay_longer in
    leafed ss split (tree_of a.parent.now a.depth.now a.len.now a.run.now a.words.now (nodes_in a.books.now) (used_in a.books.now))
    f.new.parent f.new.depth f.new.len f.new.run f.new.words r p marks bytes a.books.now c.put_counts.new.books a.hashes.now a.m
    (path_list_of a.path_node.now a.path_len.now) (path_list_of g.new.path_node g.new.path_len)
    (path_list_of a.found_node.now a.found_len.now) found f.ensures c.put_counts.ensures g.ensures
