-- `rule_grow::add_leaf` meets its contract: a store for each column, the words by `put_words`.
use Rattle.rule_grow.proofs.Laws.{leaf_is}
use Rattle.rule_grow.proofs.add_leaf.Goals as goal

pub returns : goal.returns
returns c = let a = c.args in
    leaf_is a.parent.now a.depth.now a.len.now a.run.now a.words.now c.put_words.new.words a.hashes.now a.nodes
    a.used a.p a.from c.put_words.ensures
