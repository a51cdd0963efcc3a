-- `rule_grow::put_words` meets its contract: they are copied as one.
use Rattle.rule_grow.proofs.Laws.{words-are}
use Rattle.rule_grow.proofs.put_words.Goals as goal

pub returns : goal.returns
returns c = let a = c.args in
    words-are a.used a.from a.hashes.now a.words.now _ c.requires.0 c.copy_over.ensures
