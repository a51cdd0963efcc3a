-- `text_words::read_digits` meets its contract: what is left to read, after the number so far, gives what was to be read.
use Rattle.text_words.proofs.Laws.{reads-turn, reads_end}
use Rattle.text_words.proofs.read_digits.Goals as goal

pub loop-b-preserved : goal.loop-b-preserved
loop-b-preserved c = λ o e. reads-turn _ _ _ _ _ o c.loop-b-test.true c.push-m.ensures (c.loop-b.invariant o e)

pub returns : goal.returns
returns c = λ o e. reads_end _ _ _ _ o c.loop-b-test.false (c.loop-b.invariant o e)
