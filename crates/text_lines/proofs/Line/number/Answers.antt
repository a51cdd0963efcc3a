-- `text_lines::Line::number` goes past a word that is not empty, or stays.
use Rattle.std.proofs.Common.{sym, ◌∙◌}
use Rattle.text_lines.proofs.Laws.{number_some, passed}
use Rattle.text_lines.proofs.Line.number.Goals as goal

pub returns : goal.returns
returns c = passed _ _ _ c.word.ensures.next c.word.ensures.shorter (number_some _ _ _ c.read_number.ensures (sym c.ok.ensures.value ∙ c.in_ok-n.was))
