-- `text_lines::Line::time` goes past a word that is not empty, or stays.
use Rattle.std.proofs.Common.{sym, ◌∙◌}
use Rattle.text_lines.proofs.Laws.{time_some, passed}
use Rattle.text_lines.proofs.Line.time.Goals as goal

pub returns : goal.returns
returns c = passed _ _ _ c.word.ensures.next c.word.ensures.shorter (time_some _ _ (sym c.in_ok-t.was ∙ c.read_time.ensures))
