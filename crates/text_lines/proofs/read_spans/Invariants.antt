-- `text_lines::read_spans` counts at most 65, and each turn goes past a word.
use Rattle.std.proofs.Common.{◌≤◌, length}
use Rattle.text_lines.proofs.read_spans.Given as goal

abbrev pub invariant-loop-line : goal.invariant-loop-line
invariant-loop-line l = l.n ≤ 65

abbrev pub decreases-loop-line : goal.decreases-loop-line
decreases-loop-line l = length l.line.rest.now
