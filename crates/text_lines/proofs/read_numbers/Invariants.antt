-- `text_lines::read_numbers` counts at most 1026, and each turn goes past a word.
use Rattle.std.proofs.Common.{◌≤◌, length}
use Rattle.text_lines.proofs.read_numbers.Given as goal

abbrev pub invariant-loop-line : goal.invariant-loop-line
invariant-loop-line l = l.n ≤ 1026

abbrev pub decreases-loop-line : goal.decreases-loop-line
decreases-loop-line l = length l.line.rest.now
