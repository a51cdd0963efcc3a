-- `text_lines::split_at_stores` stays inside the line, and each turn goes past a word.
use Rattle.std.proofs.Common.{◌≤◌, length}
use Rattle.text_lines.proofs.split_at_stores.Given as goal

abbrev pub invariant-loop-after : goal.invariant-loop-after
invariant-loop-after l = length l.after.rest.now ≤ length l.line.rest.now

abbrev pub decreases-loop-after : goal.decreases-loop-after
decreases-loop-after l = length l.after.rest.now
