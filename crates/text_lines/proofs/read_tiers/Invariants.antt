-- `text_lines::read_tiers` fills at most nine places.
use Rattle.std.proofs.Common.{◌≤◌}
use Rattle.text_lines.proofs.read_tiers.Given as goal

abbrev pub invariant-loop-tier : goal.invariant-loop-tier
invariant-loop-tier l =
    (goal.iterator-loop-tier).can_next l.tier-iterator × (goal.iterator-loop-tier).is_finite l.tier-iterator × (l.n ≤ 9)
