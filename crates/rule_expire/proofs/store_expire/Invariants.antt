use Rattle.pool_range.specs.Lent.{lent, SameColumns}
use Rattle.pool_out.specs.Outs.{listed, SameOuts}
use Rattle.rule_expire.proofs.Laws.{Expiring}
use Rattle.rule_expire.proofs.store_expire.Given as goal

abbrev pub invariant-loop-i : goal.invariant-loop-i
invariant-loop-i l = SameColumns l.initial.ranges l.ranges
    × SameOuts l.initial.outs l.outs
    × Expiring l.depth l.bytes l.time l.seconds l.n l.version (lent l.initial.ranges) l.initial.marks (listed l.initial.outs) l.e.n (lent l.ranges) l.marks (listed l.outs) l.e.held l.e.outs l.e.version

abbrev pub decreases-loop-i : goal.decreases-loop-i
decreases-loop-i l = l.e.n
