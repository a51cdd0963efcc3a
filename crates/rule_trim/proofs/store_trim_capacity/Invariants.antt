use Rattle.std.proofs.Common.{◌≡◌, ℕ, List, false}
use Rattle.model.specs.Store.{pins}
use Rattle.pool_range.specs.Lent.{lent, SameColumns}
use Rattle.pool_out.specs.Outs.{listed, SameOuts}
use Rattle.rule_choose.specs.Choose.{counted}
use Rattle.rule_trim.proofs.Trim.{Trimming}
use Rattle.rule_trim.proofs.store_trim_capacity.Given as goal

abbrev pub invariant-loop-t : goal.invariant-loop-t
invariant-loop-t l = SameColumns l.initial.ranges l.ranges
    × SameOuts l.initial.outs l.outs
    × (l.t.stalled ≡ false)
    × ((count : List ℕ)
    → Trimming l.depth l.bytes (pins (counted l.pins count) 0 l.m) l.capacity l.n l.version (lent l.initial.ranges) l.initial.marks (listed l.initial.outs) l.t.n (lent l.ranges) l.marks (listed l.outs) l.t.held l.t.outs l.t.version)

abbrev pub decreases-loop-t : goal.decreases-loop-t
decreases-loop-t l = l.t.held
