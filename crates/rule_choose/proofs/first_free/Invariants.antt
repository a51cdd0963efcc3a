use Rattle.std.proofs.Common.{◌≡◌, ℕ, List, not}
use Rattle.model.specs.State.{Ranges}
use Rattle.model.specs.Store.{pins}
use Rattle.model.specs.Trim.{is_pinned}
use Rattle.rule_choose.specs.Choose.{counted}
use Rattle.rule_choose.proofs.Laws.{Best}
use Rattle.rule_choose.proofs.first_free.Given as goal

abbrev pub invariant-loop-i : goal.invariant-loop-i
invariant-loop-i l = (d : Ranges) → d.node ≡ l.ranges.node.now → d.start ≡ l.ranges.start.now → d.end ≡ l.ranges.end.now
    → d.id ≡ l.ranges.id.now → d.stamp ≡ l.ranges.stamp.now → (count : List ℕ)
    → Best (λ q. not (is_pinned (pins (counted l.pins count) 0 l.m) q)) d l.n l.i l.best
