use Rattle.std.proofs.Common.{◌≡◌, true}
use Rattle.model.specs.State.{Ranges}
use Rattle.rule_choose.proofs.Laws.{Best}
use Rattle.rule_choose.proofs.oldest.Given as goal

abbrev pub invariant-loop-i : goal.invariant-loop-i
invariant-loop-i l = (d : Ranges) → d.id ≡ l.ranges.id.now → d.stamp ≡ l.ranges.stamp.now → Best (λ q. true) d l.n l.i l.best
