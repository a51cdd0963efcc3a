-- `rule_remove::list_writes` meets its contract: the writes listed so far and those to come are the whole.
use native.Mathlib.Omega.{arith}
use Rattle.pool_range.specs.Lent.{seen}
use Rattle.rule_remove.proofs.Laws.{some_to, none_to, list-end, part_at, part_end}
use Rattle.rule_remove.proofs.list_writes.Goals as goal
use Rattle.rule_remove.proofs.list_writes.Goals.{then-w-ne0, else-w-ne0}

pub loop-w-preserved : goal.loop-w-preserved
loop-w-preserved c =
    let v = c.loop-w.invariant in
    let p = part_at c.args.ranges.write.now c.args.lo c.args.hi _ c.loop-w-test.true in
    elim c.if-w-ne0.branch [
      | then-w-ne0 w ↦ some_to _ _ _ _ _ _ _ v p.0 _ _ _ _ c.requires.2 p.1 (omega arith) w.if-w-ne0.true w.list-is w.k-is
      | else-w-ne0 w ↦ none_to _ _ _ _ _ _ _ v p.0 _ _ _ _ p.1 (omega arith) w.if-w-ne0.false w.list-is w.k-is
    ]

pub returns-clause-list : goal.returns-clause-list
returns-clause-list c =
    (list-end (seen c.args.ranges) _ _ _ _ _ _ c.loop-w.invariant (part_end c.args.ranges.write.now _ _ _ c.requires.1 c.loop-w-test.false)).0

pub returns-clause-count : goal.returns-clause-count
returns-clause-count c =
    (list-end (seen c.args.ranges) _ _ _ _ _ _ c.loop-w.invariant (part_end c.args.ranges.write.now _ _ _ c.requires.1 c.loop-w-test.false)).1
