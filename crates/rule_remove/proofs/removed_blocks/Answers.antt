-- `rule_remove::removed_blocks` meets its contract: the blocks so far and those to come are the whole, at most 1,024 of each record.
use native.Mathlib.Omega.{arith}
use lib.ListN.{get_or}
use Rattle.rule_overlap.proofs.Laws.{min_most}
use Rattle.rule_remove.proofs.Laws.{count_turn, count-end}
use Rattle.rule_remove.proofs.removed_blocks.Goals as goal

pub loop-i-preserved : goal.loop-i-preserved
loop-i-preserved c =
    count_turn _ _ _ _ _ _ _ c.loop-i.invariant c.loop-i-test.true (rw (c.max-from.ensures, c.min-upto.ensures))
    (omega (arith, c.requires.lo_le_hi.4, c.min-upto.ensures, min_most c.args.sp.end (get_or c.args.ranges.end.now c.loop-i.i 0)))

pub returns : goal.returns
returns c = count-end _ _ _ _ _ _ c.loop-i.invariant c.loop-i-test.false
