-- `rule_fill::place_for` meets its contract: the records passed so far stand before the range, by the laws of `Passing`.
use Rattle.std.proofs.Common.{arith}
use Rattle.rule_fill.proofs.Missing.{passing_start, passing_here, passing_turn, passing_end}
use Rattle.rule_fill.proofs.place_for.Goals as goal

pub loop-i-init : goal.loop-i-init
loop-i-init c = λ d v a. passing_start _ _ _ _

pub returns-then-goes_before : goal.returns-then-goes_before
returns-then-goes_before c = (omega arith, λ d v a. passing_here (c.loop-i.invariant d v a) c.loop-i-test.true (rw (v, a) c.if-goes_before.ensures))

pub loop-i-preserved : goal.loop-i-preserved
loop-i-preserved c = λ d v a. passing_turn (c.loop-i.invariant d v a) c.loop-i-test.true (rw (v, a) c.if-goes_before.ensures)

pub returns : goal.returns
returns c = (omega arith, λ d v a. passing_end (c.loop-i.invariant d v a) (omega arith))
