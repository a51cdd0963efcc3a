-- `rule_fill::Gaps::blocks` meets its contract: the sum so far is that of the gaps so far, by the laws of `Summing`.
use Rattle.std.proofs.Common.{arith}
use Rattle.rule_fill.proofs.Laws.{gap-filled, sum-start, sum-turn, sum-end}
use Rattle.rule_fill.proofs.Gaps.blocks.Goals as goal

pub loop-i-init : goal.loop-i-init
loop-i-init c = sum-start _

pub overflow_sub-sum : goal.overflow_sub-sum
overflow_sub-sum c = let g = c.args.self.now in
    omega (arith, (gap-filled g.list g.n c.loop-i.i c.requires.1 c.loop-i-test.true).some)

pub overflow_add-sum : goal.overflow_add-sum
overflow_add-sum c = let g = c.args.self.now in
    omega (arith, (gap-filled g.list g.n c.loop-i.i c.requires.1 c.loop-i-test.true).high, c.loop-i.invariant.small)

pub loop-i-preserved : goal.loop-i-preserved
loop-i-preserved c = let g = c.args.self.now in
    sum-turn g.list _ c.loop-i.i c.loop-i.invariant (gap-filled g.list g.n c.loop-i.i c.requires.1 c.loop-i-test.true)

pub returns : goal.returns
returns c = sum-end _ _ _ _ c.loop-i.invariant c.loop-i.auto.i-end c.loop-i-test.false
