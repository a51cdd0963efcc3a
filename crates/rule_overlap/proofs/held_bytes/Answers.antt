-- `rule_overlap::held_bytes` meets its contract: the sum so far and that of the records to come are the whole, and each part is at most 2^48.
use Rattle.std.proofs.Common.{◌≤◌, refl, arith}
use Rattle.model.specs.Sizes.{max_bytes}
use Rattle.pool_range.specs.Lent.{seen}
use Rattle.rule_overlap.proofs.Laws.{sum-start, sum-turn, sum-end, bytes_small, min_most}
use Rattle.rule_overlap.proofs.held_bytes.Goals as goal

pub loop-i-init : goal.loop-i-init
loop-i-init c = λ d a z. sum-start _ _ _ _ _ _

pub overflow_add-sum : goal.overflow_add-sum
overflow_add-sum c =
    let s = c.loop-i.invariant (seen c.args.ranges) refl refl in
    let read = rw (c.max.ensures, c.min.ensures) at c.span_bytes-sum.ensures in
    let few : c.span_bytes-sum.result ≤ max_bytes = rw read (bytes_small _ _ _ _ _ c.requires.lo_le_hi.4 (min_most _ _)) in
    omega (arith, s.small, few)

pub loop-i-preserved : goal.loop-i-preserved
loop-i-preserved c = λ d a z.
    let read = rw (c.max.ensures, c.min.ensures) at c.span_bytes-sum.ensures in
    sum-turn _ _ _ _ _ _ _ _ _ (c.loop-i.invariant d a z) c.loop-i-test.true (rw (a, z) read) (rw read (bytes_small _ _ _ _ _ c.requires.lo_le_hi.4 (min_most _ _)))

pub returns : goal.returns
returns c = λ d a z. sum-end _ _ _ _ _ _ _ _ (c.loop-i.invariant d a z) c.loop-i-test.false
