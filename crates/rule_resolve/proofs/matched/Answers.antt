-- `rule_resolve::matched` meets its contract: the halving goes as the definition goes, with turns enough for what is left between lo and hi.
use native.Mathlib.Omega.{arith}
use borrow.Author.Tests.{eq-eqb, ne_eqb}
use Rattle.rule_resolve.proofs.Laws.{match-whole, halve-start, halve_up, halve-down, halve-end, matched-is}
use Rattle.rule_resolve.proofs.matched.Goals as goal

pub returns-then-hashes-pos-clause-by_index : goal.returns-then-hashes-pos-clause-by_index
returns-then-hashes-pos-clause-by_index c = λ parent depth nodes used. matched-is _ _ _ _ _ _ c.min-c.ensures (match-whole _ (eq-eqb _ _ c.if-hashes-pos.true))

pub loop-hi-init : goal.loop-hi-init
loop-hi-init c = halve-start _ (omega arith) (ne_eqb _ _ c.if-hashes-pos.false)

pub loop-hi-preserved-then-hashes-pos-2 : goal.loop-hi-preserved-then-hashes-pos-2
loop-hi-preserved-then-hashes-pos-2 c = halve_up _ c.loop-hi.invariant (omega arith) (eq-eqb _ _ c.if-hashes-pos-2.true)

pub loop-hi-preserved : goal.loop-hi-preserved
loop-hi-preserved c = halve-down _ c.loop-hi.invariant (omega arith) (ne_eqb _ _ c.if-hashes-pos-2.false)

pub returns-clause-by_index : goal.returns-clause-by_index
returns-clause-by_index c = λ parent depth nodes used. matched-is _ _ _ _ _ _ c.min-c.ensures (halve-end _ c.loop-hi.invariant (omega arith))
