-- `rule_fill::Gaps::add` meets its contract: a case for each branch.
use Rattle.std.proofs.Common.{arith}
use Rattle.rule_fill.proofs.Missing.{added, not_added, counts, counts_not}
use Rattle.rule_fill.proofs.Gaps.add.Goals as goal

pub returns-then-from-upto-clause-gaps : goal.returns-then-from-upto-clause-gaps
returns-then-from-upto-clause-gaps c = added _ _ _ _ (omega arith) c.if-from-upto.true
