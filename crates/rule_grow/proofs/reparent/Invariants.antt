use mathlib.Core.List.{map}
use lib.ListN.{take}
use Rattle.model.specs.Insert.{adopt}
use Rattle.rule_grow.proofs.Laws.{Done}
use Rattle.rule_grow.proofs.reparent.Given as goal

abbrev pub invariant-loop-p : goal.invariant-loop-p
invariant-loop-p l = Done l.initial.p-items l.p-items (map (adopt l.j l.m) (take l.p-index l.initial.p-items)) l.p-index
