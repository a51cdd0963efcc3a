-- `rule_bring::bring_part` meets its contract: the part is filled, then trimmed, and the laws of `PartReady` make the two results one.
use Rattle.std.proofs.Common.{rules}
use Rattle.model.specs.Store.{pins}
use Rattle.pool_range.specs.Lent.{lent}
use Rattle.pool_out.specs.Outs.{listed}
use Rattle.rule_choose.specs.Choose.{counted}
use Rattle.rule_bring.proofs.Laws.{part-ready, part-given, came_back}
use Rattle.rule_bring.proofs.bring_part.Goals as goal

pub store_trim_capacity-requires-clause-ready : goal.store_trim_capacity-requires-clause-ready
store_trim_capacity-requires-clause-ready c = let f = c.fill-records in
    part-ready c.requires.part_ready {c₁ = lent f.new.ranges} f.ensures.count f.ensures.columns

pub returns-clause-brought : goal.returns-clause-brought
returns-clause-brought c = let a = c.args in
    let f = c.fill-records in
    let t = c.store_trim_capacity in
    λ count.
    came_back (search rules)
    (part-given c.requires.part_ready {c₁ = lent f.new.ranges} f.ensures.count f.ensures.columns (pins (counted a.pins count) 0 a.m) a.capacity
    {c₂ = lent t.new.ranges} {l₂ = listed t.new.outs} {v₀ = a.version} (t.ensures.trimmed count))
