-- `rule_fill::fill` meets its contract: the gaps filled so far and those that are left give the whole fill, by the laws of `Filling`.
use Rattle.std.proofs.Common.{rules, ap, sym, ◌+◌, arith}
use Rattle.pool_range.specs.Lent.{lent}
use Rattle.pool_range.specs.Part.{range_of}
use Rattle.rule_fill.proofs.Missing.{gaps_length}
use Rattle.rule_fill.proofs.Laws.{room-new, room-place, fill_start, fill-turn, fill_end}
use Rattle.rule_fill.proofs.fill.Goals as goal

pub loop-i-init : goal.loop-i-init
loop-i-init c = (search rules, fill_start _ _ _ _ _ _ _ _ _ c.requires.0.records c.requires.1)

pub loop-i-preserved : goal.loop-i-preserved
loop-i-preserved c = let a = c.args in (
  search rules,
  fill-turn _ _ _ _ _ _ _ _ _ c.requires.0.records c.requires.1 _ _ c.loop-i.invariant.1 (range_of c.record.result) (lent c.put_new.new.ranges) (omega arith) c.record.ensures c.put_new.ensures.columns,
)

pub returns-clause-count : goal.returns-clause-count
returns-clause-count c = ap (λ t. c.args.n + t) (sym (gaps_length c.args.gaps.now.list c.args.gaps.now.n))

pub returns-clause-columns : goal.returns-clause-columns
returns-clause-columns c = fill_end _ _ _ _ _ _ _ _ _ c.requires.0.records c.requires.1 _ _ c.loop-i.invariant.1 c.loop-i.auto.i-end c.loop-i-test.false
