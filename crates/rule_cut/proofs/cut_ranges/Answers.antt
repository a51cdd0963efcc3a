-- `rule_cut::cut_ranges` meets its contract, by the law of `Cutting`. Assumes nothing.
use borrow.Author.Rules.{rules}
use Rattle.pool_range.specs.Lent.{lent}
use Rattle.rule_cut.proofs.Steps.{cut-start, cut-few, cut-sized, cut-end, cut-room, cut-top, cut-id, cut-turn}
use Rattle.rule_cut.proofs.cut_ranges.Goals as goal

pub loop-s-init : goal.loop-s-init
loop-s-init c = let a = c.args in
    record { same = search rules; cutting = cut-start a.j a.k a.m a.next a.n (lent a.ranges.now) c.requires.0 c.requires.2 }

pub cut_next-s-requires : goal.cut_next-s-requires
cut_next-s-requires c =
    let a = c.args in
    let old = lent a.ranges.now in
    let now = lent c.loop-s.ranges in
    let s = c.loop-s.s in
    let o = c.loop-s.invariant.cutting in
    let more = c.loop-s-test.true in (
      more,
      cut-top a.j a.k a.m a.next a.n old now s c.requires.0 c.requires.2 o more,
      cut-few a.j a.k a.m a.next a.n old now s c.requires.0 c.requires.2 o,
      cut-room a.j a.k a.m a.next a.n old now s c.requires.0 c.requires.2 o more,
      cut-id a.j a.k a.m a.next a.n old now s c.requires.0 c.requires.2 o more c.requires.1,
      cut-sized a.j a.k a.m a.next a.n old now s c.requires.0 c.requires.2 o,
    )

pub loop-s-preserved : goal.loop-s-preserved
loop-s-preserved c =
    let a = c.args in
    let e = c.cut_next-s.ensures in
    record {
      same = search rules;
      cutting =
          cut-turn a.j a.k a.m a.next a.n (lent a.ranges.now) (lent c.loop-s.ranges) c.loop-s.s c.requires.0 c.requires.2 c.loop-s.invariant.cutting c.loop-s-test.true
          _ _ (e.columns, e.progress);
    }

pub returns-clause-columns : goal.returns-clause-columns
returns-clause-columns c = let a = c.args in
    (cut-end a.j a.k a.m a.next a.n (lent a.ranges.now) (lent c.loop-s.ranges) c.loop-s.s c.requires.0 c.requires.2 c.loop-s.invariant.cutting c.loop-s-test.false).0

pub returns-clause-count : goal.returns-clause-count
returns-clause-count c = let a = c.args in
    (cut-end a.j a.k a.m a.next a.n (lent a.ranges.now) (lent c.loop-s.ranges) c.loop-s.s c.requires.0 c.requires.2 c.loop-s.invariant.cutting c.loop-s-test.false).1

pub returns-clause-ids : goal.returns-clause-ids
returns-clause-ids c = let a = c.args in
    (cut-end a.j a.k a.m a.next a.n (lent a.ranges.now) (lent c.loop-s.ranges) c.loop-s.s c.requires.0 c.requires.2 c.loop-s.invariant.cutting c.loop-s-test.false).2
