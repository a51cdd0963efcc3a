-- `rule_cut_pins::Entries::lay` meets its contract: each column is laid, and the four are the entries. Assumes nothing.
use Rattle.std.proofs.Common.{rules, refl}
use native.Mathlib.Omega.{arith}
use Rattle.pool_pin.specs.Columns.{lent}
use Rattle.rule_cut_pins.specs.Entries.{pin_from, pins_in}
use Rattle.rule_cut_pins.proofs.Written.{write-start, write-turn, write-end, entry-at, column, laid-is, all-few}
use Rattle.rule_cut_pins.proofs.Entries.lay.Goals as goal

pub loop-i-init : goal.loop-i-init
loop-i-init c = let p = c.args.part.now in
    let ps = pins_in c.args.self.now in
    record {
      same = search rules;
      node = write-start p.node.now (column (λ q. q.node) ps) c.args.k (omega arith);
      start = write-start p.start.now (column (λ q. q.start) ps) c.args.k (omega arith);
      end = write-start p.end.now (column (λ q. q.end) ps) c.args.k (omega arith);
      count = write-start p.count.now (column (λ q. q.count) ps) c.args.k (omega arith);
    }

pub loop-i-preserved : goal.loop-i-preserved
loop-i-preserved c =
    let p = c.args.part.now in
    let s = c.args.self.now in
    let ps = pins_in s in
    let o = c.loop-i.invariant in
    let k = c.args.k in
    let i = c.loop-i.i in
    let q = pin_from c.at-e.result in
    let low = c.loop-i-test.true in
    record {
      same = search rules;
      node = write-turn p.node.now (column (λ q. q.node) ps) k (all-few (λ q. q.node) s k c.requires.0) q.node o.node low (entry-at (λ q. q.node) ps i q refl c.at-e.ensures);
      start = write-turn p.start.now (column (λ q. q.start) ps) k (all-few (λ q. q.start) s k c.requires.0) q.start o.start low (entry-at (λ q. q.start) ps i q refl c.at-e.ensures);
      end = write-turn p.end.now (column (λ q. q.end) ps) k (all-few (λ q. q.end) s k c.requires.0) q.end o.end low (entry-at (λ q. q.end) ps i q refl c.at-e.ensures);
      count = write-turn p.count.now (column (λ q. q.count) ps) k (all-few (λ q. q.count) s k c.requires.0) q.count o.count low (entry-at (λ q. q.count) ps i q refl c.at-e.ensures);
    }

pub returns-clause-columns : goal.returns-clause-columns
returns-clause-columns c =
    let p = c.args.part.now in
    let s = c.args.self.now in
    let ps = pins_in s in
    let o = c.loop-i.invariant in
    let k = c.args.k in
    laid-is ps k (lent p) _ _ _ _
    (write-end p.node.now (column (λ q. q.node) ps) k (all-few (λ q. q.node) s k c.requires.0) o.node c.loop-i-test.false)
    (write-end p.start.now (column (λ q. q.start) ps) k (all-few (λ q. q.start) s k c.requires.0) o.start c.loop-i-test.false)
    (write-end p.end.now (column (λ q. q.end) ps) k (all-few (λ q. q.end) s k c.requires.0) o.end c.loop-i-test.false)
    (write-end p.count.now (column (λ q. q.count) ps) k (all-few (λ q. q.count) s k c.requires.0) o.count c.loop-i-test.false)
