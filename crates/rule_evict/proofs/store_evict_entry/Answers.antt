-- `rule_evict::store_evict_entry` meets its contract: each of its calls answers one part.
use Rattle.std.proofs.Common.{rules, refl, sym, ap, ◌∙◌, ◌-◌, min, length, arith}
use Rattle.model.specs.State.{Ranges, Range, at, range_at}
use Rattle.model.specs.Store.{ranges, unmark}
use Rattle.rule_resolve.specs.Span.{only_depth}
use Rattle.pool_range.specs.Lent.{lent}
use Rattle.rule_evict.specs.Evict.{tail_of, told_of}
use Rattle.rule_evict.proofs.Laws.{cols-room}
use Rattle.rule_evict.proofs.store_evict_entry.Goals as goal

pub unmark-requires : goal.unmark-requires
unmark-requires c = let k = c.evict_at-left in
    let room = cols-room _ _ _ _ (lent c.args.ranges.now) (lent k.new.ranges) k.ensures.columns c.requires.i_lt_n.0 (omega (arith, c.requires.i_lt_n.2.node)) in
    (omega (arith, room, ap (λ (t : Ranges). length t.node) c.view-2.ensures), search rules)

pub returns-clause-gone : goal.returns-clause-gone
returns-clause-gone c = let a = c.args in
    let k = c.evict_at-left in
    let e = c.at-r.ensures ∙ ap (λ (t : Ranges). range_at t a.i) c.view.ensures in
    record {
      taken = c.min-taken.ensures ∙ ap (λ (q : Range). min (q.end - q.start) a.excess) e;
      cols = k.ensures.columns;
      marks =
          c.unmark.ensures (lent k.new.ranges) (sym (ap (λ (t : Ranges). t.node) c.view-2.ensures))
          ∙ ap (λ (q : Range). unmark q.node (ranges (lent k.new.ranges) 0 k.result) a.marks.now) e;
      version = refl;
      out =
          c.told-out.ensures
          ∙ ap (told_of (only_depth a.depth.now) a.bytes.now _ _) c.tail.ensures
          ∙ ap (λ (q : Range). told_of (only_depth a.depth.now) a.bytes.now (at a.marks.now q.node) q.write (tail_of q.node q.end c.min-taken.result)) e;
    }
