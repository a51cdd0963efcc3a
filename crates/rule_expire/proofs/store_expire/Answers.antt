-- `rule_expire::store_expire` meets its contract, by the laws of `Expiring`.
use Rattle.std.proofs.Common.{rules, sym, subst, arith}
use Rattle.model.specs.Sizes.{store_records}
use Rattle.pool_range.specs.Lent.{lent}
use Rattle.pool_range.specs.Part.{Sized}
use Rattle.pool_out.specs.Outs.{listed}
use Rattle.pool_range.proofs.Records.{within}
use Rattle.rule_trim.proofs.Trim.{going-few, going-reach, going-tables, long-fits}
use Rattle.rule_expire.proofs.Laws.{expire-start, expire-end, expire-place, expire-room, expire-taken, expire-less, expire-turn}
use Rattle.rule_expire.proofs.store_expire.Goals as goal

pub loop-i-init : goal.loop-i-init
loop-i-init c = (search rules, search rules, expire-start c.requires _ _ (omega arith))

pub store_evict_entry-gone-requires-clause-i_lt_n : goal.store_evict_entry-gone-requires-clause-i_lt_n
store_evict_entry-gone-requires-clause-i_lt_n c = let v = c.loop-i.invariant.2 in
    (expire-place c.requires _ _ v _ (rw c.view.ensures at c.oldest_aged.ensures) c.in-Some.is, going-few c.requires v.going, v.going.sized)

pub store_evict_entry-gone-requires-clause-reach : goal.store_evict_entry-gone-requires-clause-reach
store_evict_entry-gone-requires-clause-reach c = let v = c.loop-i.invariant.2 in (
  going-reach c.requires v.going _ (expire-place c.requires _ _ v _ (rw c.view.ensures at c.oldest_aged.ensures) c.in-Some.is),
  going-tables c.requires v.going,
)

pub put-requires : goal.put-requires
put-requires c = let v = c.loop-i.invariant.2 in
    (expire-room c.requires _ _ v _ (rw c.view.ensures at c.oldest_aged.ensures) c.in-Some.is, long-fits v.going.same c.requires.fits)

pub overflow_sub-e : goal.overflow_sub-e
overflow_sub-e c =
    expire-taken c.requires _ _ c.loop-i.invariant.2 _ (rw c.view.ensures at c.oldest_aged.ensures) c.in-Some.is c.store_evict_entry-gone.ensures.gone.taken

pub loop-i-smaller : goal.loop-i-smaller
loop-i-smaller c = let e = c.store_evict_entry-gone in
    expire-less c.requires _ _ c.loop-i.invariant.2 _ (rw c.view.ensures at c.oldest_aged.ensures) c.in-Some.is {cʹ = lent e.new.ranges} {msʹ = e.new.marks} e.ensures.gone

pub loop-i-preserved : goal.loop-i-preserved
loop-i-preserved c = let e = c.store_evict_entry-gone in (
  search rules,
  search rules,
  expire-turn c.requires _ _ c.loop-i.invariant.2 _ (rw c.view.ensures at c.oldest_aged.ensures) c.in-Some.is {cʹ = lent e.new.ranges} {msʹ = e.new.marks} e.ensures.gone {lʹ = listed c.put.new.self} c.put.ensures.list,
)

pub returns-clause-expired : goal.returns-clause-expired
returns-clause-expired c = expire-end c.requires _ _ c.loop-i.invariant.2 _ (rw c.view.ensures at c.oldest_aged.ensures) c.in_default.is
