-- `rule_trim::store_trim_capacity` meets its contract, by the laws of `Trimming`.
use Rattle.std.proofs.Common.{rules, refl, sym, subst, [], arith}
use Rattle.model.specs.Sizes.{store_records}
use Rattle.pool_range.specs.Lent.{lent, seen}
use Rattle.pool_range.specs.Part.{Sized}
use Rattle.pool_out.specs.Outs.{listed}
use Rattle.pool_range.proofs.Records.{within}
use Rattle.rule_trim.proofs.Trim.{going-few, going-reach, going-tables, long-fits, trim_start, trim_stuck, trim-place, trim-room, trim-taken, trim-turn, trim-fits}
use Rattle.rule_trim.proofs.store_trim_capacity.Goals as goal

pub loop-t-init : goal.loop-t-init
loop-t-init c = (search rules, search rules, refl, λ count. trim_start c.requires.ready _ _ (omega arith))

pub first_free-requires-clause-n_in_bounds : goal.first_free-requires-clause-n_in_bounds
first_free-requires-clause-n_in_bounds c = let v = c.loop-t.invariant.3 [] in
    let f = going-few c.requires.ready v.going in
    let z = subst (Sized store_records) (sym c.view.ensures) v.going.sized in
    (within f z.node, within f z.start, within f z.end, within f z.id, within f z.stamp)

pub returns-in_default-clause-trimmed : goal.returns-in_default-clause-trimmed
returns-in_default-clause-trimmed c = λ count.
    trim_stuck c.requires.ready _ _ (c.loop-t.invariant.3 count) c.loop-t-test.true (rw c.view.ensures at (c.first_free.ensures (seen c.view.result) refl refl refl refl refl count)) c.in_default.is

pub store_evict_entry-gone-requires-clause-i_lt_n : goal.store_evict_entry-gone-requires-clause-i_lt_n
store_evict_entry-gone-requires-clause-i_lt_n c = let v = c.loop-t.invariant.3 [] in
    (trim-place c.requires.ready _ _ v c.loop-t-test.true (rw c.view.ensures at (c.first_free.ensures (seen c.view.result) refl refl refl refl refl [])) c.in-Some.is, going-few c.requires.ready v.going, v.going.sized)

pub store_evict_entry-gone-requires-clause-reach : goal.store_evict_entry-gone-requires-clause-reach
store_evict_entry-gone-requires-clause-reach c = let v = c.loop-t.invariant.3 [] in
    let p = c.requires.ready in (
      going-reach p v.going _ (trim-place p _ _ v c.loop-t-test.true (rw c.view.ensures at (c.first_free.ensures (seen c.view.result) refl refl refl refl refl [])) c.in-Some.is),
      going-tables p v.going,
    )

pub put-requires : goal.put-requires
put-requires c = let v = c.loop-t.invariant.3 [] in
    let p = c.requires.ready in
    (trim-room p _ _ v c.loop-t-test.true (rw c.view.ensures at (c.first_free.ensures (seen c.view.result) refl refl refl refl refl [])) c.in-Some.is, long-fits v.going.same p.fits)

pub overflow_add-t : goal.overflow_add-t
overflow_add-t c = let v = c.loop-t.invariant.3 [] in
    omega (arith, trim-room c.requires.ready _ _ v c.loop-t-test.true (rw c.view.ensures at (c.first_free.ensures (seen c.view.result) refl refl refl refl refl [])) c.in-Some.is)

pub loop-t-smaller : goal.loop-t-smaller
loop-t-smaller c = let v = c.loop-t.invariant.3 [] in
    omega (arith, trim-taken c.requires.ready _ _ v c.loop-t-test.true (rw c.view.ensures at (c.first_free.ensures (seen c.view.result) refl refl refl refl refl [])) c.in-Some.is c.store_evict_entry-gone.ensures.gone.taken)

pub loop-t-preserved : goal.loop-t-preserved
loop-t-preserved c = let e = c.store_evict_entry-gone in (
  search rules,
  search rules,
  c.loop-t.invariant.2,
  λ count.
      trim-turn c.requires.ready _ _ (c.loop-t.invariant.3 count) c.loop-t-test.true (rw c.view.ensures at (c.first_free.ensures (seen c.view.result) refl refl refl refl refl count)) c.in-Some.is {cʹ = lent e.new.ranges} {msʹ = e.new.marks} e.ensures.gone {lʹ = listed c.put.new.self} c.put.ensures.list,
)

pub returns-clause-trimmed : goal.returns-clause-trimmed
returns-clause-trimmed c = λ count. rw c.loop-t.invariant.2 (trim-fits c.requires.ready _ _ (c.loop-t.invariant.3 count) c.loop-t-test.false)
