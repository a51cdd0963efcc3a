-- `call_cut::ids_needed` meets its contract: store by store, by the laws of `Summed`.
use native.Mathlib.Omega.{arith}
use Rattle.call_cut.proofs.Stores.{sum-start, sum-turn, sum-end}
use Rattle.call_cut.proofs.ids_needed.Goals as goal

pub loop-s-init : goal.loop-s-init
loop-s-init c = sum-start _ _ _ _ _ _

pub loop-s-preserved : goal.loop-s-preserved
loop-s-preserved c = sum-turn _ _ _ _ _ _ _ _ _ c.loop-s.invariant (c.requires.1 c.loop-s.s c.loop-s-test.true) c.ranges_across-sum.ensures.0 c.ranges_across-sum.ensures.1

pub returns : goal.returns
returns c = sum-end _ _ _ _ _ _ _ _ c.args.stores c.loop-s.invariant (omega arith)
