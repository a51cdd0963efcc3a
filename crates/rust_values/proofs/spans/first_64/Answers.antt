-- `rust_values::spans::first_64` meets its contract: after i turns the first i spans stand in front. Assumes nothing.
use Prim.Native.Nat.{min}
use mathlib.Core.Path.{refl, ap, ◌∙◌}
use native.Mathlib.Omega.{arith}
use Rattle.rust_values.proofs.Front.{inside, read_more, read_all}
use Rattle.rust_values.proofs.spans.first_64.Goals as goal

pub loop-i-init : goal.loop-i-init
loop-i-init c = record { long = refl; most = c.min-n.ensures ∙ ap (λ k. min k 64) c.count.ensures; within = omega arith; front = refl }

pub bounds-on-i : goal.bounds-on-i
bounds-on-i c = (inside c.loop-i.invariant c.loop-i-test.true).0

pub bounds-from-i : goal.bounds-from-i
bounds-from-i c = (inside c.loop-i.invariant c.loop-i-test.true).1

pub bounds-upto-i : goal.bounds-upto-i
bounds-upto-i c = (inside c.loop-i.invariant c.loop-i-test.true).2

pub loop-i-preserved : goal.loop-i-preserved
loop-i-preserved c = read_more c.loop-i.invariant c.loop-i-test.true refl

pub returns : goal.returns
returns c = read_all c.loop-i.invariant c.loop-i-test.false
