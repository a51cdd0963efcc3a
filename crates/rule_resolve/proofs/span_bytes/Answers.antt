-- `rule_resolve::span_bytes` meets its contract: the table rises from the span's start to its end, so the difference is a number.
use Prim.Native.Nat.{ℕ, ◌+◌}
use native.Mathlib.Omega.{arith}
use Rattle.model.specs.State.{at}
use Rattle.model.proofs.Rising.{rises}
use Rattle.rule_resolve.proofs.span_bytes.Goals as goal

pub overflow_sub-result : goal.overflow_sub-result
overflow_sub-result c = let p = c.requires in
    let sp = c.args.sp in
    let d : ℕ = at c.args.depth.now sp.node in
    omega (arith, rises p.rising (d + sp.start) (d + sp.end) (omega arith) (omega arith))
