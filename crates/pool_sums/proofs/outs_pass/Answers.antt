-- `pool_sums::outs_pass` meets its contract: place after place, the first that passes answers. Assumes nothing.
use Prim.Native.Nat.{◌+◌}
use mathlib.Core.Bool.{true≢false}
use mathlib.Core.Path.{sym, ◌∙◌}
use Rattle.pool_sums.proofs.Adding.{pass_first, pass_second, pass_third}
use Rattle.pool_sums.proofs.outs_pass.Goals as goal
use Rattle.pool_sums.proofs.outs_pass.Goals.{then-past, else-past}

pub returns-then-past-2 : goal.returns-then-past-2
returns-then-past-2 c =
    elim c.if-past.branch [
      | then-past w ↦ c.if-past-2.true ∙ pass_first c.args.place (40 + c.args.s) (48 + c.args.s) c.args.o.blocks c.args.o.bytes c.args.o.dead c.args.sums.now c.past.ensures w.if-past.true
      | else-past w ↦
          c.if-past-2.true ∙ pass_second c.args.place (40 + c.args.s) (48 + c.args.s) c.args.o.blocks c.args.o.bytes c.args.o.dead c.args.sums.now c.past.ensures w.if-past.false w.past-else-past.ensures (sym w.value-is ∙ c.if-past-2.true)
    ]

pub returns-else-past-2 : goal.returns-else-past-2
returns-else-past-2 c =
    elim c.if-past.branch [
      | then-past w ↦ absurd (true≢false (sym w.if-past.true ∙ sym w.value-is ∙ c.if-past-2.false))
      | else-past w ↦
          pass_third c.args.place (40 + c.args.s) (48 + c.args.s) c.args.o.blocks c.args.o.bytes c.args.o.dead c.args.sums.now c.past.ensures w.if-past.false w.past-else-past.ensures (sym w.value-is ∙ c.if-past-2.false) c.past-else-past-2.ensures
    ]
