-- `pool_sums::bring_passes` meets its contract: the store's first place, then the given-out spans. Assumes nothing.
use mathlib.Core.Path.{◌∙◌}
use Rattle.pool_sums.proofs.Adding.{bring-here, bring-next}
use Rattle.pool_sums.proofs.bring_passes.Goals as goal

pub returns-then-past : goal.returns-then-past
returns-then-past c = c.if-past.true ∙ bring-here c.args.capacity c.args.s c.args.blocks c.args.o c.args.sums.now c.past.ensures c.if-past.true

pub returns-else-past : goal.returns-else-past
returns-else-past c =
    bring-next c.args.capacity c.args.s c.args.blocks c.args.o c.args.sums.now _ c.past.ensures c.if-past.false c.gave_at.ensures c.outs_pass.ensures
