-- `public_start::stop` meets its contract: the touch has no node, and is refused, 1. Assumes nothing.
use mathlib.Core.Path.{ap}
use Rattle.call_touch_span.specs.declared.Run.{Run}
use Rattle.public_start.proofs.stop.Goals as goal

pub returns : goal.returns
returns c = record { number = ap (λ (z : Run). z.number) c.fresh.ensures.run; nodes = c.fresh.ensures.nodes }
