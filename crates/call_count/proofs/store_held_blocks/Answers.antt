-- `call_count::store_held_blocks` meets its contract, by the law of the counters. Assumes nothing.
use Rattle.std.proofs.Common.{rules}
use Rattle.model.specs.Calls.{held_call}
use Rattle.call_count.proofs.Laws.{counter-is}
use Rattle.call_count.proofs.store_held_blocks.Goals as goal

pub returns : goal.returns
unfolding held_call
returns c = counter-is (λ b. b.held) _ _ _ c.of_store.ensures.refused (λ h. let k = c.of_store.ensures.counted h in (k.0, k.1, search rules))
