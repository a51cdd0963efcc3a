-- `call_count::store_pinned_blocks` meets its contract, by the law of the counters. Assumes nothing.
use Rattle.std.proofs.Common.{rules}
use Rattle.model.specs.Calls.{pinned_call}
use Rattle.call_count.proofs.Laws.{counter-is}
use Rattle.call_count.proofs.store_pinned_blocks.Goals as goal

pub returns : goal.returns
unfolding pinned_call
returns c = counter-is (λ b. b.pinned) _ _ _ c.of_store.ensures.refused (λ h. let k = c.of_store.ensures.counted h in (k.0, k.1, search rules))
