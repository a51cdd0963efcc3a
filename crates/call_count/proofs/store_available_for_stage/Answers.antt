-- `call_count::store_available_for_stage` meets its contract, by the law of the counters. Assumes nothing.
use Rattle.std.proofs.Common.{rules, ◌-◌}
use Rattle.model.specs.Calls.{available_call}
use Rattle.call_count.proofs.Laws.{counter-is}
use Rattle.call_count.proofs.store_available_for_stage.Goals as goal

pub returns : goal.returns
unfolding available_call
returns c = counter-is (λ b. b.capacity - b.pinned) _ _ _ c.of_store.ensures.refused (λ h. let k = c.of_store.ensures.counted h in (k.0, k.1, search rules))
