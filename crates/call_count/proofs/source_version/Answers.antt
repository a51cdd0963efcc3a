-- `call_count::source_version` meets its contract, by the law of the counters. Assumes nothing.
use Rattle.std.proofs.Common.{rules}
use Rattle.model.specs.Calls.{version_call}
use Rattle.call_count.proofs.Laws.{counter-is}
use Rattle.call_count.proofs.source_version.Goals as goal

pub returns : goal.returns
unfolding version_call
returns c = counter-is (λ b. b.version) _ _ _ c.of_store.ensures.refused (λ h. let k = c.of_store.ensures.counted h in (k.0, k.1, search rules))
