-- The contract of each counter is `Allows` of its outcome by the definitions, so what is proved of `Allows` is proved of the contracts, and a weaker
-- `ensures` is refused here. Assumes nothing.
use mathlib.Core.Path.{refl}
use Rattle.model.specs.Calls.{held_call, capacity_call, pinned_call, available_call, version_call, stalls_call}
use Rattle.shape_answer.specs.Answers.{count_of}
use Rattle.theory_outcome.specs.Settled.{state_at, Allows}
use Rattle.theory_outcome.specs.Contract.{reads, columns, after, leaves, Promises}
use Rattle.public_read.specs.contracts.store_held_blocks as held
use Rattle.public_read.specs.contracts.store_capacity_blocks as capacity
use Rattle.public_read.specs.contracts.store_pinned_blocks as pinned
use Rattle.public_read.specs.contracts.store_available_for_stage as available
use Rattle.public_read.specs.contracts.source_version as version
use Rattle.public_read.specs.contracts.pin_stalls as stalls

pub held-allowed :
    Promises held.ended (λ M 𝓤. held.spec) (λ κs a s r. Allows count_of (held_call (state_at (columns reads a)) (after reads a).0) (leaves reads s tt r))
held-allowed M 𝓤 𝓛 mem run = refl

pub capacity-allowed :
    Promises capacity.ended (λ M 𝓤. capacity.spec) (λ κs a s r. Allows count_of (capacity_call (state_at (columns reads a)) (after reads a).0) (leaves reads s tt r))
capacity-allowed M 𝓤 𝓛 mem run = refl

pub pinned-allowed :
    Promises pinned.ended (λ M 𝓤. pinned.spec) (λ κs a s r. Allows count_of (pinned_call (state_at (columns reads a)) (after reads a).0) (leaves reads s tt r))
pinned-allowed M 𝓤 𝓛 mem run = refl

pub available_allowed :
    Promises available.ended (λ M 𝓤. available.spec) (λ κs a s r. Allows count_of (available_call (state_at (columns reads a)) (after reads a).0) (leaves reads s tt r))
available_allowed M 𝓤 𝓛 mem run = refl

pub version-allowed :
    Promises version.ended (λ M 𝓤. version.spec) (λ κs a s r. Allows count_of (version_call (state_at (columns reads a)) (after reads a).0) (leaves reads s tt r))
version-allowed M 𝓤 𝓛 mem run = refl

pub stalls-allowed :
    Promises stalls.ended (λ M 𝓤. stalls.spec) (λ κs a s r. Allows count_of (stalls_call (state_at (columns reads a))) (leaves reads s tt r))
stalls-allowed M 𝓤 𝓛 mem run = refl
