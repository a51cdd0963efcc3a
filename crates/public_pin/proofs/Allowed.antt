-- The contract of each call is `Allows` of its outcome by the definitions, so what is proved of `Allows` is proved of the contracts, and a weaker
-- `ensures` is refused here. Assumes nothing.
use mathlib.Core.Path.{refl}
use Rattle.model.specs.Calls.{pin_source, unpin_source}
use Rattle.shape_answer.specs.Answers.{plain_of}
use Rattle.theory_outcome.specs.Settled.{state_at, Allows}
use Rattle.theory_outcome.specs.Contract.{pinned, columns, after, leaves, Promises}
use Rattle.public_pin.specs.contracts.pin_source as pins
use Rattle.public_pin.specs.contracts.unpin_source as unpins

pub pin-allowed :
    Promises pins.ended (λ M 𝓤. pins.spec) (λ κs a s r. Allows plain_of (pin_source (state_at (columns pinned a)) (after pinned a).0 (after pinned a).1.0) (leaves pinned s tt r))
pin-allowed M 𝓤 𝓛 mem run = refl

pub unpin-allowed :
    Promises unpins.ended (λ M 𝓤. unpins.spec) (λ κs a s r. Allows plain_of (unpin_source (state_at (columns pinned a)) (after pinned a).0 (after pinned a).1.0) (leaves pinned s tt r))
unpin-allowed M 𝓤 𝓛 mem run = refl
