-- The contract of `store_used` is `Allows` of its outcome by the definitions, so what is proved of `Allows` is proved of the contract, and a weaker
-- `ensures` is refused here. Assumes nothing.
use mathlib.Core.Path.{refl}
use Rattle.model.specs.Calls.{store_used}
use Rattle.shape_answer.specs.Answers.{store_used_of}
use Rattle.theory_outcome.specs.Settled.{state_at, Allows}
use Rattle.theory_outcome.specs.Contract.{stores, columns, after, leaves, Promises}
use Rattle.public_touch.specs.contracts.store_used as uses

pub store_used-allowed :
    Promises uses.ended (λ M 𝓤. uses.spec)
    (λ κs a s r.
    let x = after stores a in
    Allows store_used_of (store_used (state_at (columns stores a)) x.0 x.1.0.now x.1.1.0 x.1.1.1.0) (leaves stores s tt r))
store_used-allowed M 𝓤 𝓛 mem run = refl
