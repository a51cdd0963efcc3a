-- The contract of set-up is `Allows` of its outcome by the definitions, so what is proved of `Allows` is proved of the contract, and a weaker `ensures` is
-- refused here. Assumes nothing.
use mathlib.Core.Path.{refl}
use Rattle.model.specs.Calls.{set_up}
use Rattle.shape_answer.specs.Answers.{plain_of}
use Rattle.theory_outcome.specs.Settled.{state_at, Allows}
use Rattle.theory_outcome.specs.Contract.{columns, after, leaves, sets_up, Promises}
use Rattle.call_set_up.specs.contracts.set_up as sets

pub set_up-allowed :
    Promises sets.ended (λ M 𝓤. sets.spec)
    (λ κs a s r.
    let x = after sets_up a in
    Allows plain_of (set_up (state_at (columns sets_up a)) x.0.now x.1.0.now x.1.1.0.now) (leaves sets_up s tt r))
set_up-allowed M 𝓤 𝓛 mem run = refl
