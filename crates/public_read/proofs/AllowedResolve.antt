-- The contract of resolve is `Allows` of its outcome by the definitions, so what is proved of `Allows` is proved of the contract, and a weaker `ensures` is
-- refused here. Assumes nothing.
use mathlib.Core.Path.{refl}
use Rattle.model.specs.Calls.{resolve_call}
use Rattle.shape_answer.specs.Answers.{resolved_of}
use Rattle.theory_outcome.specs.Settled.{state_at, Allows}
use Rattle.theory_outcome.specs.Contract.{reads, columns, after, path_in, leaves, Promises}
use Rattle.public_read.specs.contracts.resolve as resolve

pub resolve-allowed :
    Promises resolve.ended (λ M 𝓤. resolve.spec)
    (λ κs a s r. Allows resolved_of (resolve_call (state_at (columns reads a)) (path_in (after reads a)) (after reads a).1.1.0.now) (leaves reads s (path_in (after reads s)) r))
resolve-allowed M 𝓤 𝓛 mem run = refl
