-- The contract of insert is `Allows` of its outcome by the definitions, so what is proved of `Allows` is proved of the contract, and a weaker `ensures` is
-- refused here. Assumes nothing.
use mathlib.Core.Path.{refl}
use Rattle.model.specs.Calls.{insert as insert_call}
use Rattle.shape_answer.specs.Answers.{inserted_of}
use Rattle.theory_outcome.specs.Settled.{state_at, Allows}
use Rattle.theory_outcome.specs.Contract.{columns, after, path_in, leaves, grows, Promises}
use Rattle.public_insert.specs.contracts.insert as insert

pub insert-allowed :
    Promises insert.ended (λ M 𝓤. insert.spec)
    (λ κs a s r. Allows inserted_of (insert_call (state_at (columns grows a)) (path_in (after grows a)) (after grows a).1.1.0.now) (leaves grows s (path_in (after grows s)) r))
insert-allowed M 𝓤 𝓛 mem run = refl
