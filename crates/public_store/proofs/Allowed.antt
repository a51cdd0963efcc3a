-- The contract of each call is `Allows` of its outcome by the definitions, so what is proved of `Allows` is proved of the contracts, and a weaker
-- `ensures` is refused here. Assumes nothing.
use mathlib.Core.Path.{refl}
use Rattle.model.specs.Refusals.{OutList}
use Rattle.model.specs.Calls.{store_insert, store_expire, store_remove}
use Rattle.shape_answer.specs.Answers.{store_inserted_of, store_expired_of, store_removed_of}
use Rattle.theory_outcome.specs.Settled.{state_at, Allows}
use Rattle.theory_outcome.specs.Contract.{Ints, columns, after, leaves, stores, Promises}
use Rattle.public_store.specs.contracts.store_insert as inserts
use Rattle.public_store.specs.contracts.store_expire as expires
use Rattle.public_store.specs.contracts.store_remove as removes

-- the lists of the spans given out, first among the parameters after the columns, and the parameters after those lists
abbrev OutLent : Type 0 → Type 0
OutLent R = Ints × (Ints × (Ints × (Ints × (Ints × (Ints × R)))))

abbrev out_in : {R : Type 0} → OutLent R → OutList
out_in (node, (start, (end, (write, (bytes, (dead, rest)))))) =
    record { node = node.now; start = start.now; end = end.now; write = write.now; bytes = bytes.now; dead = dead.now }

abbrev after_out : {R : Type 0} → OutLent R → R
after_out (_, (_, (_, (_, (_, (_, rest)))))) = rest

pub store_insert-allowed :
    Promises inserts.ended (λ M 𝓤. inserts.spec)
    (λ κs a s r.
    let x = after_out (after stores a) in
    Allows store_inserted_of (store_insert (state_at (columns stores a)) (out_in (after stores a)) x.0 x.1.0 x.1.1.0 x.1.1.1.0)
    (leaves stores s (out_in (after stores s)) r))
store_insert-allowed M 𝓤 𝓛 mem run = refl

pub store_expire-allowed :
    Promises expires.ended (λ M 𝓤. expires.spec)
    (λ κs a s r.
    let x = after_out (after stores a) in
    Allows store_expired_of (store_expire (state_at (columns stores a)) (out_in (after stores a)) x.0 x.1.0 x.1.1.0) (leaves stores s (out_in (after stores s)) r))
store_expire-allowed M 𝓤 𝓛 mem run = refl

pub store_remove-allowed :
    Promises removes.ended (λ M 𝓤. removes.spec)
    (λ κs a s r.
    let x = (after stores a).1 in
    Allows store_removed_of (store_remove (state_at (columns stores a)) (after stores a).0.now x.0 x.1.0) (leaves stores s (after stores s).0.now r))
store_remove-allowed M 𝓤 𝓛 mem run = refl
