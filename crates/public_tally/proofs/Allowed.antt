-- The contract of each counted call is `Allows` of its outcome by the definitions, with the sums among the lists, so what is proved of `Allows` is proved of
-- the contracts, and a weaker `ensures` is refused here. Assumes nothing.
use mathlib.Core.Path.{refl}
use Rattle.model.specs.Refusals.{OutList}
use Rattle.model.specs.Calls.{LookupLists}
use Rattle.model_sums.specs.Tally.{summed, tally_insert, tally_expire, tally_remove, tally_lookup}
use Rattle.shape_answer.specs.Answers.{store_inserted_of, store_expired_of, store_removed_of, looked_of}
use Rattle.theory_outcome.specs.Settled.{state_at, Allows}
use Rattle.theory_outcome.specs.Contract.{Ints, columns, after, leaves, reads, stores, Promises}
use Rattle.public_tally.specs.contracts.tally_insert as inserts
use Rattle.public_tally.specs.contracts.tally_expire as expires
use Rattle.public_tally.specs.contracts.tally_remove as removes
use Rattle.public_tally.specs.contracts.tally_lookup as looks

-- six answer lists, first among the parameters after the columns, and the parameters after those lists: the sums come first among them
abbrev SixLent : Type 0 → Type 0
SixLent R = Ints × (Ints × (Ints × (Ints × (Ints × (Ints × R)))))

abbrev after_six : {R : Type 0} → SixLent R → R
after_six (_, (_, (_, (_, (_, (_, rest)))))) = rest

-- the lists of the spans given out
abbrev out_in : {R : Type 0} → SixLent R → OutList
out_in (node, (start, (end, (write, (bytes, (dead, rest)))))) =
    record { node = node.now; start = start.now; end = end.now; write = write.now; bytes = bytes.now; dead = dead.now }

-- the path lists and the tier lists
abbrev lists_in : {R : Type 0} → SixLent R → LookupLists
lists_in (node, (len, (tier, (tier_node, (start, (end, rest)))))) =
    record {
      path = record { node = node.now; len = len.now };
      spans = record { tier = tier.now; node = tier_node.now; start = start.now; end = end.now };
    }

pub tally_insert-allowed :
    Promises inserts.ended (λ M 𝓤. inserts.spec)
    (λ κs a s r.
    let x = after_six (after stores a) in
    let y = x.1 in
    Allows store_inserted_of
    (tally_insert (state_at (columns stores a)) (summed (out_in (after stores a)) x.0.now) y.0 y.1.0 y.1.1.0 y.1.1.1.0)
    (leaves stores s (summed (out_in (after stores s)) (after_six (after stores s)).0.now) r))
tally_insert-allowed M 𝓤 𝓛 mem run = refl

pub tally_expire-allowed :
    Promises expires.ended (λ M 𝓤. expires.spec)
    (λ κs a s r.
    let x = after_six (after stores a) in
    let y = x.1 in
    Allows store_expired_of (tally_expire (state_at (columns stores a)) (summed (out_in (after stores a)) x.0.now) y.0 y.1.0 y.1.1.0)
    (leaves stores s (summed (out_in (after stores s)) (after_six (after stores s)).0.now) r))
tally_expire-allowed M 𝓤 𝓛 mem run = refl

pub tally_remove-allowed :
    Promises removes.ended (λ M 𝓤. removes.spec)
    (λ κs a s r.
    let x = after stores a in
    let y = x.1.1 in
    Allows store_removed_of (tally_remove (state_at (columns stores a)) (summed x.0.now x.1.0.now) y.0 y.1.0)
    (leaves stores s (summed (after stores s).0.now (after stores s).1.0.now) r))
tally_remove-allowed M 𝓤 𝓛 mem run = refl

pub tally_lookup-allowed :
    Promises looks.ended (λ M 𝓤. looks.spec)
    (λ κs a s r.
    let x = after_six (after reads a) in
    let y = x.1 in
    Allows looked_of (tally_lookup (state_at (columns reads a)) (summed (lists_in (after reads a)) x.0.now) y.0.now y.1.0.now)
    (leaves reads s (summed (lists_in (after reads s)) (after_six (after reads s)).0.now) r))
tally_lookup-allowed M 𝓤 𝓛 mem run = refl
