-- The contract of lookup is `Allows` of its outcome by the definitions, so what is proved of `Allows` is proved of the contract, and a weaker `ensures` is
-- refused here. Assumes nothing.
use mathlib.Core.Path.{refl}
use Rattle.model.specs.Calls.{LookupLists, lookup}
use Rattle.shape_answer.specs.Answers.{looked_of}
use Rattle.theory_outcome.specs.Settled.{state_at, Allows}
use Rattle.theory_outcome.specs.Contract.{reads, Ints, columns, after, leaves, Promises}
use Rattle.public_read.specs.contracts.lookup as looks

-- the path lists and the tier lists, first among the parameters after the columns, and the parameters after those lists
abbrev ListsLent : Type 0 → Type 0
ListsLent R = Ints × (Ints × (Ints × (Ints × (Ints × (Ints × R)))))

abbrev lists_in : {R : Type 0} → ListsLent R → LookupLists
lists_in (node, (len, (tier, (tier_node, (start, (end, rest)))))) =
    record {
      path = record { node = node.now; len = len.now };
      spans = record { tier = tier.now; node = tier_node.now; start = start.now; end = end.now };
    }

abbrev after_lists : {R : Type 0} → ListsLent R → R
after_lists (_, (_, (_, (_, (_, (_, rest)))))) = rest

pub lookup-allowed :
    Promises looks.ended (λ M 𝓤. looks.spec)
    (λ κs a s r.
    let x = after_lists (after reads a) in
    Allows looked_of (lookup (state_at (columns reads a)) (lists_in (after reads a)) x.0.now x.1.0.now) (leaves reads s (lists_in (after reads s)) r))
lookup-allowed M 𝓤 𝓛 mem run = refl
