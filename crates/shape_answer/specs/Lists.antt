-- The answer lists that lent columns make. Assumes nothing.
use Rattle.std.specs.Prelude.{ℕ, List}
use Rattle.model.specs.Refusals.{PathList, OutList, TierList}
use Rattle.model.specs.Calls.{LookupLists}

abbrev pub path_list_of : List ℕ → List ℕ → PathList
path_list_of node len = record { node = node; len = len }

abbrev pub out_list : List ℕ → List ℕ → List ℕ → List ℕ → List ℕ → List ℕ → OutList
out_list node start end write bytes dead =
    record { node = node; start = start; end = end; write = write; bytes = bytes; dead = dead }

abbrev pub tier_list_of : List ℕ → List ℕ → List ℕ → List ℕ → TierList
tier_list_of tier node start end = record { tier = tier; node = node; start = start; end = end }

-- both answer lists of a lookup
abbrev pub lists_of : PathList → TierList → LookupLists
lists_of path spans = record { path = path; spans = spans }
