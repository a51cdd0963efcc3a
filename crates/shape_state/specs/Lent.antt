-- The state that lent pools and small numbers make. Assumes nothing.
use Rattle.std.specs.Prelude.{ℕ, List, Float}
use Rattle.model.specs.State.{Tree, Ranges, Pins, State}

abbrev pub tree_of : List ℕ → List ℕ → List ℕ → List ℕ → List ℕ → ℕ → ℕ → Tree
tree_of parent depth len run words nodes used =
    record { parent = parent; depth = depth; len = len; run = run; words = words; nodes = nodes; used = used }

abbrev pub ranges_of : List ℕ → List ℕ → List ℕ → List ℕ → List ℕ → List Float → List ℕ → Ranges
ranges_of node start end id stamp touched write =
    record { node = node; start = start; end = end; id = id; stamp = stamp; touched = touched; write = write }

abbrev pub pins_of : List ℕ → List ℕ → List ℕ → List ℕ → Pins
pins_of node start end count = record { node = node; start = start; end = end; count = count }

abbrev pub state_of : Tree → Ranges → Pins → List ℕ → List ℕ → List ℕ → State
state_of tree ranges pins marks bytes books =
    record { tree = tree; ranges = ranges; pins = pins; marks = marks; bytes = bytes; books = books }
