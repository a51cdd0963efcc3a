-- A store's part of the pool of ranges, cut. Assumes nothing.
use Rattle.std.specs.Prelude.{ℕ, ◌+◌, ◌++◌}
use Rattle.model.specs.State.{Ranges}
use Rattle.model.specs.Store.{ranges, lay_ranges}
use Rattle.model.specs.Insert.{heads, tails, ranges_across}

-- how many of the first n ranges are across k on node j
abbrev pub across_in : ℕ → ℕ → ℕ → Ranges → ℕ
across_in j k n c = ranges_across j k (ranges c 0 n)

-- the columns with the heads and tails of the first n ranges; m is the new node
abbrev pub cut_ranges : ℕ → ℕ → ℕ → ℕ → ℕ → Ranges → Ranges
cut_ranges j k m next n c =
    lay_ranges 0 (n + across_in j k n c) (heads j k (ranges c 0 n) ++ tails j k m next (ranges c 0 n)) c
