-- The gaps that are filled, and the room that they need. Assumes nothing.
use Rattle.std.specs.Prelude.{ℕ, ◌+◌, ◌≤◌, ◌<◌}
use Rattle.model.specs.Bring.{Gap}

-- the gap has a block, and ends where a node can
pub record Filled (g : Gap) : Type 0 where
  pub some : g.from < g.upto
  pub high : g.upto ≤ 1024

-- k records more than n fit into a store's part, and k stamps behind `top` and k ids from `next` on fit
pub record Room (n k top next : ℕ) : Type 0 where
  pub records : n + k ≤ 128
  pub stamps : top + k ≤ 281474976710656
  pub ids : next + k ≤ 281474976710656
