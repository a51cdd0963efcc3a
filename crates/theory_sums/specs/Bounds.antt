-- How much an accepted call adds at most, so that far from the limit no sum has to be tested. Assumes nothing.
use Rattle.std.specs.Prelude.{ℕ, ◌≤◌, List, [], ◌∷◌}
use Rattle.model.specs.Sizes.{out_places}
use Rattle.model.specs.State.{at}
use Rattle.model.specs.Refusals.{OutList}
use Rattle.model_sums.specs.Sums.{listed_sum, listed_blocks, brought_at, room_at, age_at, back_at, removed_at, bytes_at, dead_at, lookups_at, blocks_at, read_at}

-- 128 spans of 1,024 blocks: 2^17
abbrev pub most_blocks : ℕ
most_blocks = 131072

-- 128 spans of 2^48 bytes: 2^55
abbrev pub most_bytes : ℕ
most_bytes = 36028797018963968

-- the first n spans of an answer list
pub record OutsMost (n : ℕ) (l : OutList) : Type 0 where
  pub spans : n ≤ out_places
  pub blocks : listed_blocks n l ≤ most_blocks
  pub bytes : listed_sum n l.bytes ≤ most_bytes
  pub dead : listed_sum n l.dead ≤ most_bytes

-- 2^62: from here one call cannot pass the limit
abbrev pub far_sum : ℕ
far_sum = 4611686018427387904

-- the sums at these places are no more than that
abbrev pub FarAt : List ℕ → List ℕ → Type 0
FarAt v [] = Unit {0}
FarAt v (p ∷ ps) = (at v p ≤ far_sum) × FarAt v ps

-- the seven sums of store s are no more than that
pub record Far (s : ℕ) (v : List ℕ) : Type 0 where
  pub brought : at v (brought_at s) ≤ far_sum
  pub room : at v (room_at s) ≤ far_sum
  pub age : at v (age_at s) ≤ far_sum
  pub back : at v (back_at s) ≤ far_sum
  pub removed : at v (removed_at s) ≤ far_sum
  pub bytes : at v (bytes_at s) ≤ far_sum
  pub dead : at v (dead_at s) ≤ far_sum

-- the three over all
pub record FarOver (v : List ℕ) : Type 0 where
  pub lookups : at v lookups_at ≤ far_sum
  pub blocks : at v blocks_at ≤ far_sum
  pub bytes : at v read_at ≤ far_sum
