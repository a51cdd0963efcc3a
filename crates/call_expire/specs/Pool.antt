-- What an expiry of store s needs of the whole pools. Assumes nothing.
use Rattle.std.specs.Prelude.{ℕ, ◌*◌, ◌≤◌, ◌<◌, List, length}
use Rattle.model.specs.Sizes.{store_records, store_marks, max_stores, max_marks}
use Rattle.model.specs.State.{Ranges}
use Rattle.model.specs.Sound.{RangesLent}
use Rattle.model.specs.Refusals.{OutList}
use Rattle.pool_part.specs.Parts.{mid, mid_ranges}
use Rattle.rule_evict.specs.Given.{Ready}

-- the pools are long enough, and the store's part is ready to give out
pub record PoolReady (depth bytes : List ℕ) (s n h : ℕ) (c : Ranges) (ms : List ℕ) (l : OutList) : Type 0 where
  pub store : s < max_stores
  pub ranges : RangesLent c
  pub marks : max_marks ≤ length ms
  pub part : Ready depth bytes n h (mid_ranges (store_records * s) store_records c) (mid (store_marks * s) store_marks ms) l
