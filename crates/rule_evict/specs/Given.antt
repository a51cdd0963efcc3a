-- A row of evictions on a store's part of the columns: what it needs, and what is left. Assumes nothing.
use Rattle.std.specs.Prelude.{◌≡◌, ℕ, ◌≤◌, Bool, List, length}
use Rattle.model.specs.Sizes.{store_records}
use Rattle.model.specs.State.{Ranges}
use Rattle.model.specs.Store.{ranges, lay_ranges, total}
use Rattle.model.specs.Trim.{Trimmed, version_after}
use Rattle.model.specs.Refusals.{OutList, OutFits}
use Rattle.model.specs.Calls.{lay_outs}
use Rattle.theory_sound.specs.Facts.{All}
use Rattle.pool_range.specs.Part.{Sized}
use Rattle.rule_evict.specs.Evict.{Reach, Tabled}

-- n records that hold this many blocks, and room for what is given out
pub record Ready (depth bytes : List ℕ) (n h : ℕ) (c : Ranges) (ms : List ℕ) (l : OutList) : Type 0 where
  pub few : n ≤ store_records
  pub cols : Sized store_records c
  pub tables : Tabled depth bytes ms
  pub reach : All (Reach depth) (ranges c 0 n)
  pub held : h ≡ total (ranges c 0 n)
  pub fits : OutFits l

-- columns c₀, answer lists l₀ and version v₀ became c, l and v: the n records became those of w, and w's spans are given out
pub record GivenOut (w : Trimmed) (n v₀ : ℕ) (c₀ : Ranges) (l₀ : OutList) (c : Ranges) (ms : List ℕ) (l : OutList) (k h o v : ℕ) (b : Bool) : Type 0 where
  pub cols : c ≡ lay_ranges 0 n w.ranges c₀
  pub marks : ms ≡ w.marks
  pub lists : l ≡ lay_outs w.outs l₀
  pub records : k ≡ length w.ranges
  pub held : h ≡ total w.ranges
  pub outs : o ≡ length w.outs
  pub version : v ≡ version_after v₀ w.outs
  pub stalled : b ≡ w.stalled
