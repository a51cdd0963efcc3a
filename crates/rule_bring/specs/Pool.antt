-- A bring-in into store s on the whole pools: what it needs of them, and what is left. Assumes nothing.
use Rattle.std.specs.Prelude.{ℕ, ◌*◌, ◌≤◌, ◌<◌, ◌≡◌, Bool, List, length, Float}
use Rattle.model.specs.Sizes.{store_records, store_pins, store_marks, max_stores, max_pins, max_marks}
use Rattle.model.specs.State.{Ranges}
use Rattle.model.specs.Sound.{RangesLent}
use Rattle.model.specs.Store.{lay, lay_ranges, total}
use Rattle.model.specs.Trim.{Trimmed, version_after}
use Rattle.model.specs.Refusals.{OutList}
use Rattle.model.specs.Calls.{lay_outs}
use Rattle.pool_part.specs.Parts.{mid, mid_ranges}
use Rattle.rule_fill.specs.declared.Gaps.{Gaps}
use Rattle.rule_bring.specs.Part.{PartReady}

-- the pools are long enough, and the store's part is ready; pn, ps and pe are the pins' nodes, starts and ends
pub record PoolReady (depth bytes : List ℕ) (s n m h : ℕ) (c : Ranges) (ms : List ℕ) (l : OutList) (pn ps pe : List ℕ) (nd : ℕ) (g : Gaps) (top next : ℕ) (time : Float) (w : ℕ) : Type 0 where
  pub store : s < max_stores
  pub entries : m ≤ store_pins
  pub ranges : RangesLent c
  pub marks : max_marks ≤ length ms
  pub pin_node : max_pins ≤ length pn
  pub pin_start : max_pins ≤ length ps
  pub pin_end : max_pins ≤ length pe
  pub part : PartReady depth bytes n h (mid_ranges (store_records * s) store_records c) (mid (store_marks * s) store_marks ms) l nd g top next time w

-- in the pools c₀, ms₀ and the answer lists l₀ the n records of store s became those of w, w's spans are given out, and its version v₀ became v
pub record GivenOutAt (s : ℕ) (w : Trimmed) (n v₀ : ℕ) (c₀ : Ranges) (ms₀ : List ℕ) (l₀ : OutList)
    (c : Ranges) (ms : List ℕ) (l : OutList) (k h o v : ℕ) (b : Bool) : Type 0 where
  pub cols : c ≡ lay_ranges (store_records * s) n w.ranges c₀
  pub marks : ms ≡ lay 0 (store_marks * s) store_marks w.marks ms₀
  pub lists : l ≡ lay_outs w.outs l₀
  pub records : k ≡ length w.ranges
  pub held : h ≡ total w.ranges
  pub outs : o ≡ length w.outs
  pub version : v ≡ version_after v₀ w.outs
  pub stalled : b ≡ w.stalled
