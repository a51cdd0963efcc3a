-- A store's half of a cut: the room that it asks, and what the cut of its ranges and marks leaves. Assumes nothing.
use Rattle.std.specs.Prelude.{ℕ, ◌+◌, ◌*◌, ◌≤◌, ◌<◌, List, ◌++◌, length, take, drop, ◌≡◌}
use Rattle.model.specs.declared.Book.{Book}
use Rattle.model.specs.Sizes.{max_nodes, max_stores, max_stamp, max_marks, max_pinned, max_numbers, store_records, store_pins, store_marks}
use Rattle.model.specs.State.{Ranges, Pins, Range, next_id_in, book_in, changed}
use Rattle.model.specs.Sound.{RangesLent, PinsLent}
use Rattle.model.specs.Store.{lay, ranges, lay_ranges, pins}
use Rattle.model.specs.Insert.{heads, tails, ranges_across, cut_marks, pins_across}
use Rattle.model.specs.Pins.{pinned_in}
use Rattle.theory_sound.specs.Facts.{All}
use Rattle.rule_cut_pins.specs.Entries.{counts}
use Rattle.rule_cut.specs.declared.After.{After}

-- the ranges after the cut of node j at k: those of the new node m stand last
abbrev pub halves : ℕ → ℕ → ℕ → ℕ → List Range → List Range
halves j k m next rs = heads j k rs ++ tails j k m next rs

-- a store's numbers with so many records and pin entries
abbrev pub cut_book : Book → ℕ → ℕ → Book
cut_book b records entries = changed b records b.held b.stamp b.version entries b.pinned

-- there is room to cut the n ranges of store s, and no node of theirs is above the new one
pub record RangesRoom (j k m s n next : ℕ) (c : Ranges) (ms : List ℕ) : Type 0 where
  pub store : s < max_stores
  pub node : j < max_nodes
  pub new : m < max_nodes
  pub records : n + ranges_across j k (ranges c (store_records * s) n) ≤ store_records
  pub below : All (λ r. r.node < m) (ranges c (store_records * s) n)
  pub high : next ≤ max_stamp
  pub lent : RangesLent c
  pub marks : max_marks ≤ length ms

-- what their cut leaves
pub record RangesCut (j k m s n next : ℕ) (c : Ranges) (ms : List ℕ) (c' : Ranges) (ms' : List ℕ) (r : After) : Type 0 where
  pub laid : c'
      ≡ lay_ranges (store_records * s) (n + ranges_across j k (ranges c (store_records * s) n)) (halves j k m next (ranges c (store_records * s) n)) c
  pub marks : ms'
      ≡ lay 0 (store_marks * s) store_marks (cut_marks j k m (halves j k m next (ranges c (store_records * s) n)) (take store_marks (drop (store_marks * s) ms))) ms
  pub count : r.n ≡ length (halves j k m next (ranges c (store_records * s) n))
  pub ids : r.next ≡ next + ranges_across j k (ranges c (store_records * s) n)

-- there is room to cut store s, as the small numbers l have it, and its count of pinned blocks is right
pub record StoreRoom (j k m s : ℕ) (c : Ranges) (p : Pins) (ms l : List ℕ) : Type 0 where
  pub half : RangesRoom j k m s (book_in l s).records (next_id_in l) c ms
  pub entries : (book_in l s).entries + pins_across j k (pins p (store_pins * s) (book_in l s).entries) ≤ store_pins
  pub few : counts (pins p (store_pins * s) (book_in l s).entries) ≤ max_pinned
  pub pinned : (book_in l s).pinned ≡ pinned_in (pins p (store_pins * s) (book_in l s).entries)
  pub lent : PinsLent p
  pub books : max_numbers ≤ length l
