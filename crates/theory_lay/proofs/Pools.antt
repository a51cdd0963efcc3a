-- Ranges and pins in their pools, column by column: what is laid is read back, what stands apart from it is as it was, and to lay back what was read
-- changes nothing. Assumes nothing.
use Prim.Native.Nat.{ℕ, ◌+◌, ◌≤◌, ◌<◌}
use mathlib.Core.Path.{◌≡◌, refl, ◌∙◌}
use mathlib.Core.List.{List, map}
use native.Mathlib.Omega.{arith}
use lib.ListN.{length, length-map, get_or}
use lib.Ieee.{nan}
use Rattle.model.specs.Sizes.{max_records, max_pins}
use Rattle.model.specs.State.{Ranges, Pins, Range, Pin, range_at, pin_at}
use Rattle.model.specs.Sound.{RangesLent, PinsLent}
use Rattle.model.specs.Store.{ranges, pins, lay, no_time, lay_ranges, lay_pins}
use Rattle.theory_lay.proofs.Lay.{Off, Apart, apart-off, lay-same, column_long, column_in, column_off}
use Rattle.theory_lay.proofs.Rows.{rows, rows_length, rows-list, rows_same, rows_column, ranges-rows, pins-rows}

-- ---- a column that is laid back as it was read

column_back : {A R : Type 0} (g : ℕ → R) (f : R → A) (a n all : ℕ) → a + n ≤ all → (blank d : A) (pool : List A) → all ≤ length pool
    → ((i : ℕ) → f (g i) ≡ get_or pool i d) → lay blank a n (map f (rows g a n)) pool ≡ pool
column_back g f a n all fits blank d pool long same =
    lay-same blank a n (map f (rows g a n)) pool (length-map (rows g a n) f ∙ rows_length g a n) (rows_column f g pool d a n same (omega arith))

-- ---- ranges in their pool

-- what is read past a pool's end
abbrev no_range : Range
no_range = record { node = 0; start = 0; end = 0; id = 0; stamp = 0; touched = nan; write = 0 }

module _ (a k : ℕ) (rs : List Range) (c : Ranges) (lent : RangesLent c) (short : length rs ≤ k) (fits : a + k ≤ max_records) where
  pub ranges-lent : RangesLent (lay_ranges a k rs c)
  unfolding lay_ranges
  ranges-lent =
      record {
        node = column_long a k max_records rs short fits (λ r. r.node) 0 c.node lent.node;
        start = column_long a k max_records rs short fits (λ r. r.start) 0 c.start lent.start;
        end = column_long a k max_records rs short fits (λ r. r.end) 0 c.end lent.end;
        id = column_long a k max_records rs short fits (λ r. r.id) 0 c.id lent.id;
        stamp = column_long a k max_records rs short fits (λ r. r.stamp) 0 c.stamp lent.stamp;
        touched = column_long a k max_records rs short fits (λ r. r.touched) no_time c.touched lent.touched;
        write = column_long a k max_records rs short fits (λ r. r.write) 0 c.write lent.write;
      }

  range_in : (i : ℕ) → i < length rs → range_at (lay_ranges a k rs c) (a + i) ≡ get_or rs i no_range
  unfolding lay_ranges
  range_in i h =
      λ j. record {
        node = column_in a k max_records rs short fits (λ r. r.node) 0 c.node lent.node i no_range h j;
        start = column_in a k max_records rs short fits (λ r. r.start) 0 c.start lent.start i no_range h j;
        end = column_in a k max_records rs short fits (λ r. r.end) 0 c.end lent.end i no_range h j;
        id = column_in a k max_records rs short fits (λ r. r.id) 0 c.id lent.id i no_range h j;
        stamp = column_in a k max_records rs short fits (λ r. r.stamp) 0 c.stamp lent.stamp i no_range h j;
        touched = column_in a k max_records rs short fits (λ r. r.touched) no_time c.touched lent.touched i no_range h j;
        write = column_in a k max_records rs short fits (λ r. r.write) 0 c.write lent.write i no_range h j;
      }

  range_off : (i : ℕ) → Off a k i → range_at (lay_ranges a k rs c) i ≡ range_at c i
  unfolding lay_ranges
  range_off i h =
      λ j. record {
        node = column_off a k max_records rs short fits (λ r. r.node) 0 c.node lent.node i 0 h j;
        start = column_off a k max_records rs short fits (λ r. r.start) 0 c.start lent.start i 0 h j;
        end = column_off a k max_records rs short fits (λ r. r.end) 0 c.end lent.end i 0 h j;
        id = column_off a k max_records rs short fits (λ r. r.id) 0 c.id lent.id i 0 h j;
        stamp = column_off a k max_records rs short fits (λ r. r.stamp) 0 c.stamp lent.stamp i 0 h j;
        touched = column_off a k max_records rs short fits (λ r. r.touched) no_time c.touched lent.touched i nan h j;
        write = column_off a k max_records rs short fits (λ r. r.write) 0 c.write lent.write i 0 h j;
      }

  pub ranges_in : ranges (lay_ranges a k rs c) a (length rs) ≡ rs
  ranges_in = rw ranges-rows (rows-list (range_at (lay_ranges a k rs c)) a rs no_range range_in)

  pub ranges-off : (b n : ℕ) → Apart b n a k → ranges (lay_ranges a k rs c) b n ≡ ranges c b n
  ranges-off b n h =
      rw (ranges-rows (lay_ranges a k rs c) b n, ranges-rows c b n)
      (rows_same (range_at (lay_ranges a k rs c)) (range_at c) b n (λ i low high. range_off i (apart-off b n a k h i low high)))

pub ranges-back : (a n : ℕ) (c : Ranges) → RangesLent c → a + n ≤ max_records → lay_ranges a n (ranges c a n) c ≡ c
unfolding lay_ranges
ranges-back a n c lent fits =
    rw (ranges-rows c a n)
    (λ j. record {
      node = column_back (range_at c) (λ r. r.node) a n max_records fits 0 0 c.node lent.node (λ i. refl) j;
      start = column_back (range_at c) (λ r. r.start) a n max_records fits 0 0 c.start lent.start (λ i. refl) j;
      end = column_back (range_at c) (λ r. r.end) a n max_records fits 0 0 c.end lent.end (λ i. refl) j;
      id = column_back (range_at c) (λ r. r.id) a n max_records fits 0 0 c.id lent.id (λ i. refl) j;
      stamp = column_back (range_at c) (λ r. r.stamp) a n max_records fits 0 0 c.stamp lent.stamp (λ i. refl) j;
      touched = column_back (range_at c) (λ r. r.touched) a n max_records fits no_time nan c.touched lent.touched (λ i. refl) j;
      write = column_back (range_at c) (λ r. r.write) a n max_records fits 0 0 c.write lent.write (λ i. refl) j;
    })

-- ---- pins in their pool

-- what is read past a pool's end
abbrev no_pin : Pin
no_pin = record { node = 0; start = 0; end = 0; count = 0 }

module _ (a k : ℕ) (ps : List Pin) (c : Pins) (lent : PinsLent c) (short : length ps ≤ k) (fits : a + k ≤ max_pins) where
  pub pins-lent : PinsLent (lay_pins a k ps c)
  unfolding lay_pins
  pins-lent =
      record {
        node = column_long a k max_pins ps short fits (λ p. p.node) 0 c.node lent.node;
        start = column_long a k max_pins ps short fits (λ p. p.start) 0 c.start lent.start;
        end = column_long a k max_pins ps short fits (λ p. p.end) 0 c.end lent.end;
        count = column_long a k max_pins ps short fits (λ p. p.count) 0 c.count lent.count;
      }

  pin_in : (i : ℕ) → i < length ps → pin_at (lay_pins a k ps c) (a + i) ≡ get_or ps i no_pin
  unfolding lay_pins
  pin_in i h =
      λ j. record {
        node = column_in a k max_pins ps short fits (λ p. p.node) 0 c.node lent.node i no_pin h j;
        start = column_in a k max_pins ps short fits (λ p. p.start) 0 c.start lent.start i no_pin h j;
        end = column_in a k max_pins ps short fits (λ p. p.end) 0 c.end lent.end i no_pin h j;
        count = column_in a k max_pins ps short fits (λ p. p.count) 0 c.count lent.count i no_pin h j;
      }

  pin-off : (i : ℕ) → Off a k i → pin_at (lay_pins a k ps c) i ≡ pin_at c i
  unfolding lay_pins
  pin-off i h =
      λ j. record {
        node = column_off a k max_pins ps short fits (λ p. p.node) 0 c.node lent.node i 0 h j;
        start = column_off a k max_pins ps short fits (λ p. p.start) 0 c.start lent.start i 0 h j;
        end = column_off a k max_pins ps short fits (λ p. p.end) 0 c.end lent.end i 0 h j;
        count = column_off a k max_pins ps short fits (λ p. p.count) 0 c.count lent.count i 0 h j;
      }

  pub pins_in_lem : pins (lay_pins a k ps c) a (length ps) ≡ ps
  pins_in_lem = rw pins-rows (rows-list (pin_at (lay_pins a k ps c)) a ps no_pin pin_in)

  pub pins-off : (b n : ℕ) → Apart b n a k → pins (lay_pins a k ps c) b n ≡ pins c b n
  pins-off b n h =
      rw (pins-rows (lay_pins a k ps c) b n, pins-rows c b n)
      (rows_same (pin_at (lay_pins a k ps c)) (pin_at c) b n (λ i low high. pin-off i (apart-off b n a k h i low high)))

pub pins-back : (a n : ℕ) (c : Pins) → PinsLent c → a + n ≤ max_pins → lay_pins a n (pins c a n) c ≡ c
unfolding lay_pins
pins-back a n c lent fits =
    rw (pins-rows c a n)
    (λ j. record {
      node = column_back (pin_at c) (λ p. p.node) a n max_pins fits 0 0 c.node lent.node (λ i. refl) j;
      start = column_back (pin_at c) (λ p. p.start) a n max_pins fits 0 0 c.start lent.start (λ i. refl) j;
      end = column_back (pin_at c) (λ p. p.end) a n max_pins fits 0 0 c.end lent.end (λ i. refl) j;
      count = column_back (pin_at c) (λ p. p.count) a n max_pins fits 0 0 c.count lent.count (λ i. refl) j;
    })
