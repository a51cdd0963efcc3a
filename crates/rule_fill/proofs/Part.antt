-- A store's part by itself: ranges laid from its front are read back, laying once more forgets what was laid, and to lay what is read changes nothing.
use Prim.Native.Nat.{ℕ, ◌+◌, ◌≤◌, ◌<◌}
use mathlib.Core.Path.{◌≡◌, refl, ◌∙◌}
use mathlib.Core.List.{List, map}
use native.Mathlib.Omega.{arith}
use lib.ListN.{length, length-map, get_or}
use lib.Ieee.{nan}
use Rattle.model.specs.State.{Ranges, Range, range_at}
use Rattle.model.specs.Store.{ranges, lay, lay_ranges, no_time}
use Rattle.theory_lay.proofs.Lay.{lay_length, lay-lay, lay-same, column_in}
use Rattle.theory_lay.proofs.Rows.{rows, rows_length, rows-list, rows_column, ranges-rows}
use Rattle.pool_range.specs.Part.{Sized}
use Rattle.pool_range.proofs.Records.{ranges_eq}

-- ---- one column

col_long : {A : Type 0} (f : Range → A) (blank : A) (k : ℕ) (rs : List Range) (l : List A) → length rs ≤ k → k ≤ 128 → length l ≡ 128
    → length (lay blank 0 k (map f rs) l) ≡ 128
col_long f blank k rs l h g e = lay_length blank 0 k (map f rs) l (omega (arith, length-map rs f)) (omega arith) ∙ e

col_in : {A : Type 0} (f : Range → A) (blank : A) (k : ℕ) (rs : List Range) (l : List A) → length rs ≤ k → k ≤ 128 → length l ≡ 128
    → (i : ℕ) (d : Range) → i < length rs → get_or (lay blank 0 k (map f rs) l) (0 + i) (f d) ≡ f (get_or rs i d)
col_in f blank k rs l h g e = column_in 0 k 128 rs h (omega arith) f blank l (omega arith)

col_twice : {A : Type 0} (f : Range → A) (blank : A) (j k : ℕ) (xs ys : List Range) (l : List A) → j ≤ k → length xs ≤ j → j ≤ 128 → length l ≡ 128
    → lay blank 0 k (map f ys) (lay blank 0 j (map f xs) l) ≡ lay blank 0 k (map f ys) l
col_twice f blank j k xs ys l w h g e = lay-lay blank 0 j k (map f xs) (map f ys) l w (omega (arith, length-map xs f)) (omega arith)

col_back : {A : Type 0} (g : ℕ → Range) (f : Range → A) (blank d : A) (n : ℕ) (l : List A) → n ≤ 128 → length l ≡ 128
    → ((i : ℕ) → f (g i) ≡ get_or l i d) → lay blank 0 n (map f (rows g 0 n)) l ≡ l
col_back g f blank d n l h e same =
    lay-same blank 0 n (map f (rows g 0 n)) l (length-map (rows g 0 n) f ∙ rows_length g 0 n) (rows_column f g l d 0 n same (omega arith))

-- ---- all seven

abbrev no_range : Range
no_range = record { node = 0; start = 0; end = 0; id = 0; stamp = 0; touched = nan; write = 0 }

pub sized-laid : (k : ℕ) (rs : List Range) (c : Ranges) → Sized 128 c → length rs ≤ k → k ≤ 128 → Sized 128 (lay_ranges 0 k rs c)
unfolding lay_ranges
sized-laid k rs c s h g =
    record {
      node = col_long (λ r. r.node) 0 k rs c.node h g s.node;
      start = col_long (λ r. r.start) 0 k rs c.start h g s.start;
      end = col_long (λ r. r.end) 0 k rs c.end h g s.end;
      id = col_long (λ r. r.id) 0 k rs c.id h g s.id;
      stamp = col_long (λ r. r.stamp) 0 k rs c.stamp h g s.stamp;
      touched = col_long (λ r. r.touched) no_time k rs c.touched h g s.touched;
      write = col_long (λ r. r.write) 0 k rs c.write h g s.write;
    }

range_laid : (k : ℕ) (rs : List Range) (c : Ranges) → Sized 128 c → length rs ≤ k → k ≤ 128 → (i : ℕ) → i < length rs
    → range_at (lay_ranges 0 k rs c) (0 + i) ≡ get_or rs i no_range
unfolding lay_ranges
range_laid k rs c s h g i l =
    λ j. record {
      node = col_in (λ r. r.node) 0 k rs c.node h g s.node i no_range l j;
      start = col_in (λ r. r.start) 0 k rs c.start h g s.start i no_range l j;
      end = col_in (λ r. r.end) 0 k rs c.end h g s.end i no_range l j;
      id = col_in (λ r. r.id) 0 k rs c.id h g s.id i no_range l j;
      stamp = col_in (λ r. r.stamp) 0 k rs c.stamp h g s.stamp i no_range l j;
      touched = col_in (λ r. r.touched) no_time k rs c.touched h g s.touched i no_range l j;
      write = col_in (λ r. r.write) 0 k rs c.write h g s.write i no_range l j;
    }

ranges-own : (rs : List Range) (c : Ranges) → Sized 128 c → length rs ≤ 128 → ranges (lay_ranges 0 (length rs) rs c) 0 (length rs) ≡ rs
ranges-own rs c s h =
    rw ranges-rows (rows-list (range_at (lay_ranges 0 (length rs) rs c)) 0 rs no_range (range_laid (length rs) rs c s (omega arith) h))

pub ranges-laid : (k : ℕ) (rs : List Range) (c : Ranges) → Sized 128 c → length rs ≡ k → k ≤ 128 → ranges (lay_ranges 0 k rs c) 0 k ≡ rs
ranges-laid k rs c s e h = rw (← e) (ranges-own rs c s (omega arith))

pub laid_twice : (j k : ℕ) (xs ys : List Range) (c : Ranges) → Sized 128 c → j ≤ k → length xs ≤ j → j ≤ 128
    → lay_ranges 0 k ys (lay_ranges 0 j xs c) ≡ lay_ranges 0 k ys c
unfolding lay_ranges
laid_twice j k xs ys c s w h g =
    ranges_eq (col_twice (λ r. r.node) 0 j k xs ys _ w h g s.node) (col_twice (λ r. r.start) 0 j k xs ys _ w h g s.start)
    (col_twice (λ r. r.end) 0 j k xs ys _ w h g s.end) (col_twice (λ r. r.id) 0 j k xs ys _ w h g s.id)
    (col_twice (λ r. r.stamp) 0 j k xs ys _ w h g s.stamp) (col_twice (λ r. r.touched) no_time j k xs ys _ w h g s.touched)
    (col_twice (λ r. r.write) 0 j k xs ys _ w h g s.write)

pub laid-back : (n : ℕ) (c : Ranges) → Sized 128 c → n ≤ 128 → lay_ranges 0 n (ranges c 0 n) c ≡ c
unfolding lay_ranges
laid-back n c s h =
    rw (ranges-rows c 0 n)
    (ranges_eq (col_back (range_at c) (λ r. r.node) 0 0 n _ h s.node (λ i. refl)) (col_back (range_at c) (λ r. r.start) 0 0 n _ h s.start (λ i. refl))
    (col_back (range_at c) (λ r. r.end) 0 0 n _ h s.end (λ i. refl)) (col_back (range_at c) (λ r. r.id) 0 0 n _ h s.id (λ i. refl))
    (col_back (range_at c) (λ r. r.stamp) 0 0 n _ h s.stamp (λ i. refl))
    (col_back (range_at c) (λ r. r.touched) no_time nan n _ h s.touched (λ i. refl)) (col_back (range_at c) (λ r. r.write) 0 0 n _ h s.write (λ i. refl)))
