-- What the code writes into each column is the list of entries with that change, laid where it was read; and what is laid is read back. Assumes nothing.
use Prim.Native.Nat.{ℕ, ◌+◌, ◌-◌, ◌≤◌, ◌<◌}
use mathlib.Core.Path.{◌≡◌, refl, sym, ap, ◌∙◌}
use mathlib.Core.List.{List, ◌++◌, map}
use native.Mathlib.Omega.{arith}
use lib.ListN.{length, length-map, get_or, set, take, drop, length-set, take-append-drop}
use lib.Seq.{take-take, length-take-le, take-set-le, drop-set-add, take-set-lt, drop-set-lt, drop-drop, map-set_same}
use Rattle.model.specs.State.{Pins, Pin, pin_at}
use Rattle.model.specs.Store.{lay, pins, lay_pins}
use Rattle.model.specs.Pins.{counted}
use Rattle.shape_state.specs.Lent.{pins_of}
use Rattle.pool_range.specs.Cols.{put_at, cut_at, insert_at, remove_at}
use Rattle.pool_range.proofs.Records.{map_insert_at, map_remove_at, map_set}
use Rattle.pool_range.proofs.Laid.{lay-full, put-lay, cut-lay}
use Rattle.pool_part.specs.Parts.{mid, back}
use Rattle.pool_part.proofs.Parts.{back-lay, mid-long, pins_eq}
use Rattle.theory_lay.proofs.Lay.{lay-same, column_in}
use Rattle.theory_lay.proofs.Rows.{pins-rows, pins_length, rows-list, rows_column}
use Rattle.pool_pin.specs.EntryPlace.{PinsFrom}

-- ---- a column: w places from a on, of which the first n are used

module _ (a w n : ℕ) (l : List ℕ) (few : n ≤ w) (long : a + w ≤ length l) where
  part-used : take n (mid a w l) ≡ take n (drop a l)
  part-used = take-take n w (drop a l) few

  used-long : length (take n (mid a w l)) ≡ n
  used-long = length-take-le n (mid a w l) (omega (arith, mid-long a w l long))

  part-laid : lay 0 0 n (take n (mid a w l)) (mid a w l) ≡ mid a w l
  part-laid = lay-full 0 n (take n (mid a w l)) (mid a w l) used-long ∙ take-append-drop n (mid a w l)

  put_column : (k x : ℕ) → k ≤ n → n < w → back a w (put_at k x n (mid a w l)) l ≡ lay 0 a (n + 1) (insert_at k x (take n (drop a l))) l
  put_column k x h room =
      ap (λ (t : List ℕ). back a w (put_at k x n t) l) (sym part-laid)
      ∙ ap (λ (t : List ℕ). back a w t l) (put-lay 0 k n x (take n (mid a w l)) (mid a w l) used-long h)
      ∙ back-lay 0 a w (n + 1) (insert_at k x (take n (mid a w l))) l (omega arith)
      ∙ ap (λ (t : List ℕ). lay 0 a (n + 1) (insert_at k x t) l) part-used

  cut_column : (k : ℕ) → k < n → back a w (cut_at 0 k n (mid a w l)) l ≡ lay 0 a n (remove_at k (take n (drop a l))) l
  cut_column k h =
      ap (λ (t : List ℕ). back a w (cut_at 0 k n t) l) (sym part-laid)
      ∙ ap (λ (t : List ℕ). back a w t l) (cut-lay 0 k n n (take n (mid a w l)) (mid a w l) used-long (omega arith) h)
      ∙ back-lay 0 a w n (remove_at k (take n (mid a w l))) l few
      ∙ ap (λ (t : List ℕ). lay 0 a n (remove_at k t) l) part-used

  -- one of them set
  set_column : (k x : ℕ) → k < n → set l (a + k) x ≡ lay 0 a n (set (take n (drop a l)) k x) l
  unfolding lay
  set_column k x h =
      let used-at : length (take n (drop a l)) ≡ n = ap length (sym part-used) ∙ used-long in
      let z : n - length (set (take n (drop a l)) k x) ≡ 0 = omega (arith, length-set (take n (drop a l)) k x, used-at) in
      let tail : set (drop a l) k x ≡ set (take n (drop a l)) k x ++ drop n (drop a l) =
      sym (take-append-drop n (set (drop a l) k x)) ∙ rw (take-set-lt n (drop a l) k x h, drop-set-lt n (drop a l) k x h) in
      sym (take-append-drop a (set l (a + k) x))
      ∙ rw (take-set-le a l (a + k) x (omega arith), drop-set-add a l k x, z, tail, drop-drop n a l)

-- ---- the four columns

-- a column of the n entries from a on
module _ (a n : ℕ) (c : Pins) (f : Pin → ℕ) (l : List ℕ) (same : (i : ℕ) → f (pin_at c i) ≡ get_or l i 0) where
  pub column : a + n ≤ length l → map f (pins c a n) ≡ take n (drop a l)
  column h = rw pins-rows (rows_column f (pin_at c) l 0 a n same h)

  -- a list that has this column, laid where it was read
  column_same : (qs : List Pin) → a + n ≤ length l → map f qs ≡ map f (pins c a n) → lay 0 a n (map f qs) l ≡ l
  column_same qs h e = lay-same 0 a n (map f qs) l (ap length e ∙ length-map (pins c a n) f ∙ pins_length c a n) (e ∙ column h)

-- what is read past a column's end
abbrev no_pin : Pin
no_pin = record { node = 0; start = 0; end = 0; count = 0 }

module _ (a n : ℕ) (c : Pins) (few : n ≤ 32) (lent : PinsFrom a c) where
  put_one : (k : ℕ) (p : Pin) → k ≤ n → n < 32 → (f : Pin → ℕ) (l : List ℕ) → ((i : ℕ) → f (pin_at c i) ≡ get_or l i 0) → a + 32 ≤ length l
      → back a 32 (put_at k (f p) n (mid a 32 l)) l ≡ lay 0 a (n + 1) (map f (insert_at k p (pins c a n))) l
  put_one k p h room f l same long =
      put_column a 32 n l few long k (f p) h room
      ∙ ap (λ (t : List ℕ). lay 0 a (n + 1) t l)
      (ap (insert_at k (f p)) (sym (column a n c f l same (omega arith))) ∙ sym (map_insert_at f k p (pins c a n)))

  cut-one : (k : ℕ) → k < n → (f : Pin → ℕ) (l : List ℕ) → ((i : ℕ) → f (pin_at c i) ≡ get_or l i 0) → a + 32 ≤ length l
      → back a 32 (cut_at 0 k n (mid a 32 l)) l ≡ lay 0 a n (map f (remove_at k (pins c a n))) l
  cut-one k h f l same long =
      cut_column a 32 n l few long k h
      ∙ ap (λ (t : List ℕ). lay 0 a n t l) (ap (remove_at k) (sym (column a n c f l same (omega arith))) ∙ sym (map_remove_at f k (pins c a n)))

  same-one : (k : ℕ) (q p : Pin) (f : Pin → ℕ) (l : List ℕ) → ((i : ℕ) → f (pin_at c i) ≡ get_or l i 0) → a + 32 ≤ length l
      → f q ≡ f (get_or (pins c a n) k p) → l ≡ lay 0 a n (map f (set (pins c a n) k q)) l
  same-one k q p f l same long e = sym (column_same a n c f l same (set (pins c a n) k q) (omega arith) (map-set_same f (pins c a n) k q p e))

  -- an entry put in; w is the width of the part as it was lent
  pub put-given : (w k : ℕ) (p : Pin) (x y z v : List ℕ) → w ≡ 32 → k ≤ n → n < 32 → x ≡ put_at k p.node n (mid a w c.node)
      → y ≡ put_at k p.start n (mid a w c.start) → z ≡ put_at k p.end n (mid a w c.end) → v ≡ put_at k p.count n (mid a w c.count)
      → pins_of (back a w x c.node) (back a w y c.start) (back a w z c.end) (back a w v c.count)
      ≡ lay_pins a (n + 1) (insert_at k p (pins c a n)) c
  unfolding lay_pins
  put-given w k p x y z v width h room px py pz pv =
      rw (px, py, pz, pv, width)
      (pins_eq (put_one k p h room (λ p. p.node) c.node (λ i. refl) lent.node)
      (put_one k p h room (λ p. p.start) c.start (λ i. refl) lent.start)
      (put_one k p h room (λ p. p.end) c.end (λ i. refl) lent.end)
      (put_one k p h room (λ p. p.count) c.count (λ i. refl) lent.count))

  -- an entry cut out
  pub cut-given : (w k : ℕ) (x y z v : List ℕ) → w ≡ 32 → k < n → x ≡ cut_at 0 k n (mid a w c.node)
      → y ≡ cut_at 0 k n (mid a w c.start) → z ≡ cut_at 0 k n (mid a w c.end) → v ≡ cut_at 0 k n (mid a w c.count)
      → pins_of (back a w x c.node) (back a w y c.start) (back a w z c.end) (back a w v c.count)
      ≡ lay_pins a n (remove_at k (pins c a n)) c
  unfolding lay_pins
  cut-given w k x y z v width h px py pz pv =
      rw (px, py, pz, pv, width)
      (pins_eq (cut-one k h (λ p. p.node) c.node (λ i. refl) lent.node) (cut-one k h (λ p. p.start) c.start (λ i. refl) lent.start)
      (cut-one k h (λ p. p.end) c.end (λ i. refl) lent.end) (cut-one k h (λ p. p.count) c.count (λ i. refl) lent.count))

  -- another count
  pub set_given : (k x : ℕ) (p : Pin) → k < n
      → pins_of c.node c.start c.end (set c.count (a + k) x) ≡ lay_pins a n (set (pins c a n) k (counted (get_or (pins c a n) k p) x)) c
  unfolding lay_pins
  set_given k x p h =
      let ps = pins c a n in
      let q = counted (get_or ps k p) x in
      let fits : a + n ≤ length c.count = omega (arith, lent.count) in
      pins_eq (same-one k q p (λ p. p.node) c.node (λ i. refl) lent.node refl) (same-one k q p (λ p. p.start) c.start (λ i. refl) lent.start refl)
      (same-one k q p (λ p. p.end) c.end (λ i. refl) lent.end refl)
      (set_column a 32 n c.count few lent.count k x h
      ∙ ap (λ (t : List ℕ). lay 0 a n t c.count)
      (ap (λ (t : List ℕ). set t k x) (sym (column a n c (λ p. p.count) c.count (λ i. refl) fits)) ∙ sym (map_set (λ p. p.count) ps k q)))

  -- to lay back what was read changes nothing
  pub laid_same : lay_pins a n (pins c a n) c ≡ c
  unfolding lay_pins
  laid_same =
      pins_eq (column_same a n c (λ p. p.node) c.node (λ i. refl) (pins c a n) (omega (arith, lent.node)) refl)
      (column_same a n c (λ p. p.start) c.start (λ i. refl) (pins c a n) (omega (arith, lent.start)) refl)
      (column_same a n c (λ p. p.end) c.end (λ i. refl) (pins c a n) (omega (arith, lent.end)) refl)
      (column_same a n c (λ p. p.count) c.count (λ i. refl) (pins c a n) (omega (arith, lent.count)) refl)

  -- what is laid is read back
  module _ (ps : List Pin) (short : length ps ≤ n) where
    entry_read : (i : ℕ) → i < length ps → pin_at (lay_pins a n ps c) (a + i) ≡ get_or ps i no_pin
    unfolding lay_pins
    entry_read i h =
        let fits : a + n ≤ a + 32 = omega arith in
        λ j. record {
          node = column_in a n (a + 32) ps short fits (λ p. p.node) 0 c.node lent.node i no_pin h j;
          start = column_in a n (a + 32) ps short fits (λ p. p.start) 0 c.start lent.start i no_pin h j;
          end = column_in a n (a + 32) ps short fits (λ p. p.end) 0 c.end lent.end i no_pin h j;
          count = column_in a n (a + 32) ps short fits (λ p. p.count) 0 c.count lent.count i no_pin h j;
        }

    pub laid-read : pins (lay_pins a n ps c) a (length ps) ≡ ps
    laid-read = rw pins-rows (rows-list (pin_at (lay_pins a n ps c)) a ps no_pin entry_read)

-- ---- a store's part of 32 places

pub width : (a : ℕ) → (a + 32) - a ≡ 32
width a = omega arith
