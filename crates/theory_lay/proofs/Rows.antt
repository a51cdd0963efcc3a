-- `ranges` and `pins` read n places, one after another: laws of such lists for any reader, then for the two; their sums are those of `Sound`.
-- Assumes nothing.
use Prim.Native.Nat.{ℕ, zero, suc, ◌+◌, ◌-◌, ◌*◌, ◌≤◌, ◌<◌}
use mathlib.Core.Path.{◌≡◌, refl, sym, ap, ◌∙◌}
use mathlib.Core.Bool.{Bool, true, false, ◌||◌}
use mathlib.Core.List.{List, [], ◌∷◌, ◌++◌, map}
use native.Mathlib.Omega.{arith}
use native.Mathlib.Nat.{add-zero, add-suc, suc-add, zero-add}
use lib.ListN.{length, get_or, take, drop}
use lib.Seq.{drop-cons, ext_get_or}
use lib.Dec.{eqb}
use borrow.Author.Tests.{eqb-false, ne_eqb}
use Rattle.model.specs.Words.{Each}
use Rattle.model.specs.Sizes.{store_records, store_pins}
use Rattle.model.specs.State.{Ranges, Pins, State, Range, Pin, range_at, pin_at}
use Rattle.model.specs.Sound.{held_by, pinned_by}
use Rattle.model.specs.Store.{ranges, pins, length_of, total, on_node}
use Rattle.model.specs.Pins.{pinned_in}

-- what f reads at n places from a on
abbrev pub rows : {A : Type 0} → (ℕ → A) → ℕ → ℕ → List A
rows f a zero = []
rows f a (suc n) = f a ∷ rows f (suc a) n

module _ {A : Type 0} where
  pub rows_length : (f : ℕ → A) (a n : ℕ) → length (rows f a n) ≡ n
  rows_length f a zero = refl
  rows_length f a (suc n) = ap suc (rows_length f (suc a) n)

  pub rows_at : (f : ℕ → A) (a n i : ℕ) (d : A) → i < n → get_or (rows f a n) i d ≡ f (a + i)
  rows_at f a zero i d h = absurd (omega arith)
  rows_at f a (suc n) zero d h = rw add-zero
  rows_at f a (suc n) (suc i) d h = rw (add-suc, ← suc-add) (rows_at f (suc a) n i d (omega arith))

  -- a list is read where each of its elements stands
  pub rows-list : (f : ℕ → A) (a : ℕ) (xs : List A) (d : A) → ((i : ℕ) → i < length xs → f (a + i) ≡ get_or xs i d) → rows f a (length xs) ≡ xs
  rows-list f a xs d same =
      ext_get_or d _ xs (rows_length f a (length xs)) (λ i h. let l : i < length xs = rw rows_length at h in rows_at f a (length xs) i d l ∙ same i l)

  pub rows_same : (f g : ℕ → A) (a n : ℕ) → Each a (a + n) (λ i. f i ≡ g i) → rows f a n ≡ rows g a n
  rows_same f g a zero same = refl
  rows_same f g a (suc n) same =
      λ j. same a (omega arith) (omega arith) j ∷ rows_same f g (suc a) n (λ i low high. same i (omega arith) (omega arith)) j

  pub rows_last : (f : ℕ → A) (a n : ℕ) → rows f a (suc n) ≡ rows f a n ++ (f (a + n) ∷ [])
  rows_last f a zero = rw add-zero
  rows_last f a (suc n) = rw (add-suc, ← suc-add) (ap (λ (l : List A). f a ∷ l) (rows_last f (suc a) n))

  -- a column of what is read
  pub rows_column : {B : Type 0} (f : A → B) (g : ℕ → A) (l : List B) (d : B) (a n : ℕ) → ((i : ℕ) → f (g i) ≡ get_or l i d) → a + n ≤ length l
      → map f (rows g a n) ≡ take n (drop a l)
  rows_column f g l d a zero same fits = refl
  rows_column f g l d a (suc n) same fits =
      rw (drop-cons l a d (omega arith), same a) (ap (λ (t : List _). get_or l a d ∷ t) (rows_column f g l d (suc a) n same (omega arith)))

-- ---- ranges

pub ranges-rows : (c : Ranges) (a n : ℕ) → ranges c a n ≡ rows (range_at c) a n
unfolding ranges
ranges-rows c a zero = refl
ranges-rows c a (suc n) = ap (λ (l : List Range). range_at c a ∷ l) (ranges-rows c (suc a) n)

pub ranges_length : (c : Ranges) (a n : ℕ) → length (ranges c a n) ≡ n
ranges_length c a n = rw ranges-rows (rows_length (range_at c) a n)

pub ranges-at : (c : Ranges) (a n i : ℕ) (d : Range) → i < n → get_or (ranges c a n) i d ≡ range_at c (a + i)
ranges-at c a n i d h = rw ranges-rows (rows_at (range_at c) a n i d h)

pub total_append : (xs ys : List Range) → total (xs ++ ys) ≡ total xs + total ys
unfolding total
total_append [] ys = rw zero-add
total_append (r ∷ xs) ys = rw (total_append xs ys) (omega arith)

ranges-last : (c : Ranges) (a n : ℕ) → ranges c a (suc n) ≡ ranges c a n ++ (range_at c (a + n) ∷ [])
ranges-last c a n = rw (ranges-rows c a (suc n), ranges-rows c a n) (rows_last (range_at c) a n)

total-last : (c : Ranges) (a n : ℕ) → total (ranges c a (suc n)) ≡ total (ranges c a n) + length_of (range_at c (a + n))
unfolding total
total-last c a n = ap total (ranges-last c a n) ∙ total_append (ranges c a n) (range_at c (a + n) ∷ []) ∙ rw add-zero

pub held-total : (st : State) (s n : ℕ) → held_by st s n ≡ total (ranges st.ranges (store_records * s) n)
unfolding held_by total ranges
held-total st s zero = refl
held-total st s (suc n) = sym (total-last st.ranges (store_records * s) n ∙ rw (held-total st s n))

-- ---- is any range on node v?

or_left : (b c : Bool) → (b || c) ≡ false → b ≡ false
or_left true c e = e
or_left false c e = refl

or_right : (b c : Bool) → (b || c) ≡ false → c ≡ false
or_right true c e = cc
or_right false c e = e

pub off-each : (v : ℕ) (rs : List Range) (d : Range) → on_node v rs ≡ false → (k : ℕ) → k < length rs → (get_or rs k d).node ≡ v → ⊥
unfolding on_node
off-each v [] d none k h = absurd (omega arith)
off-each v (r ∷ rs) d none zero h = eqb-false r.node v (or_left _ _ none)
off-each v (r ∷ rs) d none (suc k) h = off-each v rs d (or_right (eqb r.node v) _ none) k (omega arith)

pub each-off : (v : ℕ) (rs : List Range) (d : Range) → ((k : ℕ) → k < length rs → (get_or rs k d).node ≡ v → ⊥) → on_node v rs ≡ false
unfolding on_node
each-off v [] d none = refl
each-off v (r ∷ rs) d none = rw (ne_eqb r.node v (none 0 (omega arith))) (each-off v rs d (λ k h. none (suc k) (omega arith)))

-- the same of the places that are read
pub off-none : (c : Ranges) (a n v : ℕ) → on_node v (ranges c a n) ≡ false → Each 0 n (λ k. (range_at c (a + k)).node ≡ v → ⊥)
off-none c a n v none k low high =
    let d = range_at c a in
    rw (ranges-at c a n k d high) at (off-each v (ranges c a n) d none k (rw ranges_length high))

pub none-off : (c : Ranges) (a n v : ℕ) → Each 0 n (λ k. (range_at c (a + k)).node ≡ v → ⊥) → on_node v (ranges c a n) ≡ false
none-off c a n v none =
    let d = range_at c a in
    each-off v (ranges c a n) d (λ k h. let l : k < n = rw ranges_length at h in rw (ranges-at c a n k d l) (none k (omega arith) l))

-- ---- pins

pub pins-rows : (c : Pins) (a n : ℕ) → pins c a n ≡ rows (pin_at c) a n
unfolding pins
pins-rows c a zero = refl
pins-rows c a (suc n) = ap (λ (l : List Pin). pin_at c a ∷ l) (pins-rows c (suc a) n)

pub pins_length : (c : Pins) (a n : ℕ) → length (pins c a n) ≡ n
pins_length c a n = rw pins-rows (rows_length (pin_at c) a n)

pub pins-at : (c : Pins) (a n i : ℕ) (d : Pin) → i < n → get_or (pins c a n) i d ≡ pin_at c (a + i)
pins-at c a n i d h = rw pins-rows (rows_at (pin_at c) a n i d h)

pub pinned_append : (xs ys : List Pin) → pinned_in (xs ++ ys) ≡ pinned_in xs + pinned_in ys
unfolding pinned_in
pinned_append [] ys = rw zero-add
pinned_append (p ∷ ps) ys = rw (pinned_append ps ys) (omega arith)

pins-last : (c : Pins) (a n : ℕ) → pins c a (suc n) ≡ pins c a n ++ (pin_at c (a + n) ∷ [])
pins-last c a n = rw (pins-rows c a (suc n), pins-rows c a n) (rows_last (pin_at c) a n)

pinned-last : (c : Pins) (a n : ℕ)
    → pinned_in (pins c a (suc n)) ≡ pinned_in (pins c a n) + ((pin_at c (a + n)).end - (pin_at c (a + n)).start) * (pin_at c (a + n)).count
unfolding pinned_in
pinned-last c a n = ap pinned_in (pins-last c a n) ∙ pinned_append (pins c a n) (pin_at c (a + n) ∷ []) ∙ rw add-zero

pub pinned-sum : (st : State) (s n : ℕ) → pinned_by st s n ≡ pinned_in (pins st.pins (store_pins * s) n)
unfolding pinned_by pinned_in pins
pinned-sum st s zero = refl
pinned-sum st s (suc n) = sym (pinned-last st.pins (store_pins * s) n ∙ rw (pinned-sum st s n))
