-- A list laid into a store's part, and the part given back, is the list laid into the pool at the part's place; and reading the part from its front is
-- reading the pool from there.
use mathlib.Core.Path.{◌≡◌, refl, ap, ◌∙◌}
use mathlib.Core.List.{List, [], ◌∷◌, ◌++◌, map, append_assoc}
use Prim.Native.Nat.{ℕ, zero, suc, ◌+◌, ◌-◌, ◌*◌, ◌≤◌, ◌<◌}
use native.Mathlib.Omega.{arith}
use lib.ListN.{length, get_or, take, drop, replicate, length-take, length-drop}
use lib.Seq.{drop-drop, get_or-take, get_or-drop}
use lib.Ieee.{nan}
use borrow.Rule.Slice.PartMut.{same_len_mid}
use Rattle.model.specs.Sizes.{max_records}
use Rattle.model.specs.State.{Ranges, Pins, Range, Pin, range_at, pin_at}
use Rattle.model.specs.Sound.{RangesLent}
use Rattle.model.specs.Store.{lay, lay_ranges, lay_pins, ranges, pins, no_time}
use Rattle.shape_state.specs.Lent.{pins_of}
use Rattle.pool_range.proofs.Laid.{lay-front}
use Rattle.pool_range.specs.Part.{Sized}
use Rattle.pool_range.proofs.Records.{ranges_eq}
use Rattle.pool_part.proofs.Bounds.{mark_ends}
use Rattle.pool_part.specs.Parts.{mid, back, mid_ranges, back_ranges, mid_pins, back_pins}

-- ---- one column

drop_take : {A : Type 0} (k w : ℕ) (l : List A) → k ≤ w → drop k (take w l) ++ drop w l ≡ drop k l
drop_take zero w l h = lib.ListN.take-append-drop w l
drop_take (suc k) zero l h = absurd (omega arith)
drop_take (suc k) (suc w) [] h = refl
drop_take (suc k) (suc w) (x ∷ l) h = drop_take k w l (omega arith)

pub back-lay : {A : Type 0} (blank : A) (a w k : ℕ) (xs pool : List A) → k ≤ w → back a w (lay blank 0 k xs (mid a w pool)) pool ≡ lay blank a k xs pool
unfolding lay
back-lay blank a w k xs pool h =
    ap (λ t. take a pool ++ t)
    (ap (λ t. t ++ drop w (drop a pool)) (lay-front blank k xs (mid a w pool))
    ∙ append_assoc xs (replicate (k - length xs) blank ++ drop k (mid a w pool)) (drop w (drop a pool))
    ∙ ap (λ t. xs ++ t)
    (append_assoc (replicate (k - length xs) blank) (drop k (mid a w pool)) (drop w (drop a pool))
    ∙ ap (λ t. replicate (k - length xs) blank ++ t) (drop_take k w (drop a pool) h ∙ drop-drop k a pool)))

-- a list as long as the part, given back
pub back_full : {A : Type 0} (blank : A) (a w : ℕ) (xs pool : List A) → length xs ≡ w → back a w xs pool ≡ lay blank a w xs pool
unfolding lay
back_full blank a w xs pool e =
    let z : w - length xs ≡ 0 = omega arith in
    rw z (ap (λ t. take a pool ++ (xs ++ t)) (drop-drop w a pool))

-- the pool is as long as it was, where the part of w places at the w * s th is
pub part-kept : {A : Type 0} (w s : ℕ) (pool part : List A) → length part ≡ length (mid (w * s) ((w * s + w) - w * s) pool)
    → length (back (w * s) ((w * s + w) - w * s) part pool) ≡ length pool
part-kept w s pool part h = same_len_mid (w * s) ((w * s + w) - w * s) pool part h

pub mid_at : {A : Type 0} (a w i : ℕ) (l : List A) (d : A) → i < w → get_or (mid a w l) i d ≡ get_or l (a + i) d
mid_at a w i l d h = get_or-take w (drop a l) i d h ∙ get_or-drop a l i d

pub mid-long : {A : Type 0} (a w : ℕ) (l : List A) → a + w ≤ length l → length (mid a w l) ≡ w
mid-long a w l h = length-take w (drop a l) ∙ omega (arith, length-drop a l)

-- ---- ranges

part_at : (c : Ranges) (a w i : ℕ) → i < w → range_at (mid_ranges a w c) i ≡ range_at c (a + i)
unfolding mid_ranges
part_at c a w i h =
    rw (mid_at a w i c.node 0 h, mid_at a w i c.start 0 h, mid_at a w i c.end 0 h, mid_at a w i c.id 0 h, mid_at a w i c.stamp 0 h, mid_at a w i c.touched nan h, mid_at a w i c.write 0 h)

part-from : (c : Ranges) (a w i m : ℕ) → i + m ≤ w → ranges (mid_ranges a w c) i m ≡ ranges c (a + i) m
unfolding ranges
part-from c a w i zero h = refl
part-from c a w i (suc m) h =
    let z : a + suc i ≡ suc (a + i) = omega arith in
    ap (λ t. t ∷ ranges (mid_ranges a w c) (suc i) m) (part_at c a w i (omega arith)) ∙ ap (λ t. range_at c (a + i) ∷ t) (part-from c a w (suc i) m (omega arith) ∙ ap (λ t. ranges c t m) z)

pub ranges-part : (c : Ranges) (a w n : ℕ) → n ≤ w → ranges (mid_ranges a w c) 0 n ≡ ranges c a n
ranges-part c a w n h = let z : a + 0 ≡ a = omega arith in part-from c a w 0 n (omega arith) ∙ ap (λ t. ranges c t n) z

pub ranges-back : (a w k : ℕ) (rs : List Range) (c : Ranges) → k ≤ w → back_ranges a w (lay_ranges 0 k rs (mid_ranges a w c)) c ≡ lay_ranges a k rs c
unfolding back_ranges lay_ranges mid_ranges
ranges-back a w k rs c h =
    ranges_eq (back-lay 0 a w k (map (λ r. r.node) rs) c.node h) (back-lay 0 a w k (map (λ r. r.start) rs) c.start h)
    (back-lay 0 a w k (map (λ r. r.end) rs) c.end h) (back-lay 0 a w k (map (λ r. r.id) rs) c.id h)
    (back-lay 0 a w k (map (λ r. r.stamp) rs) c.stamp h) (back-lay no_time a w k (map (λ r. r.touched) rs) c.touched h)
    (back-lay 0 a w k (map (λ r. r.write) rs) c.write h)

pub ranges-sized : (a : ℕ) (c : Ranges) → RangesLent c → a + 128 ≤ max_records → Sized 128 (mid_ranges a 128 c)
unfolding mid_ranges
ranges-sized a c l h =
    record {
      node = mid-long a 128 c.node (omega (arith, l.node));
      start = mid-long a 128 c.start (omega (arith, l.start));
      end = mid-long a 128 c.end (omega (arith, l.end));
      id = mid-long a 128 c.id (omega (arith, l.id));
      stamp = mid-long a 128 c.stamp (omega (arith, l.stamp));
      touched = mid-long a 128 c.touched (omega (arith, l.touched));
      write = mid-long a 128 c.write (omega (arith, l.write));
    }

-- ---- pins

pin-part-at : (c : Pins) (a w i : ℕ) → i < w → pin_at (mid_pins a w c) i ≡ pin_at c (a + i)
unfolding mid_pins
pin-part-at c a w i h = rw (mid_at a w i c.node 0 h, mid_at a w i c.start 0 h, mid_at a w i c.end 0 h, mid_at a w i c.count 0 h)

pin-part-from : (c : Pins) (a w i m : ℕ) → i + m ≤ w → pins (mid_pins a w c) i m ≡ pins c (a + i) m
unfolding pins
pin-part-from c a w i zero h = refl
pin-part-from c a w i (suc m) h =
    let z : a + suc i ≡ suc (a + i) = omega arith in
    ap (λ t. t ∷ pins (mid_pins a w c) (suc i) m) (pin-part-at c a w i (omega arith)) ∙ ap (λ t. pin_at c (a + i) ∷ t) (pin-part-from c a w (suc i) m (omega arith) ∙ ap (λ t. pins c t m) z)

pub pins-part : (c : Pins) (a w n : ℕ) → n ≤ w → pins (mid_pins a w c) 0 n ≡ pins c a n
pins-part c a w n h = let z : a + 0 ≡ a = omega arith in pin-part-from c a w 0 n (omega arith) ∙ ap (λ t. pins c t n) z

pub pins_eq : {a a' b b' c c' d d' : List ℕ} → a ≡ a' → b ≡ b' → c ≡ c' → d ≡ d' → pins_of a b c d ≡ pins_of a' b' c' d'
pins_eq p q r s = cc

pub pins-back : (a w k : ℕ) (ps : List Pin) (c : Pins) → k ≤ w → back_pins a w (lay_pins 0 k ps (mid_pins a w c)) c ≡ lay_pins a k ps c
unfolding back_pins lay_pins mid_pins
pins-back a w k ps c h =
    pins_eq (back-lay 0 a w k (map (λ p. p.node) ps) c.node h) (back-lay 0 a w k (map (λ p. p.start) ps) c.start h)
    (back-lay 0 a w k (map (λ p. p.end) ps) c.end h) (back-lay 0 a w k (map (λ p. p.count) ps) c.count h)

-- ---- marks

-- the marks of store s, changed in place
pub marks-back : {s : ℕ} → s < 8 → (ms : List ℕ) {part xs : List ℕ} → 2048 ≤ length ms → length part ≡ length (mid (256 * s) 256 ms) → part ≡ xs
    → back (256 * s) 256 part ms ≡ lay 0 (256 * s) 256 xs ms
marks-back {s} h ms {part} many kept e =
    back_full 0 (256 * s) 256 part ms (kept ∙ mid-long (256 * s) 256 ms (mark_ends h many)) ∙ ap (λ (x : List ℕ). lay 0 (256 * s) 256 x ms) e
