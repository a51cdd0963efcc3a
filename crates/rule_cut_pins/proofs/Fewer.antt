-- To add an entry makes a list no shorter and adds its count to the counts: so what can be held after an entry is added could be held before.
-- Assumes nothing.
use Prim.Native.Nat.{ℕ, zero, suc, ◌+◌, ◌-◌, ◌≤◌, ◌<◌}
use mathlib.Core.Path.{◌≡◌, refl, sym, ap, subst, ◌∙◌}
use mathlib.Core.Bool.{Bool, true, false, ◌&&◌}
use mathlib.Core.List.{List, [], ◌∷◌}
use native.Mathlib.Nat.{sub-zero}
use native.Mathlib.Omega.{arith}
use lib.Dec.{ltb, eqb}
use borrow.Author.Tests.{eq-eqb, ne_eqb}
use lib.ListN.{length, get_or, take, length-map}
use lib.Seq.{length-take-le}
use Rattle.model.specs.State.{Pins, Pin, pin_at}
use Rattle.model.specs.Store.{pins, plus}
use Rattle.model.specs.Pins.{same_span, pin_ahead, add_pin}
use Rattle.model.specs.Insert.{put_pin, pin_head, pin_tail, pin_pieces, cut_pins, pin_across, pins_across}
use Rattle.model.specs.Sizes.{max_pinned}
use Rattle.theory_lay.proofs.Rows.{pins_length}
use Rattle.pool_pin.proofs.Entries.{added, add_is}
use Rattle.rule_cut_pins.specs.Entries.{pin_from, pins_in, counts, Small, pins_across_in}
use Rattle.rule_cut_pins.specs.declared.Entries.{Entries}

-- the list with one more entry: no shorter, at most one longer, and with its count
pub record Added (p : Pin) (ps qs : List Pin) : Type 0 where
  pub least : length ps ≤ length qs
  pub most : length qs ≤ suc (length ps)
  pub sum : counts qs ≡ counts ps + p.count

pub adds : (p : Pin) (ps : List Pin) → Added p ps (add_pin p ps)
unfolding counts add_pin
adds p [] = record { least = omega arith; most = omega arith; sum = omega arith }
adds p (q ∷ qs) =
    subst (λ (l : List Pin). Added p (q ∷ qs) l) (sym (add_is p q qs (same_span p q) (pin_ahead p q) refl refl))
    (go (same_span p q) (pin_ahead p q) (adds p qs))
  where
    go : (s a : Bool) → Added p qs (add_pin p qs) → Added p (q ∷ qs) (added s a p q qs)
    go true a h = record { least = omega arith; most = omega arith; sum = omega arith }
    go false true h = record { least = omega arith; most = omega arith; sum = omega arith }
    go false false h = record { least = omega arith; most = omega arith; sum = omega arith }

pub small-less : (p : Pin) (ps : List Pin) → Small (add_pin p ps) → Small ps
small-less p ps s = let h = adds p ps in record { few = omega arith; low = omega arith }

pub count-least : (ps : List Pin) (i : ℕ) (d : Pin) → i < length ps → (get_or ps i d).count ≤ counts ps
unfolding counts
count-least [] i d h = absurd (omega arith)
count-least (p ∷ ps) zero d h = omega arith
count-least (p ∷ ps) (suc i) d h = omega (arith, count-least ps i d (omega arith))

-- ---- an entry added as its parts

small_put : (b : Bool) (p : Pin) (ps : List Pin) → Small (put_pin b p ps) → Small ps
small_put true p ps s = small-less p ps s
small_put false p ps s = s

small-pieces : (b : Bool) (k m : ℕ) (p : Pin) (ps : List Pin) → Small (pin_pieces b k m p ps) → Small ps
small-pieces true k m p ps s = small_put (ltb k p.end) (pin_tail k m p) ps (small_put (ltb p.start k) (pin_head k p) _ s)
small-pieces false k m p ps s = small-less p ps s

module _ (j k m : ℕ) (p : Pin) (ps : List Pin) where
  -- an entry of another node
  pub whole : (p.node ≡ j → ⊥) → pin_pieces (eqb p.node j) k m p ps ≡ add_pin p ps
  whole other = rw (ne_eqb p.node j other)

  -- an entry of node j, whose parts are h and t: the list xs has the tail
  module _ (same : p.node ≡ j) (t : Pin) (tail : t ≡ pin_tail k m p) (s : Small (pin_pieces (eqb p.node j) k m p ps)) where
    both : pin_pieces (eqb p.node j) k m p ps ≡ put_pin (ltb p.start k) (pin_head k p) (put_pin (ltb k p.end) t ps)
    both = rw (eq-eqb p.node j same, tail)

    pub first_small : Small (put_pin (ltb k p.end) t ps)
    first_small = small_put (ltb p.start k) (pin_head k p) _ (subst Small both s)

    module _ (h : Pin) (head : h ≡ pin_head k p) (xs : List Pin) (one : xs ≡ put_pin (ltb k p.end) t ps) where
      pub parts_are : put_pin (ltb p.start k) h xs ≡ pin_pieces (eqb p.node j) k m p ps
      parts_are = rw (head, one) (sym both)

      pub second-small : Small (put_pin (ltb p.start k) h xs)
      second-small = subst Small (sym parts_are) s

-- ---- the list is cut from its last entry on

pub record Cutting (j k m : ℕ) (c : Pins) (n : ℕ) (xs : List Pin) (i : ℕ) : Type 0 where
  pub high : i ≤ n
  pub is : xs ≡ cut_pins j k m (pins c i (n - i))

module _ {j k m : ℕ} {c : Pins} {n : ℕ} where
  pub cut-start : Cutting j k m c n [] n
  unfolding pins cut_pins
  cut-start =
      let z : n - n ≡ 0 = omega arith in
      record { high = omega arith; is = rw z }

-- the entry at place i, and those behind it
cut-from : (j k m : ℕ) (c : Pins) (n i : ℕ) → i < n
    → cut_pins j k m (pins c i (n - i)) ≡ pin_pieces (eqb (pin_at c i).node j) k m (pin_at c i) (cut_pins j k m (pins c (suc i) (n - suc i)))
unfolding pins cut_pins
cut-from j k m c n i h =
    let e : n - i ≡ suc (n - suc i) = omega arith in
    rw e

-- what stands behind a place can be held too
small-from : (j k m : ℕ) (c : Pins) (n i : ℕ) → i ≤ n → Small (cut_pins j k m (pins c 0 n)) → Small (cut_pins j k m (pins c i (n - i)))
small-from j k m c n zero h s = rw sub-zero s
small-from j k m c n (suc i) h s =
    small-pieces (eqb (pin_at c i).node j) k m (pin_at c i) (cut_pins j k m (pins c (suc i) (n - suc i)))
    (subst Small (cut-from j k m c n i (omega arith)) (small-from j k m c n i (omega arith) s))

module _ (j k m : ℕ) (c : Pins) (n : ℕ) (small : Small (cut_pins j k m (pins c 0 n))) where
  module _ (ps : List Pin) (i : ℕ) (o : Cutting j k m c n ps i) where
    module _ (some : 0 < i) (p : Pin) (read : p ≡ pin_at c (i - 1)) where
      back : i ≡ suc (i - 1)
      back = omega arith

      step : pin_pieces (eqb p.node j) k m p ps ≡ cut_pins j k m (pins c (i - 1) (n - (i - 1)))
      step =
          rw (read, o.is)
          (sym (cut-from j k m c n (i - 1) (omega (arith, o.high))
          ∙ ap (λ (x : ℕ). pin_pieces (eqb (pin_at c (i - 1)).node j) k m (pin_at c (i - 1)) (cut_pins j k m (pins c x (n - x)))) (sym back)))

      pub pieces-small : Small (pin_pieces (eqb p.node j) k m p ps)
      pieces-small = subst Small (sym step) (small-from j k m c n (i - 1) (omega (arith, o.high)) small)

      pub cut-turn : (xs : List Pin) → xs ≡ pin_pieces (eqb p.node j) k m p ps → Cutting j k m c n xs (i - 1)
      cut-turn xs e = record { high = omega (arith, o.high); is = e ∙ step }

  pub cut-end : (xs : List Pin) (i : ℕ) → Cutting j k m c n xs i → i ≤ 0 → xs ≡ cut_pins j k m (pins c 0 n)
  cut-end xs i o h =
      let e : i ≡ 0 = omega arith in
      rw (e, sub-zero) at o.is

-- ---- how many entries, and how large their counts

put-most : (b : Bool) (p : Pin) (ps : List Pin) → (length (put_pin b p ps) ≤ plus b (length ps)) × (counts (put_pin b p ps) ≤ counts ps + p.count)
put-most true p ps = let h = adds p ps in (h.most, omega (arith, h.sum))
put-most false p ps = (omega arith, omega arith)

pieces-most : (j k m : ℕ) (p : Pin) (ps : List Pin)
    → (length (pin_pieces (eqb p.node j) k m p ps) ≤ plus (pin_across j k p) (suc (length ps)))
    × (counts (pin_pieces (eqb p.node j) k m p ps) ≤ counts ps + p.count + p.count)
pieces-most j k m p ps = go (eqb p.node j)
  where
    two : (s t : Bool) (h u : Pin)
        → (length (put_pin s h (put_pin t u ps)) ≤ plus (s && t) (suc (length ps))) × (counts (put_pin s h (put_pin t u ps)) ≤ counts ps + u.count + h.count)
    two s t h u =
        let qs = put_pin t u ps in
        let rs = put_pin s h qs in
        ends s t (length qs) (length ps) (counts qs) (counts ps) (length rs) (counts rs) (put-most t u ps) (put-most s h qs)
      where
        ends : (s t : Bool) (a b c d e f : ℕ) → (a ≤ plus t b) × (c ≤ d + u.count) → (e ≤ plus s a) × (f ≤ c + h.count)
            → (e ≤ plus (s && t) (suc b)) × (f ≤ d + u.count + h.count)
        ends true true a b c d e f x y = (omega arith, omega arith)
        ends true false a b c d e f x y = (omega arith, omega arith)
        ends false true a b c d e f x y = (omega arith, omega arith)
        ends false false a b c d e f x y = (omega arith, omega arith)

    go : (e : Bool)
        → (length (pin_pieces e k m p ps) ≤ plus (e && (ltb p.start k && ltb k p.end)) (suc (length ps)))
        × (counts (pin_pieces e k m p ps) ≤ counts ps + p.count + p.count)
    go true = two (ltb p.start k) (ltb k p.end) (pin_head k p) (pin_tail k m p)
    go false = let h = adds p ps in (h.most, omega (arith, h.sum))

cut_most : (j k m : ℕ) (ps : List Pin)
    → (length (cut_pins j k m ps) ≤ length ps + pins_across j k ps) × (counts (cut_pins j k m ps) ≤ counts ps + counts ps)
unfolding cut_pins pins_across counts
cut_most j k m [] = (omega arith, omega arith)
cut_most j k m (p ∷ ps) =
    let qs = cut_pins j k m ps in
    let rs = pin_pieces (eqb p.node j) k m p qs in
    more (pin_across j k p) (length qs) (length ps) (pins_across j k ps) (counts qs) (counts ps) (length rs) (counts rs) (cut_most j k m ps)
    (pieces-most j k m p qs)
  where
    more : (b : Bool) (a c d e f g h : ℕ) → (a ≤ c + d) × (e ≤ f + f) → (g ≤ plus b (suc a)) × (h ≤ e + p.count + p.count)
        → (g ≤ suc c + plus b d) × (h ≤ p.count + f + (p.count + f))
    more true a c d e f g h x y = (omega arith, omega arith)
    more false a c d e f g h x y = (omega arith, omega arith)

pub cut-few : (j k m : ℕ) (c : Pins) (n : ℕ) → length (cut_pins j k m (pins c 0 n)) ≤ n + pins_across_in j k n c
cut-few j k m c n = omega (arith, (cut_most j k m (pins c 0 n)).0, pins_length c 0 n)

pub small_cut : (j k m : ℕ) (c : Pins) (n : ℕ) → n + pins_across_in j k n c ≤ 32 → counts (pins c 0 n) ≤ max_pinned → Small (cut_pins j k m (pins c 0 n))
small_cut j k m c n few low =
    let h = cut_most j k m (pins c 0 n) in
    record { few = omega (arith, cut-few j k m c n); low = omega (arith, h.1) }

-- the entries that were cut: as many as the list has
pub many : (l : Entries) (xs : List Pin) → l.n ≤ 32 → length l.list ≡ 32 → pins_in l ≡ xs → l.n ≡ length xs
many l xs few long e = sym (length-map (take l.n l.list) pin_from ∙ length-take-le l.n l.list (omega arith)) ∙ ap length e

pub part_of : (n x : ℕ) {m : ℕ} → n + x ≤ 32 → m ≡ 32 → n ≤ m
part_of n x h e = omega arith
