-- A cut leaves the entries as they are where none is on its node and each stands ahead of the next: to add an entry ahead of the first puts it
-- in front. Then the loop that tests it. Assumes nothing.
use Prim.Native.Nat.{ℕ, zero, suc, ◌+◌, ◌-◌, ◌≤◌, ◌<◌}
use mathlib.Core.Path.{◌≡◌, refl, sym, ◌∙◌}
use mathlib.Core.Bool.{Bool, true, false, not, ◌&&◌, ◌||◌, false≢true}
use mathlib.Core.List.{List, [], ◌∷◌}
use native.Mathlib.Numerals.{add-one}
use native.Mathlib.Nat.{sub-zero, add-zero}
use native.Mathlib.Omega.{arith}
use lib.Dec.{ltb, eqb}
use lib.ListN.{length}
use borrow.Author.Tests.{not-true, ne_eqb, lt-ltb, le-ltb, ltb-true}
use Rattle.model.specs.State.{Pins, Pin, pin_at}
use Rattle.model.specs.Store.{pins}
use Rattle.model.specs.Pins.{same_span, pin_ahead, add_pin}
use Rattle.model.specs.Insert.{cut_pins, pins_across}
use Rattle.theory_lay.proofs.Rows.{pins_length}
use Rattle.pool_pin.specs.EntryPlace.{PinsFrom, span_at}
use Rattle.pool_pin.proofs.Entries.{add_is}
use Rattle.pool_pin.proofs.Columns.{laid_same}
use Rattle.rule_cut_pins.specs.Entries.{PinsSized, pins_across_in, leads, leads_if, unmoved, stays_at, cut_entries}

-- ---- tests that all hold

and_left : (a b : Bool) → (a && b) ≡ true → a ≡ true
and_left true b h = refl
and_left false b h = h

and_right : (a b : Bool) → (a && b) ≡ true → b ≡ true
and_right true b h = h
and_right false b h = absurd (false≢true h)

and_no : (a : Bool) → (a && false) ≡ false
and_no true = refl
and_no false = refl

less_differs : (u v : ℕ) → ltb u v ≡ true → eqb u v ≡ false
less_differs u v h = ne_eqb u v (λ e. omega (arith, ltb-true u v h))

-- ---- entries in order

-- an entry ahead of another is not of its span
apart : (p q : Pin) → pin_ahead p q ≡ true → same_span p q ≡ false
apart p q h = go (ltb p.node q.node) (ltb p.start q.start) refl refl h
  where
    go : (a b : Bool) → ltb p.node q.node ≡ a → ltb p.start q.start ≡ b
        → (a || (eqb p.node q.node && (b || (eqb p.start q.start && ltb p.end q.end)))) ≡ true → same_span p q ≡ false
    go true b ea eb h = rw (less_differs p.node q.node ea)
    go false true ea eb h = rw (less_differs p.start q.start eb, and_no)
    go false false ea eb h =
        rw (less_differs p.end q.end (and_right (eqb p.start q.start) _ (and_right (eqb p.node q.node) _ h)), and_no, and_no)

in_front : (p : Pin) (ps : List Pin) → leads p ps ≡ true → add_pin p ps ≡ p ∷ ps
unfolding add_pin
in_front p [] h = refl
in_front p (q ∷ qs) h = add_is p q qs false true (apart p q h) h

pub as_they_are : (j k m : ℕ) (ps : List Pin) → unmoved j ps ≡ true → (cut_pins j k m ps ≡ ps) × (pins_across j k ps ≡ 0)
unfolding unmoved cut_pins pins_across
as_they_are j k m [] h = (refl, refl)
as_they_are j k m (p ∷ ps) h =
    let on = eqb p.node j in
    let here : (not on && leads p ps) ≡ true = and_left (not on && leads p ps) (unmoved j ps) h in
    let off : eqb p.node j ≡ false = not-true on (and_left (not on) (leads p ps) here) in
    let rest = as_they_are j k m ps (and_right (not on && leads p ps) (unmoved j ps) h) in
    (rw (off, rest.0) (in_front p ps (and_right (not on) (leads p ps) here)), rw (off, rest.1))

from-front : (c : Pins) → PinsSized 32 c → PinsFrom 0 c
from-front c s =
    record { node = omega (arith, s.node); start = omega (arith, s.start); end = omega (arith, s.end); count = omega (arith, s.count) }

-- what `cut_pins` gives back then
pub left_alone : (j k m n : ℕ) (c : Pins) → PinsSized 32 c → n + pins_across_in j k n c ≤ 32 → unmoved j (pins c 0 n) ≡ true
    → (c ≡ cut_entries j k m n c) × (n ≡ length (cut_pins j k m (pins c 0 n)))
left_alone j k m n c s few h =
    let same = as_they_are j k m (pins c 0 n) h in
    let low : n ≤ 32 = omega arith in
    (sym (rw (same.0, same.1, add-zero) (laid_same 0 n c low (from-front c s))), rw (same.0, pins_length))

-- ---- the loop

next-is : (n : ℕ) (c : Pins) (m a : ℕ) → a + suc m ≡ n → leads (pin_at c a) (pins c (suc a) m) ≡ leads_if (ltb (a + 1) n) (span_at c a) (span_at c (a + 1))
unfolding pins
next-is n c zero a e =
    let z : ltb (a + 1) n ≡ false = le-ltb (a + 1) n (omega arith) in
    rw z
next-is n c (suc m) a e =
    let z : ltb (a + 1) n ≡ true = lt-ltb (a + 1) n (omega arith) in
    rw (z, add-one)

here : (j n : ℕ) (c : Pins) (i : ℕ) → i < n → unmoved j (pins c i (n - i)) ≡ (stays_at j c n i && unmoved j (pins c (suc i) (n - suc i)))
unfolding unmoved pins
here j n c i h =
    let z : n - i ≡ suc (n - suc i) = omega arith in
    rw (z, ← next-is n c (n - suc i) i (omega arith))

-- the first i stay, so the others say whether all do
pub record Staying (j n : ℕ) (c : Pins) (i : ℕ) : Type 0 where
  pub left : unmoved j (pins c i (n - i)) ≡ unmoved j (pins c 0 n)

module _ {j n : ℕ} {c : Pins} where
  pub stay-start : Staying j n c 0
  stay-start = record { left = rw sub-zero }

  pub stay-turn : {i : ℕ} {r : Bool} → Staying j n c i → i < n → r ≡ stays_at j c n i → r ≡ true → Staying j n c (i + 1)
  stay-turn {i} {r} o h e t = record { left = rw add-one (sym (here j n c i h ∙ rw (← e, t)) ∙ o.left) }

  pub stay-not : {i : ℕ} {r : Bool} → Staying j n c i → i < n → r ≡ stays_at j c n i → r ≡ false → false ≡ unmoved j (pins c 0 n)
  stay-not {i} {r} o h e t = sym (here j n c i h ∙ rw (← e, t)) ∙ o.left

  pub stay-end : {i : ℕ} → Staying j n c i → n ≤ i → true ≡ unmoved j (pins c 0 n)
  unfolding unmoved pins
  stay-end {i} o h =
      let z : n - i ≡ 0 = omega arith in
      rw z at o.left
