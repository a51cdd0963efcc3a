-- A span's place says whether the span has an entry; what is known where a pin is inside its limits; a store's part of the pool of pins. Assumes nothing.
use Prim.Native.Nat.{ℕ, ◌+◌, ◌*◌, ◌≤◌, ◌<◌}
use mathlib.Core.Path.{◌≡◌, refl, sym, subst, ◌∙◌}
use mathlib.Core.Bool.{Bool, true, false, not, ◌||◌}
use mathlib.Core.List.{List}
use native.Mathlib.Omega.{arith}
use lib.Dec.{ltb}
use borrow.Author.Tests.{ltb-false}
use Rattle.model.specs.declared.Span.{Span}
use Rattle.model.specs.State.{Pins}
use Rattle.model.specs.Sound.{PinsLent}
use Rattle.model.specs.Store.{pins, plus}
use Rattle.model.specs.Pins.{pin_of, has_pin}
use Rattle.theory_lay.proofs.Rows.{pins_length}
use Rattle.theory_sound.specs.Facts.{PinsSorted}
use Rattle.theory_cut.proofs.Pins.{add_length}
use Rattle.std.specs.Prelude.{Result, Ok, Err, is_ok, is_err}
use Rattle.shape_state.specs.Lent.{pins_of}
use Rattle.pool_pin.specs.EntryPlace.{PinsFrom, Placed, spans_from}
use Rattle.pool_pin.proofs.Placed.{add-long}

-- by how long the list is with one more
pub has_is : (a n : ℕ) (c : Pins) (sp : Span) (r : Result ℕ ℕ) → Placed (spans_from c a) n sp r → PinsSorted (pins c a n)
    → has_pin (pin_of sp 1) (pins c a n) ≡ is_ok r
has_is a n c sp r place sorted =
    one (has_pin (pin_of sp 1) (pins c a n)) r _ n (pins_length c a n) (sym (add_length (pin_of sp 1) (pins c a n) sorted) ∙ add-long a n c sp 1 r place)
  where
    one : (x : Bool) (r : Result ℕ ℕ) (l m : ℕ) → l ≡ m → l + plus (not x) 0 ≡ m + plus (is_err r) 0 → x ≡ is_ok r
    one true (Ok i) l m h e = refl
    one true (Err i) l m h e = absurd (omega arith)
    one false (Ok i) l m h e = absurd (omega arith)
    one false (Err i) l m h e = refl

pub not-ok : (r : Result ℕ ℕ) → not (is_ok r) ≡ is_err r
not-ok (Ok i) = refl
not-ok (Err i) = refl

pub part-lent : (s : ℕ) (c : Pins) → s < 8 → PinsLent c → PinsFrom (32 * s) c
part-lent s c h lent =
    record { node = omega (arith, lent.node); start = omega (arith, lent.start); end = omega (arith, lent.end); count = omega (arith, lent.count) }

-- ---- the limits

-- what was tested of whether it is there is tested of whether it is not
pub tested-of : (r : Result ℕ ℕ) (t o : Bool) (n p b : ℕ) → t ≡ is_ok r → o ≡ (ltb 32 (n + plus (not t) 0) || ltb 1000000 (p + b))
    → o ≡ (ltb 32 (n + plus (is_err r) 0) || ltb 1000000 (p + b))
tested-of r t o n p b e f = f ∙ rw (e, not-ok r)

module _ (more : Bool) (n p b : ℕ) where
  -- what is known where it does not hold
  pub fits_in : (r : Bool) → r ≡ (ltb 32 (n + plus more 0) || ltb 1000000 (p + b)) → r ≡ false → (n + plus more 0 ≤ 32) × (p + b ≤ 1000000)
  fits_in r e f = go (ltb 32 (n + plus more 0)) (ltb 1000000 (p + b)) refl refl (sym e ∙ f)
    where
      go : (x y : Bool) → ltb 32 (n + plus more 0) ≡ x → ltb 1000000 (p + b) ≡ y → (x || y) ≡ false → (n + plus more 0 ≤ 32) × (p + b ≤ 1000000)
      go true y q w z = absurd (let o : ◌≡◌ {A = ℕ} 0 1 = cc in omega arith)
      go false true q w z = absurd (let o : ◌≡◌ {A = ℕ} 0 1 = cc in omega arith)
      go false false q w z = (ltb-false 32 (n + plus more 0) q, ltb-false 1000000 (p + b) w)

-- ---- the columns as they are lent on

pub place-of : (a n : ℕ) (sp : Span) (r : Result ℕ ℕ) (c' c : Pins) → c' ≡ c → Placed (spans_from c' a) n sp r → Placed (spans_from c a) n sp r
place-of a n sp r c' c e h = subst (λ (x : Pins). Placed (spans_from x a) n sp r) e h

pub is-err : (r : Result ℕ ℕ) → ((i : ℕ) → r ≡ Ok i → ⊥) → is_ok r ≡ false
is-err (Ok i) h = absurd (h i refl)
is-err (Err i) h = refl

pub pins-back : {a b d e : List ℕ} (c : Pins) → a ≡ c.node → b ≡ c.start → d ≡ c.end → e ≡ c.count → pins_of a b d e ≡ c
pins-back c p q r s = rw (p, q, r, s)
