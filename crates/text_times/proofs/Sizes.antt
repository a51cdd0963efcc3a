-- Laws of a float's size and sign: a value below 2 ^ 53 is whole exactly where it equals its own whole part, and the sign is the pattern's
-- highest bit. Assumes nothing.
use Rattle.std.proofs.Common.{◌≡◌, ℕ, ◌+◌, ◌*◌, ◌/◌, ◌%◌, ◌^◌, ◌<◌, ◌≤◌, Bool, true, false, not, ◌&&◌, ◌||◌, T, eqb, ltb, ℤ, pos, sym, refl, ap, ◌∙◌, subst, div-lt_iff_lt-mul, one-mul, div-add-mod', le-div_iff_mul-le, zero-mul, mul-one, mul_right_comm, arith, ltb→lt, lt→ltb, nltb→le, le-ltb, lt-ltb, eq-eqb, ne_eqb, eqb-true}
use mathlib.Core.Bool.{beq}
use native.Mathlib.Nat.{mul-mod_left, div-eq_of_lt, min-eq_left, eq_of_mul-eq-mul_right}
use lib.Ieee.{Float, nan, inf, fin, binary64, up, down, lt, eq, of_int, to_unsigned}
use lib.Ieee.Exact.{HasValue}
use lib.Ieee.Fits.{down_pos}
use Rattle.std.specs.Prelude.{Option, Some, None}
use Rattle.std.specs.Bool.{then_some}
use Rattle.model.specs.Words.{pick}
use Rattle.std.specs.Float.{float_with_sign, is_sign_negative}
use Rattle.text_times.specs.Times.{size_of, negative}
use Rattle.text_times.proofs.Values.{whole-value}

both : (p q : Bool) → p && q ≡ true → p ≡ true
both true q e = refl
both false q e = e

-- ---- the whole part of a value between -1 and 2 ^ 53
limit : (m u d : ℕ) → 0 < d → T (ltb (m * u * 1) (9007199254740992 * d)) → m * u / d < 2 ^ 53
limit m u d D t =
    let h : m * u * 1 < 9007199254740992 * d = ltb→lt (m * u * 1) (9007199254740992 * d) t in
    (div-lt_iff_lt-mul D).1 (subst (λ (x : ℕ). x < 9007199254740992 * d) (mul-one (m * u)) h)

under_one : (m u d : ℕ) → T (ltb (m * u * 1) (1 * d)) → m * u < d
under_one m u d t = omega (arith, ltb→lt (m * u * 1) (1 * d) t, mul-one (m * u), one-mul d)

pub record Part (s : Bool) (m : ℕ) (e : ℤ) : Type 0 where
  pub small : m * up e / down e < 2 ^ 53
  pub cut : to_unsigned 64 (fin s m e) ≡ m * up e / down e
  pub zero : s ≡ true → m * up e < down e

part : (s : Bool) (m : ℕ) (e : ℤ) → T (lt (fin true 1 (pos 0)) (fin s m e)) → T (lt (fin s m e) (fin false 1 (pos 53))) → Part s m e
unfolding lt to_unsigned
part false m e a b =
    let q : m * up e / down e < 2 ^ 53 = limit m (up e) (down e) (down_pos e) b in
    record { small = q; cut = min-eq_left (omega arith); zero = λ h. absurd (subst T (sym h) tt) }
part true m e a b =
    let h : m * up e < down e = under_one m (up e) (down e) a in
    let z : m * up e / down e ≡ 0 = div-eq_of_lt h in
    record { small = omega arith; cut = sym z; zero = λ _. h }

pub limit_64 : (y : Float) → T (lt y (fin false 1 (pos 53))) → T (lt y (fin false 1 (pos 64)))
unfolding lt
limit_64 nan t = t
limit_64 (inf s) t = t
limit_64 (fin true m e) t = lt→ltb 0 (m * up e * 1 + 18446744073709551616 * down e) (omega (arith, down_pos e))
limit_64 (fin false m e) t =
    lt→ltb (m * up e * 1) (18446744073709551616 * down e)
    (omega (arith, ltb→lt (m * up e * 1) (9007199254740992 * down e) t))

-- z is the whole number q: it equals a value exactly where the value is q
module _ (q : ℕ) (s : Bool) (m : ℕ) (e : ℤ) where
  value_eq : (z : Float) → HasValue z false q 1 → eq z (fin s m e) ≡ true → q * down e ≡ m * up e
  unfolding eq
  value_eq nan v h = absurd v
  value_eq (inf t) v h = absurd v
  value_eq (fin t k d) v h =
      let p : k * up d ≡ q * down d = sym (mul-one (k * up d)) ∙ v.1 in
      let g : k * up d * down e ≡ m * up e * down d = eqb-true (k * up d * down e) (m * up e * down d) (both (eqb (k * up d * down e) (m * up e * down d)) (beq t s || eqb (k * up d * down e) 0) h) in
      eq_of_mul-eq-mul_right (down d) (down_pos d) (q * down e) (m * up e)
      (mul_right_comm q (down e) (down d) ∙ ap (λ (x : ℕ). x * down e) (sym p) ∙ g)

  value_ne : (z : Float) → HasValue z false q 1 → q * down e ≡ m * up e → (s ≡ true → q ≡ 0) → eq z (fin s m e) ≡ true
  unfolding eq
  value_ne nan v h o = absurd v
  value_ne (inf t) v h o = absurd v
  value_ne (fin t k d) v h o =
      let p : k * up d ≡ q * down d = sym (mul-one (k * up d)) ∙ v.1 in
      let g : k * up d * down e ≡ m * up e * down d =
      ap (λ (x : ℕ). x * down e) p ∙ mul_right_comm q (down d) (down e) ∙ ap (λ (x : ℕ). x * down d) h in
      rw (eq-eqb (k * up d * down e) (m * up e * down d) g, v.0) (sign s refl)
    where
      sign : (u : Bool) → s ≡ u → beq false s || eqb (k * up d * down e) 0 ≡ true
      sign false i = rw i
      sign true i =
          let y : k * up d * down e ≡ 0 =
          ap (λ (x : ℕ). x * down e) (sym (mul-one (k * up d)) ∙ v.1 ∙ ap (λ (x : ℕ). x * down d) (o i) ∙ zero-mul (down d)) ∙ zero-mul (down e) in
          rw (i, eq-eqb (k * up d * down e) 0 y)

module _ (s : Bool) (m : ℕ) (e : ℤ) (p : Part s m e) where
  whole_is : m * up e % down e ≡ 0 → size_of (fin s m e) ≡ Some (m * up e / down e)
  unfolding size_of
  whole_is h = rw (eq-eqb (m * up e % down e) 0 h, lt-ltb (m * up e / down e) (2 ^ 53) p.small)

  whole_not : (m * up e % down e ≡ 0 → ⊥) → size_of (fin s m e) ≡ None
  unfolding size_of
  whole_not h = rw (ne_eqb (m * up e % down e) 0 h)

  of_product : (n : ℕ) → n * down e ≡ m * up e → m * up e % down e ≡ 0
  of_product n h = rw (← h) (mul-mod_left n (down e))

  to_product : m * up e % down e ≡ 0 → m * up e / down e * down e ≡ m * up e
  to_product h = omega (arith, div-add-mod' (m * up e) (down e))

  no_part : s ≡ true → m * up e / down e ≡ 0
  no_part h = div-eq_of_lt (p.zero h)

module _ (n : ℕ) where
  size-whole : (y z : Float) → T (lt (fin true 1 (pos 0)) y) → T (lt y (fin false 1 (pos 53))) → n ≡ to_unsigned 64 y → z ≡ of_int binary64 (pos n) → eq z y ≡ true → Some n ≡ size_of y
  unfolding lt
  size-whole nan z a b h o t = absurd a
  size-whole (inf true) z a b h o t = absurd a
  size-whole (inf false) z a b h o t = absurd b
  size-whole (fin s m e) z a b h o t =
      let p : Part s m e = part s m e a b in
      let q : n ≡ m * up e / down e = h ∙ p.cut in
      let v : HasValue z false n 1 = rw o (whole-value n (omega (arith, p.small))) in
      let w : m * up e % down e ≡ 0 = of_product s m e p n (value_eq n s m e z v t) in
      ap Some q ∙ sym (whole_is s m e p w)

  size_not : (y z : Float) → T (lt (fin true 1 (pos 0)) y) → T (lt y (fin false 1 (pos 53))) → n ≡ to_unsigned 64 y → z ≡ of_int binary64 (pos n) → eq z y ≡ false → None ≡ size_of y
  unfolding lt
  size_not nan z a b h o t = absurd a
  size_not (inf true) z a b h o t = absurd a
  size_not (inf false) z a b h o t = absurd b
  size_not (fin s m e) z a b h o t =
      let p : Part s m e = part s m e a b in
      let q : n ≡ m * up e / down e = h ∙ p.cut in
      let v : HasValue z false n 1 = rw o (whole-value n (omega (arith, p.small))) in
      sym (whole_not s m e p
      (λ (w : m * up e % down e ≡ 0).
      let g : eq z (fin s m e) ≡ true =
      value_ne n s m e z v (ap (λ (x : ℕ). x * down e) q ∙ to_product s m e p w) (λ i. q ∙ no_part s m e p i) in
      subst T (sym g ∙ t) tt))

size-large : (y : Float) → lt y (fin false 1 (pos 53)) ≡ false → None ≡ size_of y
unfolding lt size_of
size-large nan h = refl
size-large (inf s) h = refl
size-large (fin true m e) h =
    absurd (subst T h (lt→ltb 0 (m * up e * 1 + 9007199254740992 * down e) (omega (arith, down_pos e))))
size-large (fin false m e) h =
    let l : 9007199254740992 * down e ≤ m * up e * 1 = nltb→le (m * up e * 1) (9007199254740992 * down e) (subst (λ (t : Bool). T (not t)) (sym h) tt) in
    let g : 9007199254740992 * down e ≤ m * up e = omega (arith, mul-one (m * up e)) in
    let k : 2 ^ 53 ≤ m * up e / down e = (le-div_iff_mul-le (down_pos e)).1 g in
    rw (le-ltb (m * up e / down e) (2 ^ 53) k) (other (eqb (m * up e % down e) 0) (m * up e / down e))
  where
    other : (b : Bool) (n : ℕ) → None ≡ pick (b && false) (Some n) None
    other true n = refl
    other false n = refl

-- ---- the sign
above : (m u d : ℕ) → 0 < d → T (ltb 0 (1 * d + m * u * 1))
above m u d D = lt→ltb 0 (1 * d + m * u * 1) (omega (arith, one-mul d))

-- a value without its sign
own-above : (x : Float) → T (lt (float_with_sign false x) (fin false 1 (pos 53))) → T (lt (fin true 1 (pos 0)) (float_with_sign false x))
unfolding lt float_with_sign
own-above nan t = absurd t
own-above (inf s) t = absurd t
own-above (fin s m e) t = above m (up e) (down e) (down_pos e)

own_size : (x : Float) → size_of (float_with_sign false x) ≡ size_of x
unfolding size_of float_with_sign
own_size nan = refl
own_size (inf s) = refl
own_size (fin s m e) = refl

pub same_sign : (x : Float) → is_sign_negative x ≡ negative x
unfolding is_sign_negative negative
same_sign nan = refl
same_sign (inf s) = refl
same_sign (fin s m e) = refl

-- what a size is, of the value without its sign
module _ (x y : Float) (e : y ≡ float_with_sign false x) where
  pub size-above : T (lt y (fin false 1 (pos 53))) → T (lt (fin true 1 (pos 0)) y)
  size-above t = subst (λ (v : Float). T (lt (fin true 1 (pos 0)) v)) (sym e) (own-above x (subst (λ (v : Float). T (lt v (fin false 1 (pos 53)))) e t))

  pub size_then : (n : ℕ) (z : Float) (o : Option ℕ) → T (lt y (fin false 1 (pos 53))) → n ≡ to_unsigned 64 y → z ≡ of_int binary64 (pos n) → o ≡ then_some (eq z y) n → o ≡ size_of x
  size_then n z o t h i k = k ∙ go (eq z y) refl ∙ ap size_of e ∙ own_size x
    where
      go : (b : Bool) → eq z y ≡ b → then_some b n ≡ size_of y
      go true q = size-whole n y z (size-above t) t h i q
      go false q = size_not n y z (size-above t) t h i q

  pub size-none : lt y (fin false 1 (pos 53)) ≡ false → None ≡ size_of x
  size-none h = size-large y h ∙ ap size_of e ∙ own_size x
