-- Laws of floats: the quotient of two exact whole numbers rounds once, and which patterns are a NaN's. Assumes nothing.
use Rattle.std.proofs.Common.{◌≡◌, ℕ, ◌*◌, ◌%◌, ◌^◌, ◌<◌, ◌≤◌, Bool, true, false, cond, not, T, eqb, pos, sym, refl, ap, ◌∙◌, subst, mul_assoc, mul_comm, mul-pos, mul-one, arith, le→leb, le-ltb, lt-ltb, ne_eqb}
use native.Mathlib.Nat.{pow-le-pow_right, one-le-pow}
use lib.Ieee.{Float, nan, inf, fin, Format, binary64, up, down, unlike, round, neg, div, of_int, in_float, of_bits, is_nan, nan_bits, odd, of_fields}
use lib.Ieee.Exact.{HasValue}
use lib.Ieee.Back.{round_whole}
use lib.Ieee.Scale.{round_same}
use lib.Ieee.Fits.{down_pos}
use lib.Ieee.Bits.{nan_bits_is, nan_bits_above}

-- ---- powers of ten
pub ten_small : (k : ℕ) → k ≤ 15 → (10 ^ k ≤ 2 ^ 53) × (0 < 10 ^ k)
ten_small k h =
    let q : 10 ^ k ≤ 10 ^ 15 = pow-le-pow_right (omega arith) h in
    (omega arith, one-le-pow k 10 (omega arith))

-- ---- a quotient
neg_value : (x : Float) (s : Bool) (a c : ℕ) → HasValue x s a c → HasValue (neg x) (not s) a c
unfolding neg
neg_value nan s a c v = v
neg_value (inf t) s a c v = v
neg_value (fin t m e) s a c v = (ap not v.0, v.1)

cross : (m n a b e d : ℕ) → m ≡ a * e → n ≡ b * d → m * d * b ≡ a * (n * e)
cross m n a b e d p q =
    rw (p, q)
    (ap (λ (x : ℕ). x * b) (mul_assoc a e d)
    ∙ mul_assoc a (e * d) b
    ∙ ap (λ (x : ℕ). a * x) (mul_comm (e * d) b ∙ ap (λ (x : ℕ). b * x) (mul_comm e d) ∙ sym (mul_assoc b d e)))

unlike_is : (t u s : Bool) → t ≡ s → u ≡ false → unlike t u ≡ s
unlike_is true true s p q = sym q ∙ p
unlike_is true false s p q = p
unlike_is false true s p q = q ∙ p
unlike_is false false s p q = p

not_zero : (n u b d : ℕ) → 0 < b → 0 < d → n * u ≡ b * d → n ≡ 0 → ⊥
not_zero n u b d B D e z =
    let p : 0 < b * d = mul-pos B D in
    let q : n * u ≡ 0 * u = ap (λ (x : ℕ). x * u) z in
    omega (arith, e)

div_value : (f : Format) (x y : Float) (s : Bool) (a b : ℕ) → 0 < b → HasValue x s a 1 → HasValue y false b 1 → div f x y ≡ round f s a b
unfolding div
div_value f nan y s a b B v w = absurd v
div_value f (inf t) y s a b B v w = absurd v
div_value f (fin t m e) nan s a b B v w = absurd w
div_value f (fin t m e) (inf u) s a b B v w = absurd w
div_value f (fin t m e) (fin u n d) s a b B v w =
    let p : m * up e ≡ a * down e = sym (mul-one (m * up e)) ∙ v.1 in
    let q : n * up d ≡ b * down d = sym (mul-one (n * up d)) ∙ w.1 in
    let P : 0 < n * up d * down e = mul-pos (subst (λ (x : ℕ). 0 < x) (sym q) (mul-pos B (down_pos d))) (down_pos e) in
    ap (λ (t' : Bool). cond t' (cond (eqb m 0) nan (inf (unlike t u))) (round f (unlike t u) (m * up e * down d) (n * up d * down e)))
    (ne_eqb n 0 (not_zero n (up d) b (down d) B (down_pos d) q))
    ∙ ap (λ (r : Bool). round f r (m * up e * down d) (n * up d * down e)) (unlike_is t u s v.0 w.0)
    ∙ round_same f s (m * up e * down d) (n * up d * down e) a b P B (cross (m * up e) (n * up d) a b (down e) (down d) p q)

pub whole-value : (n : ℕ) → n ≤ 2 ^ 53 → HasValue (of_int binary64 (pos n)) false n 1
unfolding of_int
whole-value n h = round_whole binary64 false n h

module _ (m b : ℕ) (M : m ≤ 2 ^ 53) (B : b ≤ 2 ^ 53) (P : 0 < b) where
  pub ratio-above : div binary64 (of_int binary64 (pos m)) (of_int binary64 (pos b)) ≡ round binary64 false m b
  ratio-above = div_value binary64 (of_int binary64 (pos m)) (of_int binary64 (pos b)) false m b P (whole-value m M) (whole-value b B)

  pub ratio-below : div binary64 (neg (of_int binary64 (pos m))) (of_int binary64 (pos b)) ≡ round binary64 true m b
  ratio-below =
      div_value binary64 (neg (of_int binary64 (pos m))) (of_int binary64 (pos b)) true m b P
      (neg_value (of_int binary64 (pos m)) false m 1 (whole-value m M)) (whole-value b B)

pub whole_float : (n : ℕ) → n ≤ 2 ^ 53 → T (in_float binary64 (pos n))
unfolding in_float
whole_float n h = le→leb n (2 ^ 53) h

module _ (s : Bool) (m k : ℕ) (M : m < 10 ^ 15) (K : k ≤ 15) where
  pub ratio_neg : s ≡ true → div binary64 (neg (of_int binary64 (pos m))) (of_int binary64 (pos (10 ^ k))) ≡ round binary64 s m (10 ^ k)
  ratio_neg i = ratio-below m (10 ^ k) (omega arith) (ten_small k K).0 (ten_small k K).1 ∙ rw i

  pub ratio_pos : s ≡ false → div binary64 (of_int binary64 (pos m)) (of_int binary64 (pos (10 ^ k))) ≡ round binary64 s m (10 ^ k)
  ratio_pos i = ratio-above m (10 ^ k) (omega arith) (ten_small k K).0 (ten_small k K).1 ∙ rw i

-- ---- patterns
pub nan_only : (x : Float) → is_nan x ≡ true → x ≡ nan
unfolding is_nan
nan_only nan e = refl
nan_only (inf s) e = absurd (subst T (sym e) tt)
nan_only (fin s m e') e = absurd (subst T (sym e) tt)

pub nan_made : of_bits binary64 9221120237041090560 ≡ nan
unfolding of_bits of_fields odd
nan_made = refl

pub inf_made : of_bits binary64 9218868437227405312 ≡ inf false
unfolding of_bits of_fields odd
inf_made = refl

pub minus_inf_made : of_bits binary64 18442240474082181120 ≡ inf true
unfolding of_bits of_fields odd
minus_inf_made = refl

module _ (b : ℕ) where
  pub nan_pattern : 9218868437227405312 < b % 9223372036854775808 → nan ≡ of_bits binary64 b
  nan_pattern h =
      sym (nan_only (of_bits binary64 b)
      (sym (nan_bits_is binary64 b) ∙ nan_bits_above binary64 b ∙ lt-ltb 9218868437227405312 (b % 9223372036854775808) h))

  pub no_nan_pattern : b % 9223372036854775808 ≤ 9218868437227405312 → T (not (nan_bits binary64 b))
  no_nan_pattern h =
      subst (λ (t : Bool). T (not t)) (sym (nan_bits_above binary64 b ∙ le-ltb 9218868437227405312 (b % 9223372036854775808) h)) tt
