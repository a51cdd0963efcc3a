-- Which time a word has: by its digits, by its point, by its first byte and as a whole. Assumes nothing.
use Rattle.std.proofs.Common.{◌≡◌, ℕ, zero, suc, ◌+◌, ◌-◌, ◌^◌, ◌<◌, ◌≤◌, Bool, true, false, ◌&&◌, eqb, ltb, List, [], ◌∷◌, ◌++◌, length, get_or, take, drop, sym, refl, ap, ◌∙◌, subst, append-nil, lt_of_lt_of_le, arith, length-append, length-drop, le-ltb, lt-ltb, eq-eqb, ne_eqb, le-leb, Option, Some, None}
use native.Mathlib.Nat.{pow-le-pow_right}
use borrow.Author.Tests.{lt-leb}
use lib.Ieee.{Float, nan, inf, binary64, round, neg, of_bits}
use lib.Seq.{drop-cons}
use Rattle.std.specs.Prelude.{Result, Ok, Err}
use Rattle.std.specs.Result.{result_ok}
use Rattle.std.specs.Cmp.Lexicographic.{pointwise}
use Rattle.std.proofs.lemmas.List.{take_rest}
use Rattle.model.specs.Words.{pick}
use Rattle.text_words.specs.declared.NumberError.{NumberError}
use Rattle.text_words.specs.declared.NumberError.TheVariants.{TooLarge, NotANumber}
use Rattle.text_words.specs.Words.{is, First, reading, value_in, decimal, number_of}
use Rattle.text_words.proofs.Laws.{of-value, of_none, not_large, is-value, value_bound, value-some, reading_append}
use Rattle.text_times.specs.Times.{ratio, of_digits, point_at, of_decimal, pattern_of, of_pattern, of_word, same, time_of}

-- ---- what `ok` keeps of a number
ok_value : (n : Result ℕ NumberError) (v : ℕ) → result_ok n ≡ Some v → n ≡ Ok v
ok_value (Ok u) v h = cc
ok_value (Err e) v h = cc

ok_none : (n : Result ℕ NumberError) → result_ok n ≡ None → (e : NumberError) × (n ≡ Err e)
ok_none (Ok u) h = let z : ◌≡◌ {A = ℕ} 0 1 = cc in absurd (omega arith)
ok_none (Err e) h = (e, refl)

-- ---- a pattern of 16 hex digits: w, which was read as n
pub record Hex (n : Result ℕ NumberError) (w : List ℕ) : Type 0 where
  pub long : length w ≡ 16
  pub is : n ≡ number_of (value_in 16 w)

pub hex_read : (w : List ℕ) (n : Result ℕ NumberError) → length w ≡ 16 → ((o : Option ℕ) → Ok 0 ≡ number_of o → n ≡ number_of (reading 16 o w)) → Hex n w
hex_read w n e F =
    record {
      long = e;
      is = F (Some 0) (sym (is-value 0 (omega arith))) ∙ ap number_of (value-some 16 w (ne_eqb (length w) 0 (omega arith)));
    }

pub pattern-short : (w : List ℕ) → (length w ≡ 16 → ⊥) → None ≡ of_pattern w
unfolding of_pattern
pattern-short w h = rw (ne_eqb (length w) 16 h)

module _ (n : Result ℕ NumberError) (w : List ℕ) (g : Hex n w) where
  pattern-is : (o : Option ℕ) → value_in 16 w ≡ o → of_pattern w ≡ pattern_of o
  unfolding of_pattern
  pattern-is o e = rw (eq-eqb (length w) 16 g.long, e)

  pub pattern-value : (b : ℕ) (x : Float) → result_ok n ≡ Some b → x ≡ of_bits binary64 b → Some x ≡ of_pattern w
  pattern-value b x e h = ap Some h ∙ sym (pattern-is (Some b) (of-value b (value_in 16 w) (sym (ok_value n b e) ∙ g.is)))

  pattern_not : (e : NumberError) → n ≡ Err e → None ≡ of_pattern w
  pattern_not NotANumber e = sym (pattern-is None (of_none (value_in 16 w) (sym e ∙ g.is)))
  pattern_not TooLarge e = absurd (not_large (value_in 16 w) below (sym e ∙ g.is))
    where
      below : (v : ℕ) → value_in 16 w ≡ Some v → v < 2 ^ 64
      below v h =
          let l : v < 16 ^ length w = value_bound 16 v w h in
          let k : 16 ^ length w ≡ 16 ^ 16 = ap (λ (n : ℕ). 16 ^ n) g.long in
          omega arith

  pub pattern-none : result_ok n ≡ None → None ≡ of_pattern w
  pattern-none h = let e = ok_none n h in pattern_not e.0 e.1

-- ---- at most 15 digits: w, which was read as n, in two runs
pub record Digits (n : Result ℕ NumberError) (w : List ℕ) : Type 0 where
  pub short : length w ≤ 15
  pub is : n ≡ number_of (decimal w)

pub digits_read : (v w : List ℕ) (f n : Result ℕ NumberError) → 0 < length v → length v + length w ≤ 15
    → ((o : Option ℕ) → Ok 0 ≡ number_of o → f ≡ number_of (reading 10 o v))
    → ((o : Option ℕ) → f ≡ number_of o → n ≡ number_of (reading 10 o w))
    → Digits n (v ++ w)
digits_read v w f n h l F N =
    record {
      short = rw length-append l;
      is =
          N (reading 10 (Some 0) v) (F (Some 0) (sym (is-value 0 (omega arith))))
          ∙ ap number_of (sym (reading_append 10 (Some 0) v w) ∙ value-some 10 (v ++ w) (ne_eqb (length (v ++ w)) 0 (rw length-append (omega arith))));
    }

pub digits_long : (neg : Bool) (v w : List ℕ) (k : ℕ) → 15 < length v + length w → None ≡ of_digits neg (v ++ w) k
unfolding of_digits
digits_long neg v w k l = rw (length-append, lt-leb (length v + length w) 15 l)

module _ (n : Result ℕ NumberError) (w : List ℕ) (g : Digits n w) where
  bound : (m : ℕ) → decimal w ≡ Some m → m < 10 ^ 15
  bound m e = lt_of_lt_of_le (value_bound 10 m w e) (pow-le-pow_right (omega arith) g.short)

  pub digits_room : (m : ℕ) → result_ok n ≡ Some m → m < 10 ^ 15
  digits_room m e = bound m (of-value m (decimal w) (sym (ok_value n m e) ∙ g.is))

  module _ (neg : Bool) (k : ℕ) where
    digits_is : (o : Option ℕ) → decimal w ≡ o → of_digits neg w k ≡ ratio neg k o
    unfolding of_digits
    digits_is o e = rw (le-leb (length w) 15 g.short, e)

    pub digits_value : (m : ℕ) (x : Float) → result_ok n ≡ Some m → x ≡ round binary64 neg m (10 ^ k) → Some x ≡ of_digits neg w k
    digits_value m x e h = ap Some h ∙ sym (digits_is (Some m) (of-value m (decimal w) (sym (ok_value n m e) ∙ g.is)))

    digits_not : (e : NumberError) → n ≡ Err e → None ≡ of_digits neg w k
    digits_not NotANumber e = sym (digits_is None (of_none (decimal w) (sym e ∙ g.is)))
    digits_not TooLarge e = absurd (not_large (decimal w) (λ m h. let l : m < 10 ^ 15 = bound m h in omega arith) (sym e ∙ g.is))

    pub digits_none : result_ok n ≡ None → None ≡ of_digits neg w k
    digits_none h = let e = ok_none n h in digits_not e.0 e.1

-- ---- the point
point_at_lem : (w : List ℕ) (j : ℕ) → j ≤ length w → ((k : ℕ) → k < j → eqb (get_or w k 0) 46 ≡ false) → (j < length w → eqb (get_or w j 0) 46 ≡ true) → point_at w ≡ j
unfolding point_at
point_at_lem [] zero h b e = refl
point_at_lem [] (suc j) h b e = absurd (omega arith)
point_at_lem (c ∷ w) zero h b e = rw (e (omega arith))
point_at_lem (c ∷ w) (suc j) h b e = rw (b 0 (omega arith)) (ap suc (point_at_lem w j (omega arith) (λ k l. b (suc k) (omega arith)) (λ l. e (omega arith))))

empty : (neg : Bool) → None ≡ of_digits neg [] 0
unfolding of_digits value_in
empty neg = refl

-- the first point of w is at p
module _ (neg : Bool) (w : List ℕ) (p : ℕ) (f : First (is 46) w 0 (length w) p) where
  at_point : point_at w ≡ p
  at_point = point_at_lem w p f.high (λ k l. f.before k (omega arith) l) f.here

  pub decimal-none : p ≡ 0 → None ≡ of_decimal neg w
  unfolding of_decimal
  decimal-none e = rw (at_point, e) (go w)
    where
      go : (v : List ℕ) → None ≡ pick (eqb 0 (length v)) (of_digits neg v 0) (pick (ltb 0 0 && ltb (0 + 1) (length v)) (of_digits neg (take 0 v ++ drop (0 + 1) v) (length v - (0 + 1))) None)
      go [] = empty neg
      go (b ∷ v) = rw (ne_eqb 0 (suc (length v)) (omega arith))

  pub decimal-whole : (r : Option Float) → p ≡ length w → r ≡ of_digits neg (w ++ []) 0 → r ≡ of_decimal neg w
  unfolding of_decimal
  decimal-whole r e h = h ∙ rw (at_point, eq-eqb p (length w) e, append-nil)

  pub decimal-cut : p + 1 ≡ length w → None ≡ of_decimal neg w
  unfolding of_decimal
  decimal-cut e =
      rw (at_point, ne_eqb p (length w) (omega arith), le-ltb (p + 1) (length w) (omega arith)) (go (ltb 0 p) _)
    where
      go : (t : Bool) (x : Option Float) → None ≡ pick (t && false) x None
      go true x = refl
      go false x = refl

  pub decimal-both : (r : Option Float) → 0 < p → p + 1 < length w
      → r ≡ of_digits neg (take p w ++ take (length w - (p + 1)) (drop (p + 1) w)) (length (take (length w - (p + 1)) (drop (p + 1) w))) → r ≡ of_decimal neg w
  unfolding of_decimal
  decimal-both r l h e =
      e ∙ rw (take_rest w (p + 1), at_point, ne_eqb p (length w) (omega arith), lt-ltb 0 p l, lt-ltb (p + 1) (length w) h, length-drop)

-- ---- the first byte
module _ (w : List ℕ) (h : 1 ≤ length w) where
  at_one : w ≡ get_or w 0 0 ∷ drop 1 w
  at_one = drop-cons w 0 0 (omega arith)

  pub word_x : get_or w 0 0 ≡ 120 → of_pattern (take (length w - 1) (drop 1 w)) ≡ of_word w
  unfolding of_word
  word_x e = rw (take_rest w 1) (subst (λ (v : List ℕ). of_pattern (drop 1 w) ≡ of_word v) (sym at_one) (rw (eq-eqb (get_or w 0 0) 120 e)))

  pub word_minus : get_or w 0 0 ≡ 45 → of_decimal true (take (length w - 1) (drop 1 w)) ≡ of_word w
  unfolding of_word
  word_minus e = rw (take_rest w 1) (subst (λ (v : List ℕ). of_decimal true (drop 1 w) ≡ of_word v) (sym at_one) (rw (ne_eqb (get_or w 0 0) 120 (omega arith), eq-eqb (get_or w 0 0) 45 e)))

  pub word_digits : (get_or w 0 0 ≡ 120 → ⊥) → (get_or w 0 0 ≡ 45 → ⊥) → of_decimal false w ≡ of_word w
  unfolding of_word
  word_digits n m = subst (λ (v : List ℕ). of_decimal false v ≡ of_word v) (sym at_one) (rw (ne_eqb (get_or w 0 0) 120 n, ne_eqb (get_or w 0 0) 45 m))

pub word_none : (w : List ℕ) → length w < 1 → None ≡ of_word w
unfolding of_word
word_none [] h = refl
word_none (b ∷ w) h = absurd (omega arith)

-- ---- the whole word
same_is : (v w : List ℕ) → pointwise eqb v w ≡ same v w
unfolding same
same_is [] [] = refl
same_is [] (c ∷ w) = refl
same_is (b ∷ v) [] = refl
same_is (b ∷ v) (c ∷ w) = ap (λ (t : Bool). eqb b c && t) (same_is v w)

-- a slice was compared with l
pub compared : (w l v : List ℕ) (r b : Bool) → v ≡ l → r ≡ pointwise eqb w v → r ≡ b → same w l ≡ b
compared w l v r b e h g = sym (same_is w l) ∙ ap (λ (u : List ℕ). pointwise eqb w u) (sym e) ∙ sym h ∙ g

module _ (w : List ℕ) where
  pub time_inf : (x : Float) → same w (105 ∷ 110 ∷ 102 ∷ []) ≡ true → x ≡ inf false → Some x ≡ time_of w
  unfolding time_of
  time_inf x h e = rw (h, e)

  pub time_minus_inf : (x : Float) → same w (105 ∷ 110 ∷ 102 ∷ []) ≡ false → same w (45 ∷ 105 ∷ 110 ∷ 102 ∷ []) ≡ true → x ≡ inf true → Some x ≡ time_of w
  unfolding time_of
  time_minus_inf x h g e = rw (h, g, e)

  pub time_nan : (x : Float) → same w (105 ∷ 110 ∷ 102 ∷ []) ≡ false → same w (45 ∷ 105 ∷ 110 ∷ 102 ∷ []) ≡ false → same w (110 ∷ 97 ∷ 110 ∷ []) ≡ true → x ≡ nan → Some x ≡ time_of w
  unfolding time_of
  time_nan x h g f e = rw (h, g, f, e)

  pub time-word : same w (105 ∷ 110 ∷ 102 ∷ []) ≡ false → same w (45 ∷ 105 ∷ 110 ∷ 102 ∷ []) ≡ false → same w (110 ∷ 97 ∷ 110 ∷ []) ≡ false → of_word w ≡ time_of w
  unfolding time_of
  time-word h g f = rw (h, g, f)
