-- The decimal digits of a number: how many there are, and that they read back as the number. Assumes nothing.
use mathlib.Core.Path.{◌≡◌, refl, sym, ap, subst, ◌∙◌}
use mathlib.Core.Bool.{Bool, true, false, cond}
use mathlib.Core.List.{List, [], ◌∷◌}
use Prim.Native.Nat.{ℕ, zero, suc, ◌+◌, ◌-◌, ◌*◌, ◌/◌, ◌%◌, ◌^◌, ◌≤◌, ◌<◌}
use native.Mathlib.Nat.{pow-suc, pow-zero, one-le-pow, div-lt_iff_lt-mul, le-div_iff_mul-le, div-add-mod, mod-lt, mod-eq_of_lt, pow-le-pow_right}
use native.Mathlib.Numerals.{add-one}
use native.Mathlib.Omega.{arith}
use borrow.Author.Tests.{ltb-true, ltb-false, lt-ltb}
use lib.Dec.{ltb}
use lib.ListN.{length, get_or, take, length-append, get_or-append}
use lib.Seq.{length-take-le}
use Rattle.io.specs.Digits.{hex_digit_ascii, last_digits, IsDigitCount}
use Rattle.text_words.specs.Words.{digit_of, step, reading, value_in, decimal}
use Rattle.text_words.proofs.Laws.{digit_decimal, digit_lower, step_digit, reading_append, reading-one, value_snoc}
use Rattle.std.specs.Prelude.{Option, Some}
use Rattle.text_print.specs.Print.{places, numeral, pattern, Put, PutNumber, PutHex}

pub length_digits : (b k n : ℕ) → length (last_digits b k n) ≡ k
length_digits b zero n = refl
length_digits b (suc k) n = length-append (last_digits b k (n / b)) (hex_digit_ascii (n % b) ∷ []) ∙ rw (length_digits b k (n / b)) (add-one k)

-- a number that has more than one digit is 10 or more, and with one digit less it is its tenth
fewest_low : (n j : ℕ) → n < 10 → IsDigitCount 10 1 n (suc (suc j)) → ⊥
fewest_low n j h f =
    let e : suc (suc j) - 1 ≡ suc j = omega arith in
    let g : 10 ^ (suc (suc j) - 1) ≤ n = f.2 (omega arith) in
    let q : 10 ^ j * 10 ≤ n = rw (e, pow-suc) at g in
    omega (arith, one-le-pow j 10 (omega arith))

fewest_tenth : (n j : ℕ) → IsDigitCount 10 1 n (suc (suc j)) → IsDigitCount 10 1 (n / 10) (suc j)
fewest_tenth n j f =
    let z : 0 < 10 = omega arith in
    let e : suc (suc j) - 1 ≡ suc j = omega arith in
    let d : suc j - 1 ≡ j = omega arith in
    let g : 10 ^ (suc (suc j) - 1) ≤ n = f.2 (omega arith) in
    let a : n < 10 ^ suc j * 10 = rw (pow-suc 10 (suc j)) at f.1 in
    let q : 10 ^ j * 10 ≤ n = rw (e, pow-suc) at g in
    (omega arith, (div-lt_iff_lt-mul z).1 a, λ _. rw d ((le-div_iff_mul-le z).1 q))

pub places_is : (f n k : ℕ) → IsDigitCount 10 1 n k → k ≤ suc f → places f n ≡ k
unfolding places
places_is zero n k w h = omega (arith, w.0)
places_is (suc f) n k w h = go (λ j. places_is f (n / 10) j) (ltb n 10) refl k w h
  where
    go : ((j : ℕ) → IsDigitCount 10 1 (n / 10) j → j ≤ suc f → places f (n / 10) ≡ j) → (t : Bool) → ltb n 10 ≡ t → (k : ℕ) → IsDigitCount 10 1 n k
        → k ≤ suc (suc f) → cond t 1 (suc (places f (n / 10))) ≡ k
    go rest t e zero w h = absurd (omega (arith, w.0))
    go rest true e (suc zero) w h = refl
    go rest true e (suc (suc j)) w h = absurd (fewest_low n j (ltb-true n 10 e) w)
    go rest false e (suc zero) w h = absurd (omega (arith, ltb-false n 10 e, w.1))
    go rest false e (suc (suc j)) w h = ap suc (rest (suc j) (fewest_tenth n j w) (omega arith))

-- a digit reads back as its value
digit_back : (d : ℕ) → d < 16 → d ≡ digit_of (hex_digit_ascii d)
digit_back d h = go (ltb d 10) refl
  where
    go : (t : Bool) → ltb d 10 ≡ t → d ≡ digit_of (cond t (48 + d) (87 + d))
    go true e =
        let l : d < 10 = ltb-true d 10 e in
        let q : d ≡ 48 + d - 48 = omega arith in
        q ∙ digit_decimal (48 + d) (omega arith) (omega arith)
    go false e =
        let l : 10 ≤ d = ltb-false d 10 e in
        let q : d ≡ 87 + d - 87 = omega arith in
        q ∙ digit_lower (87 + d) (omega arith) (omega arith)

-- the last k digits of n in a base up to 16 read back as n, which they hold
module _ (b : ℕ) (low : 0 < b) (high : b ≤ 16) where
  step_back : (n : ℕ) → step b (Some (n / b)) (hex_digit_ascii (n % b)) ≡ Some n
  step_back n =
      let h : n % b < b = mod-lt n low in
      step_digit b (hex_digit_ascii (n % b)) (n % b) (digit_back (n % b) (omega arith)) (n / b) h ∙ ap {B = Option ℕ} Some (div-add-mod n b)

  reads-back : (k n : ℕ) → n < b ^ k → reading b (Some 0) (last_digits b k n) ≡ Some n
  unfolding reading
  reads-back zero n h = let e : 0 ≡ n = omega (arith, pow-zero b) in ap {B = Option ℕ} Some e
  reads-back (suc k) n h =
      let g : n < b ^ k * b = rw pow-suc at h in
      let i : n / b < b ^ k = (div-lt_iff_lt-mul low).1 g in
      reading_append b (Some 0) (last_digits b k (n / b)) (hex_digit_ascii (n % b) ∷ [])
      ∙ ap (λ (o : Option ℕ). reading b o (hex_digit_ascii (n % b) ∷ [])) (reads-back k (n / b) i)
      ∙ reading-one b (Some (n / b)) (hex_digit_ascii (n % b))
      ∙ step_back n

  pub digits_read : (k n : ℕ) → 1 ≤ k → n < b ^ k → value_in b (last_digits b k n) ≡ Some n
  digits_read zero n l h = absurd (omega arith)
  digits_read (suc k) n l h = value_snoc b (last_digits b k (n / b)) (hex_digit_ascii (n % b)) ∙ reads-back (suc k) n h

-- what is written is the numeral
pub numeral-is : (n k : ℕ) → IsDigitCount 10 1 n k → k ≤ 20 → last_digits 10 k n ≡ numeral n
unfolding numeral
numeral-is n k f h = rw (places_is 19 n k f h)

zero-numeral : numeral 0 ≡ 48 ∷ []
unfolding numeral places
zero-numeral = refl

pub numeral_reads : (n k : ℕ) → IsDigitCount 10 1 n k → k ≤ 20 → decimal (numeral n) ≡ Some n
numeral_reads n k f h = rw (← numeral-is n k f h) (digits_read 10 (omega arith) (omega arith) k n f.0 f.1)

-- a zero in front stands alone
first_digit : (k n : ℕ) → IsDigitCount 10 1 n (suc k) → get_or (last_digits 10 (suc k) n) 0 0 ≡ 48 → n ≡ 0
first_digit zero n f e =
    let h : n < 10 = omega (arith, f.1) in
    let g : n % 10 ≡ n = mod-eq_of_lt h in
    let l : n % 10 < 10 = omega arith in
    let q : 48 + n % 10 ≡ 48 = rw (lt-ltb (n % 10) 10 l) at e in
    omega arith
first_digit (suc k) n f e =
    let d : 0 < length (last_digits 10 (suc k) (n / 10)) = rw (length_digits 10 (suc k) (n / 10)) (omega arith) in
    let z : n / 10 ≡ 0 =
    first_digit k (n / 10) (fewest_tenth n k f)
    (sym (get_or-append (last_digits 10 (suc k) (n / 10)) (hex_digit_ascii (n % 10) ∷ []) 0 0 d) ∙ e) in
    let m : n % 10 < 10 = mod-lt n (omega arith) in
    absurd (fewest_low n k (omega (arith, div-add-mod n 10)) f)

pub numeral-plain : (n k : ℕ) → IsDigitCount 10 1 n k → k ≤ 20 → get_or (numeral n) 0 0 ≡ 48 → numeral n ≡ 48 ∷ []
numeral-plain n zero f h e = absurd (omega (arith, f.0))
numeral-plain n (suc k) f h e =
    let z : n ≡ 0 = first_digit k n f (rw (← numeral-is n (suc k) f h) at e) in
    ap numeral z ∙ zero-numeral

-- a u64 has at most 20 digits
at_most : (b least most n k : ℕ) → 0 < b → least ≤ most → n < b ^ most → IsDigitCount b least n k → k ≤ most
at_most b least most n k z l h f = let g : most < k → ⊥ = more in omega (arith, g)
  where
    more : most < k → ⊥
    more g =
        let p : most ≤ k - 1 = omega arith in
        let q : b ^ (k - 1) ≤ n = f.2 (omega arith) in
        let r : b ^ most ≤ b ^ (k - 1) = pow-le-pow_right z p in
        omega arith

pub at-most_20 : (n k : ℕ) → n < 2 ^ 64 → IsDigitCount 10 1 n k → k ≤ 20
at-most_20 n k h f = at_most 10 1 20 n k (omega arith) (omega arith) (omega arith) f

-- and 16 hex digits
pub just_16 : (n k : ℕ) → n < 2 ^ 64 → IsDigitCount 16 16 n k → k ≡ 16
just_16 n k h f = omega (arith, at_most 16 16 16 n k (omega arith) (omega arith) (omega arith) f, f.0)

-- from a text whose first k bytes are the fewest digits of n
pub number_put : (at n k r : ℕ) (t l o : List ℕ) → n < 2 ^ 64 → k ≤ length t → IsDigitCount 10 1 n k → take k t ≡ last_digits 10 k n → Put at (take k t) l o r → PutNumber at n l o r
number_put at n k r t l o s h f e p =
    let g : k ≤ 20 = at-most_20 n k s f in
    let q : length (take k t) ≡ k = length-take-le k t h in
    record {
      put = subst (λ (w : List ℕ). Put at w l o r) (e ∙ numeral-is n k f g) p;
      reads = numeral_reads n k f g;
      plain = numeral-plain n k f g;
      short = omega (arith, p.next);
    }

pub hex_put : (at n k r : ℕ) (t l o : List ℕ) → n < 2 ^ 64 → IsDigitCount 16 16 n k → take k t ≡ last_digits 16 k n → Put at (take k t) l o r → PutHex at n l o r
unfolding pattern
hex_put at n k r t l o s f e p =
    record {
      put = subst (λ (w : List ℕ). Put at w l o r) (e ∙ ap (λ (j : ℕ). last_digits 16 j n) (just_16 n k s f)) p;
      reads = digits_read 16 (omega arith) (omega arith) 16 n (omega arith) (omega arith);
    }
