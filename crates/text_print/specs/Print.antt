-- Bytes and numbers written into a buffer. Assumes nothing.
use Rattle.std.specs.Prelude.{◌≡◌, cond, List, [], ◌∷◌, ◌++◌, ℕ, zero, suc, ◌+◌, ◌/◌, ◌≤◌, ltb, length, get_or, take, drop, Some}
use Rattle.io.specs.Digits.{last_digits}
use Rattle.text_words.specs.Words.{value_in, decimal}

-- l with w from place `at` on, and every other place as it was
abbrev pub written : ℕ → List ℕ → List ℕ → List ℕ
written at w l = take at l ++ w ++ drop (at + length w) l

-- w was written at `at`: l before, l' after, r the place past it
pub record Put (at : ℕ) (w l l' : List ℕ) (r : ℕ) : Type 0 where
  pub next : r ≡ at + length w
  pub text : l' ≡ written at w l

-- how many decimal digits n has, of at most f + 1
unfoldable pub places : ℕ → ℕ → ℕ
places zero n = 1
places (suc f) n = cond (ltb n 10) 1 (suc (places f (n / 10)))

-- a u64 in decimal, with no zero in front
unfoldable pub numeral : ℕ → List ℕ
numeral n = last_digits 10 (places 19 n) n

-- a u64 as 16 hex digits, in lower case
unfoldable pub pattern : ℕ → List ℕ
pattern n = last_digits 16 16 n

-- n was written: what stands there now reads as n, and a zero in front stands alone
pub record PutNumber (at n : ℕ) (l l' : List ℕ) (r : ℕ) : Type 0 where
  pub put : Put at (numeral n) l l' r
  pub reads : decimal (numeral n) ≡ Some n
  pub plain : get_or (numeral n) 0 0 ≡ 48 → numeral n ≡ 48 ∷ []
  pub short : r ≤ at + 20

pub record PutHex (at n : ℕ) (l l' : List ℕ) (r : ℕ) : Type 0 where
  pub put : Put at (pattern n) l l' r
  pub reads : value_in 16 (pattern n) ≡ Some n
