-- Words and numbers in a line of bytes. Assumes nothing.
use Rattle.std.specs.Prelude.{◌≡◌, Result, Ok, Err, Bool, true, false, not, ◌&&◌, cond, List, [], ◌∷◌, ℕ, ◌+◌, ◌-◌, ◌*◌, ◌^◌, ◌≤◌, ◌<◌, leb, ltb, eqb, length, get_or, Option, Some, None}
use Rattle.model.specs.Words.{Each, pick}
use Rattle.text_words.specs.declared.NumberError.{NumberError}
use Rattle.text_words.specs.declared.NumberError.TheVariants.{TooLarge, NotANumber}

-- ---- places

-- a byte is b; it is another
abbrev pub is : ℕ → ℕ → Bool
is b x = eqb x b

abbrev pub other : ℕ → ℕ → Bool
other b x = not (eqb x b)

-- r is the first place of s, from i on and before z, whose byte passes the test; z where there is none
pub record First (test : ℕ → Bool) (s : List ℕ) (i z r : ℕ) : Type 0 where
  pub low : i ≤ r
  pub high : r ≤ z
  pub before : Each i r (λ k. test (get_or s k 0) ≡ false)
  pub here : r < z → test (get_or s r 0) ≡ true

-- r is the length of s without the spaces at its end
pub record Trimmed (s : List ℕ) (r : ℕ) : Type 0 where
  pub high : r ≤ length s
  pub after : Each r (length s) (λ k. get_or s k 0 ≡ 32)
  pub here : 0 < r → get_or s (r - 1) 0 ≡ 32 → ⊥

-- nothing but spaces, or a `#` after them: a line that gets no answer
unfoldable pub passed_over : List ℕ → Bool
passed_over [] = true
passed_over (b ∷ bs) = cond (eqb b 32) (passed_over bs) (eqb b 35)

-- ---- numbers

abbrev within : ℕ → ℕ → ℕ → Bool
within lo b hi = leb lo b && leb b hi

-- the value of `0` to `9`, of `a` to `f` and of `A` to `F`; 16 for any other byte
unfoldable pub digit_of : ℕ → ℕ
digit_of b = cond (within 48 b 57) (b - 48) (cond (within 65 b 70) (b - 55) (cond (within 97 b 102) (b - 87) 16))

abbrev keep : Bool → ℕ → Option ℕ
keep true v = Some v
keep false v = None

-- a value with one digit more; none from a byte on that is no digit of the base
unfoldable pub step : ℕ → Option ℕ → ℕ → Option ℕ
step base None b = None
step base (Some v) b = keep (ltb (digit_of b) base) (base * v + digit_of b)

-- a value with the digits bs after it
unfoldable pub reading : ℕ → Option ℕ → List ℕ → Option ℕ
reading base o [] = o
reading base o (b ∷ bs) = reading base (step base o b) bs

-- the value of one or more digits in a base; none where a byte is no digit, or there is none
unfoldable pub value_in : ℕ → List ℕ → Option ℕ
value_in base [] = None
value_in base (b ∷ bs) = reading base (Some 0) (b ∷ bs)

abbrev pub decimal : List ℕ → Option ℕ
decimal w = value_in 10 w

-- a value as a u64
unfoldable pub number_of : Option ℕ → Result ℕ NumberError
number_of None = Err NotANumber
number_of (Some v) = pick (ltb v (2 ^ 64)) (Ok v) (Err TooLarge)
