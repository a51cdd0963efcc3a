-- A time as a line writes it, and as the state prints it. Assumes nothing.
use Rattle.std.specs.Prelude.{ℕ, suc, ◌+◌, ◌-◌, ◌*◌, ◌/◌, ◌%◌, ◌^◌, Bool, true, false, cond, ◌&&◌, List, [], ◌∷◌, ◌++◌, length, take, drop, ◌==◌, from_bits, nat_le, nat_lt, to_bits, Float, Option, Some, None}
use Rattle.std.specs.Float.{nan, inf, fin, binary64}
use Rattle.std.specs.Float.Ieee.{round, up, down}
use Rattle.model.specs.Words.{pick}
use Rattle.text_words.specs.Words.{value_in, decimal}
use Rattle.text_print.specs.Print.{numeral, pattern}

-- ---- what is read

-- the digits as a whole number, over the power of ten, rounded once; neg is its sign, of 0 too
abbrev pub ratio : Bool → ℕ → Option ℕ → Option Float
ratio neg k None = None
ratio neg k (Some m) = Some (round binary64 neg m (10 ^ k))

-- at most 15 digits, of which k stand after the point
unfoldable pub of_digits : Bool → List ℕ → ℕ → Option Float
of_digits neg w k = pick (nat_le (length w) 15) (ratio neg k (decimal w)) None

-- the place of the first point; the length where there is none
unfoldable pub point_at : List ℕ → ℕ
point_at [] = 0
point_at (b ∷ w) = cond (b == 46) 0 (suc (point_at w))

-- digits, or digits on both sides of a point
unfoldable pub of_decimal : Bool → List ℕ → Option Float
of_decimal neg w =
    let p = point_at w in
    pick (p == length w) (of_digits neg w 0)
    (pick (nat_lt 0 p && nat_lt (p + 1) (length w)) (of_digits neg (take p w ++ drop (p + 1) w) (length w - (p + 1))) None)

-- the value of a bit pattern; any NaN's is nan
abbrev pub pattern_of : Option ℕ → Option Float
pattern_of None = None
pattern_of (Some b) = Some (from_bits binary64 b)

-- 16 hex digits
unfoldable pub of_pattern : List ℕ → Option Float
of_pattern w = pick (length w == 16) (pattern_of (value_in 16 w)) None

-- by its first byte: `x`, `-`, or any other
unfoldable pub of_word : List ℕ → Option Float
of_word [] = None
of_word (b ∷ w) = pick (b == 120) (of_pattern w) (pick (b == 45) (of_decimal true w) (of_decimal false (b ∷ w)))

-- the same bytes
unfoldable pub same : List ℕ → List ℕ → Bool
same [] [] = true
same [] (c ∷ w) = false
same (b ∷ v) [] = false
same (b ∷ v) (c ∷ w) = b == c && same v w

-- `inf`, `-inf`, `nan`, or a number
unfoldable pub time_of : List ℕ → Option Float
time_of w =
    pick (same w (105 ∷ 110 ∷ 102 ∷ [])) (Some (inf false))
    (pick (same w (45 ∷ 105 ∷ 110 ∷ 102 ∷ [])) (Some (inf true))
    (pick (same w (110 ∷ 97 ∷ 110 ∷ [])) (Some nan) (of_word w)))

-- ---- what is written

-- a whole number below 2 ^ 53 in size; none for any other value
unfoldable pub size_of : Float → Option ℕ
size_of nan = None
size_of (inf s) = None
size_of (fin s m e) = pick (m * up e % down e == 0 && nat_lt (m * up e / down e) (2 ^ 53)) (Some (m * up e / down e)) None

-- the sign, of a zero too
unfoldable pub negative : Float → Bool
negative nan = false
negative (inf s) = s
negative (fin s m e) = s

-- `x` and the 16 hex digits of a pattern
abbrev pub hex_text : ℕ → List ℕ
hex_text b = 120 ∷ pattern b

-- such a whole number prints as one, with `-` where it is negative; any other value, -0 too, as its pattern
unfoldable pub text_of : Bool → Option ℕ → ℕ → List ℕ
text_of neg None b = hex_text b
text_of false (Some n) b = numeral n
text_of true (Some n) b = cond (n == 0) (hex_text b) (45 ∷ numeral n)

unfoldable pub time_text : Float → List ℕ
time_text x = text_of (negative x) (size_of x) (to_bits binary64 x)
