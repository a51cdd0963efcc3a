-- Words and values whose times and texts are known: the definitions compute them. Assumes nothing.
use Rattle.std.proofs.Common.{◌≡◌, ℕ, true, List, [], ◌∷◌, refl}
use lib.Count.{count_trailing_zeros}
use lib.Ieee.{Float, binary64, nan, inf, round, size, units, span, climb, odd, of_bits, of_fields, to_bits}
use Rattle.text_words.specs.Words.{digit_of, step, reading, value_in}
use Rattle.text_print.specs.Print.{places, numeral, pattern}
use Rattle.std.specs.Prelude.{Option, Some, None}
use Rattle.text_times.specs.Times.{of_digits, point_at, of_decimal, of_pattern, of_word, same, time_of, size_of, negative, text_of, time_text}

-- `-2.75`, `0.1`, `-0`, `23.6`, `-inf`, `x7FF0000000000001`, `1.`, `0000000000000001`
abbrev pub read : List (Option Float)
read =
    time_of (45 ∷ 50 ∷ 46 ∷ 55 ∷ 53 ∷ []) ∷
    time_of (48 ∷ 46 ∷ 49 ∷ []) ∷
    time_of (45 ∷ 48 ∷ []) ∷
    time_of (50 ∷ 51 ∷ 46 ∷ 54 ∷ []) ∷
    time_of (45 ∷ 105 ∷ 110 ∷ 102 ∷ []) ∷
    time_of (120 ∷ 55 ∷ 70 ∷ 70 ∷ 48 ∷ 48 ∷ 48 ∷ 48 ∷ 48 ∷ 48 ∷ 48 ∷ 48 ∷ 48 ∷ 48 ∷ 48 ∷ 48 ∷ 49 ∷ []) ∷
    time_of (49 ∷ 46 ∷ []) ∷
    time_of (48 ∷ 48 ∷ 48 ∷ 48 ∷ 48 ∷ 48 ∷ 48 ∷ 48 ∷ 48 ∷ 48 ∷ 48 ∷ 48 ∷ 48 ∷ 48 ∷ 48 ∷ 49 ∷ []) ∷
    []

pub read_is : read ≡ Some (of_bits binary64 0xc006_0000_0000_0000) ∷ Some (of_bits binary64 0x3fb9_9999_9999_999a) ∷ Some (of_bits binary64 0x8000_0000_0000_0000) ∷ Some (of_bits binary64 0x4037_9999_9999_999a) ∷ Some (inf true) ∷ Some nan ∷ None ∷ None ∷ []
unfolding time_of of_word of_pattern of_decimal point_at of_digits same value_in reading step digit_of round size units span climb odd count_trailing_zeros of_bits of_fields
read_is = refl

-- `x403799999999999a`, `-4`, `x8000000000000000`, `1034`, `x4340000000000000`
abbrev pub shown : List (List ℕ)
shown =
    time_text (of_bits binary64 0x4037_9999_9999_999a) ∷
    time_text (of_bits binary64 0xc010_0000_0000_0000) ∷
    time_text (of_bits binary64 0x8000_0000_0000_0000) ∷
    time_text (of_bits binary64 0x4090_2800_0000_0000) ∷
    time_text (of_bits binary64 0x4340_0000_0000_0000) ∷
    []

pub shown-is : shown ≡ (120 ∷ 52 ∷ 48 ∷ 51 ∷ 55 ∷ 57 ∷ 57 ∷ 57 ∷ 57 ∷ 57 ∷ 57 ∷ 57 ∷ 57 ∷ 57 ∷ 57 ∷ 57 ∷ 97 ∷ []) ∷ (45 ∷ 52 ∷ []) ∷ (120 ∷ 56 ∷ 48 ∷ 48 ∷ 48 ∷ 48 ∷ 48 ∷ 48 ∷ 48 ∷ 48 ∷ 48 ∷ 48 ∷ 48 ∷ 48 ∷ 48 ∷ 48 ∷ 48 ∷ []) ∷ (49 ∷ 48 ∷ 51 ∷ 52 ∷ []) ∷ (120 ∷ 52 ∷ 51 ∷ 52 ∷ 48 ∷ 48 ∷ 48 ∷ 48 ∷ 48 ∷ 48 ∷ 48 ∷ 48 ∷ 48 ∷ 48 ∷ 48 ∷ 48 ∷ 48 ∷ []) ∷ []
unfolding time_text text_of size_of negative to_bits numeral pattern places size span climb odd count_trailing_zeros of_bits of_fields
shown-is = refl
