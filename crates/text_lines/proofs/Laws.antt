-- What was read is not empty, so a reader goes on. Assumes nothing.
use Rattle.std.proofs.Common.{◌≡◌, ℕ, ◌+◌, ◌-◌, ◌<◌, ◌≤◌, List, [], ◌∷◌, length, drop, Some, None, Result, arith, ◌∙◌, ap, length-drop}
use Rattle.std.specs.Result.{result_ok}
use lib.Ieee.{Float}
use Rattle.text_words.specs.declared.NumberError.{NumberError}
use Rattle.text_words.specs.Words.{value_in, decimal, number_of}
use Rattle.text_times.specs.Times.{same, of_word, time_of}
use Rattle.text_lines.specs.Lines.{NextWord, Passed}

pub number_some : (w : List ℕ) (n : Result ℕ NumberError) (v : ℕ) → n ≡ number_of (decimal w) → result_ok n ≡ Some v → 0 < length w
unfolding number_of value_in
number_some [] n v e h = let o : result_ok n ≡ None = ap result_ok e in let z : ◌≡◌ {A = ℕ} 0 1 = cc in absurd (omega arith)
number_some (b ∷ w) n v e h = omega arith

pub time_some : (w : List ℕ) (t : Float) → Some t ≡ time_of w → 0 < length w
unfolding time_of of_word same
time_some [] t e = let z : ◌≡◌ {A = ℕ} 0 1 = cc in absurd (omega arith)
time_some (b ∷ w) t e = omega arith

pub passed : (s w r : List ℕ) → NextWord s w r → length w + length r ≤ length s → 0 < length w → Passed s r
passed s w r n h l =
    let e : length r ≡ length s - n.to = ap length n.rest ∙ length-drop n.to s in
    let q : n.to ≡ length s - length r = omega (arith, n.ends.high) in
    record { shorter = omega arith; end = n.rest ∙ ap (λ (k : ℕ). drop k s) q }
