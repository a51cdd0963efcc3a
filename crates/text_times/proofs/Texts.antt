-- Which text a time has, by its sign and its size. Assumes nothing.
use Rattle.std.proofs.Common.{◌≡◌, ℕ, Bool, true, false, List, ◌∷◌, sym, ap, subst, eq-eqb, ne_eqb}
use lib.Ieee.{Float, binary64, to_bits, is_nan}
use Rattle.text_print.specs.Print.{Put, numeral}
use Rattle.std.specs.Prelude.{Option, Some, None}
use Rattle.text_times.proofs.Values.{nan_only}
use Rattle.text_times.specs.Times.{size_of, negative, hex_text, text_of, time_text}

pub put_as : (at : ℕ) (v w l o : List ℕ) (r : ℕ) → v ≡ w → Put at w l o r → Put at v l o r
put_as at v w l o r e p = subst (λ (x : List ℕ). Put at x l o r) (sym e) p

module _ (neg : Bool) (w : Option ℕ) (b : ℕ) where
  pub text-other : w ≡ None → text_of neg w b ≡ hex_text b
  unfolding text_of
  text-other e = rw e

  pub text-plain : (n : ℕ) → neg ≡ false → w ≡ Some n → text_of neg w b ≡ numeral n
  unfolding text_of
  text-plain n f e = rw (f, e)

  pub text-zero : (n : ℕ) → neg ≡ true → w ≡ Some n → n ≡ 0 → text_of neg w b ≡ hex_text b
  unfolding text_of
  text-zero n f e z = rw (f, e, eq-eqb n 0 z)

  pub text_minus : (n : ℕ) → neg ≡ true → w ≡ Some n → (n ≡ 0 → ⊥) → text_of neg w b ≡ 45 ∷ numeral n
  unfolding text_of
  text_minus n f e z = rw (f, e, ne_eqb n 0 z)

-- the pattern that stands for nan
pub nan_text : (x : Float) → is_nan x ≡ true → time_text x ≡ hex_text 9221120237041090560
unfolding time_text text_of size_of negative to_bits
nan_text x h = ap time_text (nan_only x h)

pub time-text : (x : Float) (neg : Bool) (w : Option ℕ) → neg ≡ negative x → w ≡ size_of x → time_text x ≡ text_of neg w (to_bits binary64 x)
unfolding time_text
time-text x neg w p q = rw (p, q)
