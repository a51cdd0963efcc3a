-- Laws of `and` and `or`. Assumes nothing.
use mathlib.Core.Bool.{Bool, true, false, ◌&&◌, ◌||◌, true≢false, false≢true}
use mathlib.Core.Path.{◌≡◌, refl}

pub and_true : (x y : Bool) → (x && y) ≡ true → (x ≡ true) × (y ≡ true)
and_true true y e = (refl, e)
and_true false y e = absurd (false≢true e)

pub and_false : (x y : Bool) → x ≡ false → (x && y) ≡ false
and_false true y e = absurd (true≢false e)
and_false false y e = refl

pub and_right : (x y b : Bool) → x ≡ true → (x && y) ≡ b → y ≡ b
and_right true y b e k = k
and_right false y b e k = absurd (false≢true e)

pub or_right : (b c : Bool) → c ≡ true → (b || c) ≡ true
or_right true c e = refl
or_right false c e = e
