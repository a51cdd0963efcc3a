-- What the tests of a step say: by them it goes one of its three ways. Assumes nothing.
use mathlib.Core.Path.{◌≡◌, refl}
use mathlib.Core.Bool.{Bool, true, false, ◌&&◌}

-- it is across where it has blocks beyond and begins below
pub across-both : (e s t : Bool) → (e && (s && t)) ≡ ((e && t) && s)
across-both true true true = refl
across-both true true false = refl
across-both true false true = refl
across-both true false false = refl
across-both false s t = refl
