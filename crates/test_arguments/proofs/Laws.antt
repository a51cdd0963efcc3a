-- The test of times is the definition's. Assumes nothing.
use mathlib.Core.Path.{◌≡◌}
use mathlib.Core.Bool.{Bool}
use lib.Ieee.{Float, nan, inf, fin}
use Rattle.std.specs.Float.{float_is_finite}
use Rattle.model.specs.Words.{Says}
use Rattle.model.specs.Sound.{Finite}
use Rattle.model.specs.SoundTest.{finite}
use Rattle.theory_refuse.proofs.Says.{says-one}
use Rattle.theory_refuse.proofs.Sound.{finite_sure}

-- the test that says "finite" is the definition's
pub finite-is : (x : Float) (b : Bool) → Says b (Finite x) → b ≡ finite x
finite-is x b h = says-one (Finite x) b (finite x) h (finite_sure x).says

-- what is neither an infinity nor no number is finite
pub finite-says : (x : Float) → Says (float_is_finite x) (Finite x)
unfolding float_is_finite
finite-says nan = λ f. f
finite-says (inf s) = λ f. f
finite-says (fin s m e) = tt
