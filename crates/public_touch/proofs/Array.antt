-- Of a list of 65 the first n are the first min n 65. Assumes nothing.
use Prim.Native.Nat.{ℕ, min}
use mathlib.Core.Bool.{Bool, true, false}
use mathlib.Core.List.{List}
use mathlib.Core.Path.{◌≡◌, refl, sym, ap, ◌∙◌}
use native.Mathlib.Omega.{arith}
use lib.ListN.{length, take}
use lib.Seq.{take_all}
use lib.Dec.{leb}
use borrow.Author.Tests.{leb-true, leb-false}

pub take_within : {A : Type 0} (l : List A) (n : ℕ) {k : ℕ} → length l ≡ 65 → k ≡ min n 65 → take k l ≡ take n l
take_within {A} l n {k} long e = go (leb n 65) refl
  where
    go : (b : Bool) → leb n 65 ≡ b → take k l ≡ take n l
    go true t = let same : k ≡ n = omega (arith, e, leb-true n 65 t) in ap (λ (i : ℕ). take i l) same
    go false t =
        let many = leb-false n 65 t in
        take_all k l (omega (arith, e, long, many)) ∙ sym (take_all n l (omega (arith, long, many)))
