-- A loop that puts a list in front of another, element by element: what stands there after i turns. Assumes nothing.
use Prim.Native.Nat.{ℕ, suc, ◌+◌, ◌≤◌, ◌<◌}
use mathlib.Core.Path.{◌≡◌, refl, sym, ap, ◌∙◌}
use mathlib.Core.List.{List, ◌++◌}
use native.Mathlib.Omega.{arith}
use native.Mathlib.Numerals.{add-one}
use lib.ListN.{length, get_or, set, take, drop, length-set}
use lib.Seq.{take-suc, take-length, drop-cons, append_snoc, set_at, length-take-le}
use Rattle.model.specs.Calls.{front}

module _ {A : Type 0} where
  -- l is d with the first i elements of xs in front
  pub record Copied (xs d : List A) (i : ℕ) (l : List A) : Type 0 where
    pub within : i ≤ length xs
    pub room : length xs ≤ length d
    pub long : length l ≡ length d
    pub so : l ≡ take i xs ++ drop i d

  pub copied_none : (xs d : List A) → length xs ≤ length d → Copied xs d 0 d
  copied_none xs d h = record { within = omega arith; room = h; long = refl; so = refl }

  pub copied_more : (z : A) {xs d l : List A} {i : ℕ} {a : A} → Copied xs d i l → i < length xs → a ≡ get_or xs i z → Copied xs d (i + 1) (set l i a)
  copied_more z {xs} {d} {l} {i} {a} h lt e =
      record {
        within = omega arith;
        room = h.room;
        long = length-set l i a ∙ h.long;
        so = rw (h.so, e, add-one) step;
      }
    where
      p : List A
      p = take i xs

      step : set (p ++ drop i d) i (get_or xs i z) ≡ take (suc i) xs ++ drop (suc i) d
      step =
          ap (λ r. set (p ++ r) i (get_or xs i z)) (drop-cons d i z (omega (arith, h.room)))
          ∙ set_at p (get_or d i z) (drop (suc i) d) (get_or xs i z) i (length-take-le i xs (omega arith))
          ∙ sym (append_snoc p (get_or xs i z) (drop (suc i) d))
          ∙ ap (λ r. r ++ drop (suc i) d) (sym (take-suc xs i z lt))

  pub copied_all : {xs d l : List A} {i : ℕ} → Copied xs d i l → length xs ≤ i → l ≡ front xs d
  copied_all {xs} {d} {l} {i} h le =
      let e : i ≡ length xs = omega (arith, h.within) in
      h.so ∙ rw (e, take-length)
