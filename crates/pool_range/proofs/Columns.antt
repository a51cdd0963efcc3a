-- A column is opened or closed at a place by one move and one store, over any element type. Assumes nothing.
use mathlib.Core.Path.{◌≡◌, ◌∙◌}
use mathlib.Core.List.{List, ◌∷◌, ◌++◌, append_assoc}
use Prim.Native.Nat.{ℕ, suc, ◌+◌, ◌-◌, ◌≤◌, ◌<◌}
use native.Mathlib.Numerals.{add-one}
use native.Mathlib.Omega.{arith}
use lib.ListN.{length, take, drop, get_or, set, length-append, length-take, length-drop}
use lib.Seq.{drop-cons, take-append-le, drop_at, take-take, set_at, set_split, length-take-le}
use Rattle.std.specs.List.{copy_within}
use Rattle.pool_range.specs.Cols.{put_at, cut_at}

module _ {A : Type 0} where
  -- the last of a front of at + 1 elements set
  set_last : (at : ℕ) (l t : List A) (x : A) → at < length l → set (take (at + 1) l ++ t) at x ≡ take at l ++ (x ∷ t)
  set_last at l t x k =
      let q : length (take (at + 1) l) ≡ suc at = length-take-le (at + 1) l (omega arith) ∙ add-one at in
      let p : at < length (take (at + 1) l ++ t) = omega (arith, q, length-append (take (at + 1) l) t) in
      let r : at ≤ length (take (at + 1) l) = omega arith in
      let s : at ≤ at + 1 = omega arith in
      set_split (take (at + 1) l ++ t) at x p
      ∙ rw (take-append-le at (take (at + 1) l) t r, take-take at (at + 1) l s, drop_at (take (at + 1) l) t (suc at) q)

  pub opened_put : (at n : ℕ) (l : List A) (x : A) → at ≤ n → n < length l → set (copy_within l at n (at + 1)) at x ≡ put_at at x n l
  unfolding put_at
  opened_put at n l x h k =
      let e : (at + 1) + (n - at) ≡ n + 1 = omega arith in
      let b : at < length l = omega arith in
      rw (e, append_assoc) (set_last at l (take (n - at) (drop at l) ++ drop (n + 1) l) x b)

  pub closed_blank : (at n : ℕ) (l : List A) (blank : A) → at < n → n ≤ length l → set (copy_within l (at + 1) n at) (n - 1) blank ≡ cut_at blank at n l
  unfolding cut_at
  closed_blank at n l blank h k =
      let e : at + (n - (at + 1)) ≡ n - 1 = omega arith in
      let m : suc (n - 1) ≡ n = omega arith in
      let j : n - 1 < length l = omega arith in
      let f : length (take at l ++ take (n - (at + 1)) (drop (at + 1) l)) ≡ n - 1 = simp (length-append, length-take, length-drop) (omega arith) in
      rw (e, drop-cons l (n - 1) blank j, m)
      (set_at (take at l ++ take (n - (at + 1)) (drop (at + 1) l)) (get_or l (n - 1) blank) (drop n l) blank (n - 1) f ∙ append_assoc (take at l) (take (n - (at + 1)) (drop (at + 1) l)) (blank ∷ drop n l))
