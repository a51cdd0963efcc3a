-- Putting into, cutting out of and setting a column that a list was laid into does the same to the list: the column stays laid.
use mathlib.Core.Path.{◌≡◌, sym, ap, ◌∙◌}
use mathlib.Core.List.{List, ◌∷◌, ◌++◌, append_assoc}
use Prim.Native.Nat.{ℕ, suc, ◌+◌, ◌-◌, ◌≤◌, ◌<◌}
use native.Mathlib.Nat.{zero-add}
use native.Mathlib.Omega.{arith}
use lib.ListN.{length, take, drop, set, replicate, length-append, length-take, length-drop}
use lib.Seq.{take-append-le, drop-append-le, drop-append-add, drop-drop, set-append_left, take_at, drop_at}
use Rattle.model.specs.Store.{lay}
use Rattle.pool_range.specs.Cols.{put_at, cut_at, insert_at, remove_at}

module _ {A : Type 0} (blank : A) where
  -- at the front of the pool
  pub lay-front : (k : ℕ) (xs l : List A) → lay blank 0 k xs l ≡ xs ++ (replicate (k - length xs) blank ++ drop k l)
  unfolding lay
  lay-front k xs l = rw zero-add

  -- with no place left blank
  pub lay-full : (n : ℕ) (xs l : List A) → length xs ≡ n → lay blank 0 n xs l ≡ xs ++ drop n l
  lay-full n xs l e =
      let z : n - length xs ≡ 0 = omega arith in
      lay-front n xs l ∙ rw z

  pub length_insert_at : (at : ℕ) (x : A) (xs : List A) → at ≤ length xs → length (insert_at at x xs) ≡ length xs + 1
  unfolding insert_at
  length_insert_at at x xs h = simp (length-append, length-take, length-drop) (omega arith)

  pub length_remove_at : (at : ℕ) (xs : List A) → at < length xs → length (remove_at at xs) ≡ length xs - 1
  unfolding remove_at
  length_remove_at at xs h = simp (length-append, length-take, length-drop) (omega arith)

  pub put-lay : (at n : ℕ) (x : A) (xs l : List A) → length xs ≡ n → at ≤ n
      → put_at at x n (lay blank 0 n xs l) ≡ lay blank 0 (n + 1) (insert_at at x xs) l
  unfolding put_at insert_at
  put-lay at n x xs l e h =
      let g : at ≤ length xs = omega arith in
      let m : length (drop at xs) ≡ n - at = omega (arith, length-drop at xs) in
      let q : length (insert_at at x xs) ≡ n + 1 = omega (arith, length_insert_at at x xs g) in
      rw (lay-full n xs l e, lay-full (n + 1) (insert_at at x xs) l q)
      (rw (take-append-le at xs (drop n l) g, drop-append-le at xs (drop n l) g, take_at (drop at xs) (drop n l) (n - at) m)
      (ap (λ (t : List A). take at xs ++ (x ∷ (drop at xs ++ t))) (past n xs l e) ∙ sym (append_assoc (take at xs) (x ∷ drop at xs) (drop (n + 1) l))))
    where
      past : (n : ℕ) (xs l : List A) → length xs ≡ n → drop (n + 1) (xs ++ drop n l) ≡ drop (n + 1) l
      past n xs l e = let w : n + 1 ≡ length xs + 1 = omega arith in ap (λ (t : ℕ). drop t (xs ++ drop n l)) w ∙ drop-append-add xs (drop n l) 1 ∙ drop-drop 1 n l

  pub cut-lay : (at n k : ℕ) (xs l : List A) → length xs ≡ n → n ≤ k → at < n
      → cut_at blank at n (lay blank 0 k xs l) ≡ lay blank 0 k (remove_at at xs) l
  unfolding cut_at remove_at
  cut-lay at n k xs l e f h =
      let g : at ≤ length xs = omega arith in
      let g' : at + 1 ≤ length xs = omega arith in
      let m : length (drop (at + 1) xs) ≡ n - (at + 1) = omega (arith, length-drop (at + 1) xs) in
      let q : length (remove_at at xs) ≡ n - 1 = omega (arith, length_remove_at at xs (omega arith)) in
      let z : k - length (remove_at at xs) ≡ suc (k - length xs) = omega arith in
      rw (lay-front k xs l, lay-front k (remove_at at xs) l, z)
      (rw (take-append-le at xs (rest k) g, drop-append-le (at + 1) xs (rest k) g', take_at (drop (at + 1) xs) (rest k) (n - (at + 1)) m, drop_at xs (rest k) n e)
      (sym (append_assoc (take at xs) (drop (at + 1) xs) (blank ∷ rest k))))
    where
      rest : ℕ → List A
      rest k = replicate (k - length xs) blank ++ drop k l

  pub set-lay : (at k : ℕ) (v : A) (xs l : List A) → at < length xs → set (lay blank 0 k xs l) at v ≡ lay blank 0 k (set xs at v) l
  set-lay at k v xs l h =
      rw (lay-front k xs l, lay-front k (set xs at v) l) (set-append_left xs _ at v h ∙ rw (lib.ListN.length-set xs at v))
