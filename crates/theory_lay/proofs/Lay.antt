-- Laws of `lay`: a list laid in the k places from a on reads back, and no other place and no length changes. A later lay at that place covers an
-- earlier one, and to lay what stands there changes nothing. Assumes nothing.
use Prim.Native.Nat.{ℕ, zero, suc, ◌+◌, ◌-◌, ◌*◌, ◌≤◌, ◌<◌}
use mathlib.Core.Path.{◌≡◌, sym, ap, ◌∙◌}
use mathlib.Core.Logic.{◌⊎◌, inl, inr, ◌≢◌}
use mathlib.Core.List.{List, [], ◌∷◌, ◌++◌, map, append_assoc}
use native.Mathlib.Omega.{arith}
use native.Mathlib.Nat.{add-zero, zero-add, suc-add, sub-zero, suc-sub-suc, le_refl, mul-suc, mul-le-mul_left}
use native.Mathlib.Decide.{dec_lt}
use lib.ListN.{length, get_or, take, drop, replicate, length-append, length-replicate, length-take, length-drop, get_or-append, get_or-replicate, get_or-map, length-map, take-append-drop}
use lib.Seq.{take-nil, take-take, take-append-le, take-append_seam, drop_at, drop-drop, get_or-take, get_or-drop, length-take-le}
use Rattle.model.specs.Words.{Each}
use Rattle.model.specs.Store.{lay}

-- place i is none of the k places from a on
abbrev pub Off : ℕ → ℕ → ℕ → Type 0
Off a k i = (i < a) ⊎ (a + k ≤ i)

-- the n places from b on are none of the k places from a on
abbrev pub Apart : ℕ → ℕ → ℕ → ℕ → Type 0
Apart b n a k = (b + n ≤ a) ⊎ (a + k ≤ b)

pub apart-off : (b n a k : ℕ) → Apart b n a k → Each b (b + n) (Off a k)
apart-off b n a k (inl h) i low high = inl (omega arith)
apart-off b n a k (inr h) i low high = inr (omega arith)

-- a pool that has w places for each store
pub apart-stores : (w q s n k : ℕ) → q ≢ s → n ≤ w → k ≤ w → Apart (w * q) n (w * s) k
apart-stores w q s n k other few less = go (dec_lt q s)
  where
    next : (x y : ℕ) → x < y → w * x + w ≤ w * y
    next x y h = rw mul-suc at (mul-le-mul_left w h)

    go : Dec (q < s) → Apart (w * q) n (w * s) k
    go (yes h) = inl (omega (arith, next q s h))
    go (no h) = inr (omega (arith, next s q (omega arith)))

-- ---- parts of lists

module _ {A : Type 0} where
  pub drop_past : (m : ℕ) (p q : List A) → length p ≤ m → drop m (p ++ q) ≡ drop (m - length p) q
  drop_past m [] q h = rw sub-zero
  drop_past zero (x ∷ p) q h = absurd (omega arith)
  drop_past (suc m) (x ∷ p) q h = rw suc-sub-suc (drop_past m p q (omega arith))

  get_d_past : (i : ℕ) (p q : List A) (d : A) → length p ≤ i → get_or (p ++ q) i d ≡ get_or q (i - length p) d
  get_d_past i [] q d h = rw sub-zero
  get_d_past zero (x ∷ p) q d h = absurd (omega arith)
  get_d_past (suc i) (x ∷ p) q d h = rw suc-sub-suc (get_d_past i p q d (omega arith))

  pub blank_at : (n i : ℕ) (a d : A) (rest : List A) → i < n → get_or (replicate n a ++ rest) i d ≡ a
  blank_at n i a d rest h = get_or-append (replicate n a) rest d i (rw length-replicate h) ∙ get_or-replicate n i a d h

  same_take : (m i : ℕ) (l r : List A) (d : A) → i < m → take m l ≡ take m r → get_or l i d ≡ get_or r i d
  same_take m i l r d h e = sym (get_or-take m l i d h) ∙ ap (λ (t : List A). get_or t i d) e ∙ get_or-take m r i d h

  same_drop : (i : ℕ) (l r : List A) (d : A) → drop i l ≡ drop i r → get_or l i d ≡ get_or r i d
  same_drop i l r d e = rw add-zero at (sym (get_or-drop i l 0 d) ∙ ap (λ (t : List A). get_or t 0 d) e ∙ get_or-drop i r 0 d)

  -- the n from place m on, the first m + n being cut off before
  take_drop : (m n : ℕ) (l : List A) → take n (drop m l) ≡ drop m (take (m + n) l)
  take_drop zero n l = rw zero-add
  take_drop (suc m) n [] = simp take-nil
  take_drop (suc m) n (x ∷ xs) = rw (suc-add m n) (take_drop m n xs)

-- ---- one lay

module _ {A : Type 0} (blank : A) (a k : ℕ) (xs pool : List A) (short : length xs ≤ k) (fits : a + k ≤ length pool) where
  pub lay_length : length (lay blank a k xs pool) ≡ length pool
  unfolding lay
  lay_length = simp (length-append, length-take, length-replicate, length-drop) (omega arith)

  -- up to place a, and from a + k on
  pub lay_take : (m : ℕ) → m ≤ a → take m (lay blank a k xs pool) ≡ take m pool
  unfolding lay
  lay_take m h = take-append-le m (take a pool) _ (simp length-take (omega arith)) ∙ take-take m a pool h

  pub lay_drop : (m : ℕ) → a + k ≤ m → drop m (lay blank a k xs pool) ≡ drop m pool
  unfolding lay
  lay_drop m h =
      ap (λ (l : List A). drop m l) (simp append_assoc)
      ∙ drop_past m front (drop (a + k) pool) (omega (arith, long))
      ∙ drop-drop (m - length front) (a + k) pool
      ∙ ap (λ (n : ℕ). drop n pool) rest
    where
      front : List A
      front = take a pool ++ xs ++ replicate (k - length xs) blank

      long : length front ≡ a + k
      long = simp (length-append, length-take, length-replicate) (omega arith)

      rest : a + k + (m - length front) ≡ m
      rest = omega (arith, long)

  -- what stands from place a on
  lay-from : drop a (lay blank a k xs pool) ≡ xs ++ (replicate (k - length xs) blank ++ drop (a + k) pool)
  unfolding lay
  lay-from = drop_at (take a pool) _ a (length-take-le a pool (omega arith))

  pub lay-read : take (length xs) (drop a (lay blank a k xs pool)) ≡ xs
  lay-read = rw lay-from (take-append_seam xs _)

  pub lay_in : (i : ℕ) (d : A) → i < length xs → get_or (lay blank a k xs pool) (a + i) d ≡ get_or xs i d
  lay_in i d h = rw (← get_or-drop, lay-from) (get_or-append xs _ d i h)

  pub lay-off : (i : ℕ) (d : A) → Off a k i → get_or (lay blank a k xs pool) i d ≡ get_or pool i d
  lay-off i d (inl h) = same_take a i _ pool d h (lay_take a (le_refl a))
  lay-off i d (inr h) = same_drop i _ pool d (lay_drop i h)

  -- the n places from m on
  pub lay_window : (m n : ℕ) → Apart m n a k → take n (drop m (lay blank a k xs pool)) ≡ take n (drop m pool)
  lay_window m n (inl h) = simp (take_drop, lay_take)
  lay_window m n (inr h) = rw lay_drop

-- ---- a column: the field f of each of rs, in a pool of `all` places or more

module _ {R : Type 0} (a k all : ℕ) (rs : List R) (short : length rs ≤ k) (fits : a + k ≤ all) where
  module _ {A : Type 0} (f : R → A) (blank : A) (pool : List A) (long : all ≤ length pool) where
    short_column : length (map f rs) ≤ k
    short_column = rw length-map short

    inside : a + k ≤ length pool
    inside = omega arith

    pub column_long : all ≤ length (lay blank a k (map f rs) pool)
    column_long = rw (lay_length blank a k (map f rs) pool short_column inside) long

    pub column_in : (i : ℕ) (d : R) → i < length rs → get_or (lay blank a k (map f rs) pool) (a + i) (f d) ≡ f (get_or rs i d)
    column_in i d h = lay_in blank a k (map f rs) pool short_column inside i (f d) (rw length-map h) ∙ get_or-map f rs i d

    pub column_off : (i : ℕ) (d : A) → Off a k i → get_or (lay blank a k (map f rs) pool) i d ≡ get_or pool i d
    column_off = lay-off blank a k (map f rs) pool short_column inside

-- ---- two lays at one place, and none

module _ {A : Type 0} (blank : A) (a : ℕ) where
  same-lay : (k : ℕ) (ys l r : List A) → take a l ≡ take a r → drop (a + k) l ≡ drop (a + k) r → lay blank a k ys l ≡ lay blank a k ys r
  unfolding lay
  same-lay k ys l r p q = cc

  pub lay-lay : (j k : ℕ) (xs ys pool : List A) → j ≤ k → length xs ≤ j → a + j ≤ length pool
      → lay blank a k ys (lay blank a j xs pool) ≡ lay blank a k ys pool
  lay-lay j k xs ys pool wider short fits =
      same-lay k ys _ pool (lay_take blank a j xs pool short fits a (le_refl a)) (lay_drop blank a j xs pool short fits (a + k) (omega arith))

  pub lay-same : (k : ℕ) (xs pool : List A) → length xs ≡ k → xs ≡ take k (drop a pool) → lay blank a k xs pool ≡ pool
  unfolding lay
  lay-same k xs pool long same =
      let none : k - length xs ≡ 0 = omega arith in
      rw (none, ← drop-drop k a pool, same, take-append-drop k, take-append-drop a)
