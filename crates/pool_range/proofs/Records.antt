-- A part that a list of ranges was laid into stays laid: a put or a cut of the columns is one of the list.
use mathlib.Core.Path.{◌≡◌, refl, sym, ap, ◌∙◌}
use mathlib.Core.List.{List, [], ◌∷◌, ◌++◌, map}
use Prim.Native.Nat.{ℕ, zero, suc, ◌+◌, ◌≤◌, ◌<◌}
use native.Mathlib.Omega.{arith}
use lib.ListN.{length, take, drop, set, length-map}
use lib.Ieee.{Float}
use Rattle.model.specs.State.{Ranges, Range}
use Rattle.model.specs.Store.{lay, lay_ranges, no_time}
use Rattle.shape_state.specs.Lent.{ranges_of}
use Rattle.pool_range.specs.Cols.{put_at, cut_at, insert_at, remove_at}
use Rattle.pool_range.proofs.Laid.{put-lay, cut-lay}
use Rattle.pool_range.specs.Part.{put_range, cut_range}

pub ranges_eq : {a a' b b' c c' d d' e e' : List ℕ} {f f' : List Float} {g g' : List ℕ}
    → a ≡ a' → b ≡ b' → c ≡ c' → d ≡ d' → e ≡ e' → f ≡ f' → g ≡ g' → ranges_of a b c d e f g ≡ ranges_of a' b' c' d' e' f' g'
ranges_eq p q r s t u v = cc

-- over numbers, so that a caller need not write the list
pub below : {n k m : ℕ} → n < k → m ≡ k → n < m
below h e = omega arith

pub within : {n k m : ℕ} → n ≤ k → m ≡ k → n ≤ m
within h e = omega arith

-- ---- lists of ranges, column by column

map_take : {A B : Type 0} (f : A → B) (n : ℕ) (xs : List A) → map f (take n xs) ≡ take n (map f xs)
map_take f zero xs = refl
map_take f (suc n) [] = refl
map_take f (suc n) (x ∷ xs) = ap (λ t. f x ∷ t) (map_take f n xs)

map_drop : {A B : Type 0} (f : A → B) (n : ℕ) (xs : List A) → map f (drop n xs) ≡ drop n (map f xs)
map_drop f zero xs = refl
map_drop f (suc n) [] = refl
map_drop f (suc n) (x ∷ xs) = map_drop f n xs

map-append : {A B : Type 0} (f : A → B) (xs ys : List A) → map f (xs ++ ys) ≡ map f xs ++ map f ys
map-append f [] ys = refl
map-append f (x ∷ xs) ys = ap (λ t. f x ∷ t) (map-append f xs ys)

pub map_insert_at : {A B : Type 0} (f : A → B) (at : ℕ) (x : A) (xs : List A) → map f (insert_at at x xs) ≡ insert_at at (f x) (map f xs)
unfolding insert_at
map_insert_at f at x xs = rw (map-append f (take at xs) (x ∷ drop at xs), map_take f at xs, map_drop f at xs)

pub map_remove_at : {A B : Type 0} (f : A → B) (at : ℕ) (xs : List A) → map f (remove_at at xs) ≡ remove_at at (map f xs)
unfolding remove_at
map_remove_at f at xs = rw (map-append f (take at xs) (drop (at + 1) xs), map_take f at xs, map_drop f (at + 1) xs)

pub map_set : {A B : Type 0} (f : A → B) (xs : List A) (at : ℕ) (x : A) → map f (set xs at x) ≡ set (map f xs) at (f x)
map_set f [] at x = refl
map_set f (y ∷ xs) zero x = refl
map_set f (y ∷ xs) (suc at) x = ap (λ t. f y ∷ t) (map_set f xs at x)

-- one column of a put, of a cut
put_col : {B : Type 0} (f : Range → B) (blank : B) (at n : ℕ) (r : Range) (rs : List Range) (l : List B) → length rs ≡ n → at ≤ n
    → put_at at (f r) n (lay blank 0 n (map f rs) l) ≡ lay blank 0 (n + 1) (map f (insert_at at r rs)) l
put_col f blank at n r rs l e h = put-lay blank at n (f r) (map f rs) l (length-map rs f ∙ e) h ∙ ap (λ t. lay blank 0 (n + 1) t l) (sym (map_insert_at f at r rs))

cut_col : {B : Type 0} (f : Range → B) (blank : B) (at n k : ℕ) (rs : List Range) (l : List B) → length rs ≡ n → n ≤ k → at < n
    → cut_at blank at n (lay blank 0 k (map f rs) l) ≡ lay blank 0 k (map f (remove_at at rs)) l
cut_col f blank at n k rs l e g h = cut-lay blank at n k (map f rs) l (length-map rs f ∙ e) g h ∙ ap (λ t. lay blank 0 k t l) (sym (map_remove_at f at rs))

pub put-laid : (at n : ℕ) (r : Range) (rs : List Range) (c : Ranges) → length rs ≡ n → at ≤ n
    → put_range at r n (lay_ranges 0 n rs c) ≡ lay_ranges 0 (n + 1) (insert_at at r rs) c
unfolding put_range lay_ranges
put-laid at n r rs c e h =
    ranges_eq (put_col (λ q. q.node) 0 at n r rs _ e h) (put_col (λ q. q.start) 0 at n r rs _ e h) (put_col (λ q. q.end) 0 at n r rs _ e h)
    (put_col (λ q. q.id) 0 at n r rs _ e h) (put_col (λ q. q.stamp) 0 at n r rs _ e h) (put_col (λ q. q.touched) no_time at n r rs _ e h)
    (put_col (λ q. q.write) 0 at n r rs _ e h)

pub cut-laid : (at n k : ℕ) (rs : List Range) (c : Ranges) → length rs ≡ n → n ≤ k → at < n
    → cut_range at n (lay_ranges 0 k rs c) ≡ lay_ranges 0 k (remove_at at rs) c
unfolding cut_range lay_ranges
cut-laid at n k rs c e g h =
    ranges_eq (cut_col (λ q. q.node) 0 at n k rs _ e g h) (cut_col (λ q. q.start) 0 at n k rs _ e g h) (cut_col (λ q. q.end) 0 at n k rs _ e g h)
    (cut_col (λ q. q.id) 0 at n k rs _ e g h) (cut_col (λ q. q.stamp) 0 at n k rs _ e g h) (cut_col (λ q. q.touched) no_time at n k rs _ e g h)
    (cut_col (λ q. q.write) 0 at n k rs _ e g h)
