-- A copy is `paste` one element further with each turn. Assumes nothing.
use mathlib.Core.Path.{◌≡◌, refl, subst, ◌∙◌}
use mathlib.Core.List.{List}
use Prim.Native.Nat.{ℕ, ◌+◌, ◌≤◌, ◌<◌}
use native.Mathlib.Numerals.{add-one}
use native.Mathlib.Omega.{arith}
use lib.ListN.{length, get_or, set, length-set}
use lib.Seq.{paste, paste-zero, paste-suc}

-- n elements of s copied into l from place `at` on; i of them are copied
pub record Copying {A : Type 0} (l : List A) (at : ℕ) (s : List A) (n : ℕ) (c : List A) (i : ℕ) : Type 0 where
  pub high : i ≤ n
  pub room : at + n ≤ length l
  pub is : c ≡ paste l at s i
  pub long : length c ≡ length l

module _ {A : Type 0} where
  pub copy_start : {l : List A} {at : ℕ} {s : List A} {n : ℕ} → at + n ≤ length l → Copying l at s n l 0
  copy_start {l} {at} {s} {n} h = record { high = omega arith; room = h; is = paste-zero l at s; long = refl }

  pub copy_turn : {l : List A} {at : ℕ} {s : List A} {n : ℕ} {c : List A} {i : ℕ} (d : A) → Copying l at s n c i → i < n → n ≤ length s
      → Copying l at s n (set c (at + i) (get_or s i d)) (i + 1)
  copy_turn {l} {at} {s} {n} {c} {i} d o h short =
      record {
        high = omega arith;
        room = o.room;
        is = rw (o.is, add-one) (paste-suc l at s i d (omega (arith, o.room)) (omega arith));
        long = length-set c (at + i) (get_or s i d) ∙ o.long;
      }

  pub copy_end : {l : List A} {at : ℕ} {s : List A} {n : ℕ} {c : List A} {i : ℕ} → Copying l at s n c i → n ≤ i → c ≡ paste l at s n
  copy_end {l} {at} {s} {n} {c} {i} o h =
      let e : i ≡ n = omega arith in
      subst (λ (k : ℕ). c ≡ paste l at s k) e o.is
