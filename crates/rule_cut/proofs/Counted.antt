-- The loop that counts those across: the count is of those so far. What is counted from the front is what is counted from the back.
-- Assumes nothing.
use Prim.Native.Nat.{ℕ, zero, suc, ◌+◌, ◌≤◌}
use mathlib.Core.Path.{◌≡◌, refl, sym, ap, ◌∙◌}
use mathlib.Core.Bool.{Bool, true, false}
use mathlib.Core.List.{List}
use native.Mathlib.Numerals.{add-one}
use native.Mathlib.Nat.{zero-add, add-zero}
use native.Mathlib.Omega.{arith}
use mir.Val.{bool_byte}
use Rattle.model.specs.State.{at}
use Rattle.model.specs.Store.{plus}
use Rattle.rule_cut.specs.Cut.{is_across, across_before}

counted : (r : Bool) (a x : ℕ) → x ≡ bool_byte r → a + x ≡ plus r a
counted true a x e = omega arith
counted false a x e = omega arith

pub plus-most : (r : Bool) (a : ℕ) → plus r a ≤ suc a
plus-most true a = omega arith
plus-most false a = omega arith

pub record Counting (j k : ℕ) (node start end : List ℕ) (across i : ℕ) : Type 0 where
  pub low : across ≤ i
  pub count : across ≡ across_before j k node start end i

module _ {j k : ℕ} {node start end : List ℕ} where
  pub count-start : Counting j k node start end 0 0
  unfolding across_before
  count-start = record { low = omega arith; count = refl }

  pub count_turn : {across x i : ℕ} {r : Bool} → Counting j k node start end across i
      → r ≡ is_across j k (at node i) (at start i) (at end i) → x ≡ bool_byte r → Counting j k node start end (across + x) (i + 1)
  unfolding across_before
  count_turn {across} {x} {i} {r} o e t =
      let more : across + x ≡ plus r across = counted r across x t in
      record {
        low = omega (arith, plus-most r across);
        count = rw (add-one, more, e, o.count);
      }

-- a count of n from place a on, by its first
module _ (j k : ℕ) (node start end : List ℕ) (from : ℕ → ℕ → ℕ) (none : (a : ℕ) → from a 0 ≡ 0)
    (more : (a n : ℕ) → from a (suc n) ≡ plus (is_across j k (at node a) (at start a) (at end a)) (from (suc a) n)) where
  counts-on : (a n : ℕ) → from a n + across_before j k node start end a ≡ across_before j k node start end (a + n)
  unfolding across_before
  counts-on a zero = rw (none a, zero-add, add-zero)
  counts-on a (suc n) =
      let e : suc a + n ≡ a + suc n = omega arith in
      rw (more a n) (go (is_across j k (at node a) (at start a) (at end a)) _ _)
      ∙ counts-on (suc a) n
      ∙ ap (λ (p : ℕ). across_before j k node start end p) e
    where
      go : (b : Bool) (x y : ℕ) → plus b x + y ≡ x + plus b y
      go true x y = omega arith
      go false x y = refl

  pub across-all : (n : ℕ) → across_before j k node start end n ≡ from 0 n
  unfolding across_before
  across-all n = sym (rw (add-zero, zero-add) at (counts-on 0 n))
