-- The sums of a given-out list, number after number: what is summed so far is no more than the whole, which fits; and the whole fits in what a call left.
-- Assumes nothing.
use Prim.Native.Nat.{ℕ, suc, ◌+◌, ◌≤◌, ◌<◌}
use mathlib.Core.Path.{◌≡◌, refl, sym, ap, subst, ◌∙◌}
use native.Mathlib.Omega.{arith}
use mathlib.Core.List.{List, [], ◌∷◌}
use lib.ListN.{length, take}
use Rattle.std.specs.List.{sum}
use Rattle.std.proofs.lemmas.List.Sums.{sum_by-cons}
use Rattle.theory_room.specs.Room.{sum_of}
use Rattle.model_sums.specs.Sums.{listed_sum}
use Rattle.theory_sums.proofs.Answers.{sum-list}
use Rattle.model.specs.Words.{sum_to}
use Rattle.model.specs.Refusals.{OutList, OutFits}
use Rattle.model.specs.Calls.{Outcome}
use Rattle.theory_sums.specs.Bounds.{OutsMost}
use Rattle.theory_calls.proofs.Cut.{sum-rises}
use Rattle.pool_sums.specs.Amounts.{Listed, only_sums}

-- the first i of n numbers are summed
pub record Summing (f : ℕ → ℕ) (n sum i : ℕ) : Type 0 where
  pub high : i ≤ n
  pub is : sum ≡ sum_to f i

pub sum-start : (f : ℕ → ℕ) (n : ℕ) → Summing f n 0 0
unfolding sum_to
sum-start f n = record { high = omega arith; is = refl }

-- the next one fits
pub sum_room : {f : ℕ → ℕ} {n sum i most : ℕ} → Summing f n sum i → i < n → sum_to f n ≤ most → sum + f i ≤ most
unfolding sum_to
sum_room {f} {n} {sum} {i} {most} h l m = omega (arith, h.is, sum-rises f (suc i) n (omega arith))

pub sum-turn : {f : ℕ → ℕ} {n sum i : ℕ} → Summing f n sum i → i < n → Summing f n (sum + f i) (i + 1)
unfolding sum_to
sum-turn {f} {n} {sum} {i} h l =
    let e : suc i ≡ i + 1 = omega arith in
    record { high = omega arith; is = ap (λ (k : ℕ). k + f i) h.is ∙ ap (sum_to f) e }

pub sum-end : {f : ℕ → ℕ} {n sum i : ℕ} → Summing f n sum i → n ≤ i → sum ≡ sum_to f n
sum-end {f} {n} {sum} {i} h l = let e : i ≡ n = omega (arith, h.high) in h.is ∙ ap (sum_to f) e

-- ---- of a column

sum_same : (l : List ℕ) → sum_of l ≡ sum l
unfolding sum_of
sum_same [] = refl
sum_same (x ∷ l) = ap (λ (k : ℕ). x + k) (sum_same l) ∙ sym (sum_by-cons (λ k. k) x l)

pub sum-is : (n : ℕ) (l : List ℕ) → listed_sum n l ≡ sum (take n l)
sum-is n l = sum-list n l ∙ sum_same (take n l)

-- ---- the lists that a call left

-- as long as they were, they are long enough
pub outs_fit : {l m : OutList} → OutFits l → length m.node ≡ length l.node → length m.start ≡ length l.start → length m.end ≡ length l.end
    → length m.write ≡ length l.write → length m.bytes ≡ length l.bytes → length m.dead ≡ length l.dead → OutFits m
outs_fit h n s e w b d =
    record {
      node = omega (arith, h.node);
      start = omega (arith, h.start);
      end = omega (arith, h.end);
      write = omega (arith, h.write);
      bytes = omega (arith, h.bytes);
      dead = omega (arith, h.dead);
    }

-- the four columns that are summed
abbrev pub sum_columns : OutList → OutList
sum_columns l = only_sums l.start l.end l.bytes l.dead

-- what an accepted call gave out can be summed: its outcome is o, of which the code has p
pub outs-listed : {A : Type 0} {n : ℕ} {o p : Outcome OutList A} → p ≡ o → OutsMost n o.lists → OutFits p.lists → Listed n (sum_columns p.lists)
outs-listed {A} {n} is most h =
    let m = subst (λ (x : Outcome OutList A). OutsMost n x.lists) (sym is) most in
    record {
      start = omega (arith, m.spans, h.start);
      end = omega (arith, m.spans, h.end);
      bytes = omega (arith, m.spans, h.bytes);
      dead = omega (arith, m.spans, h.dead);
      blocks_fit = omega (arith, m.blocks);
      bytes_fit = omega (arith, m.bytes);
      dead_fit = omega (arith, m.dead);
    }
