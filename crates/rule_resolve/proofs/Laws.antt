-- Laws over variables that the proofs cite: a scan for a child, which passes the children of others, and a halving
-- have left to do what the definition has.
use Prim.Native.Nat.{ℕ, zero, suc, ◌+◌, ◌-◌, ◌/◌, ◌≤◌, ◌<◌, min}
use mathlib.Core.Bool.{Bool, true, false}
use mathlib.Core.List.{List}
use mathlib.Core.Logic.{⊎_elim}
use Rattle.std.specs.Prelude.{Option, None, Some, MatchOption}
use mathlib.Core.Path.{◌≡◌, refl, sym, ap, ◌∙◌}
use native.Mathlib.Numerals.{add-one}
use native.Mathlib.Omega.{arith}
use native.Mathlib.Nat.{eq-or-lt_of_le}
use lib.ListN.{length}
use borrow.Author.Tests.{lt-ltb, le-ltb}
use Rattle.model.specs.State.{Tree, at}
use Rattle.model.specs.Tree.{is_child, child_from, child, halve, matching, agrees, matched}

-- ---- the scan for a child

module _ (t : Tree) (p h : ℕ) where
  scan-none : (n k : ℕ) → ((j : ℕ) → k ≤ j → j < k + n → is_child t p h j ≡ false) → None ≡ child_from t p h k n
  unfolding child_from
  scan-none zero k none = refl
  scan-none (suc n) k none =
      scan-none n (suc k) (λ j a b. none j (omega arith) (omega arith))
      ∙ sym (ap (λ (x : Bool). elim x as (λ z. Option ℕ) [ true ↦ Some k | false ↦ child_from t p h (suc k) n ]) (none k (omega arith) (omega arith)))

  scan-some : (n k i : ℕ) → k ≤ i → i < k + n → is_child t p h i ≡ true → ((j : ℕ) → k ≤ j → j < i → is_child t p h j ≡ false)
      → Some i ≡ child_from t p h k n
  unfolding child_from
  scan-some zero k i a b one none = absurd (omega arith)
  scan-some (suc n) k i a b one none =
      ⊎_elim
      (λ (e : k ≡ i).
      let here : is_child t p h k ≡ true = rw e one in
      sym (ap (λ (j : ℕ). Some j) e) ∙ sym (ap (λ (x : Bool). elim x as (λ z. Option ℕ) [ true ↦ Some k | false ↦ child_from t p h (suc k) n ]) here))
      (λ (l : k < i).
      scan-some n (suc k) i (omega arith) (omega arith) one (λ j c d. none j (omega arith) d)
      ∙ sym (ap (λ (x : Bool). elim x as (λ z. Option ℕ) [ true ↦ Some k | false ↦ child_from t p h (suc k) n ]) (none k (omega arith) l)))
      (eq-or-lt_of_le a)

  -- the first node that is a child, by a test that is right of nodes, is the one
  pub first_child : (f : ℕ → Bool) → ((k : ℕ) → k < t.nodes → f k ≡ is_child t p h k) → (r : Option ℕ)
      → MatchOption r ((k : ℕ) → 1 ≤ k → k < t.nodes → f k ≡ false)
      (λ i. (1 ≤ i) × (i < t.nodes) × (f i ≡ true) × ((k : ℕ) → 1 ≤ k → k < i → f k ≡ false))
      → r ≡ child t p h
  unfolding child
  first_child f same None none = scan-none (t.nodes - 1) 1 (λ j a b. sym (same j (omega arith)) ∙ none j a (omega arith))
  first_child f same (Some i) one =
      scan-some (t.nodes - 1) 1 i one.0 (omega (arith, one.0, one.1)) (sym (same i one.1) ∙ one.2)
      (λ j a b. sym (same j (omega (arith, one.1))) ∙ one.3 j a b)

-- ---- the halving

module _ (agree : ℕ → Bool) where
  -- what is left between lo and hi decides, and `turns` are enough for it
  pub record Halving (c lo hi : ℕ) : Type 0 where
    pub turns : ℕ
    pub order : lo ≤ hi
    pub below : hi < c
    pub enough : hi ≤ lo + turns
    pub same : halve agree turns lo hi ≡ matching agree c

  pub match-whole : {c : ℕ} → agree (c - 1) ≡ true → c ≡ matching agree c
  unfolding matching
  match-whole {c} e = sym (ap (λ (x : Bool). elim x as (λ z. ℕ) [ true ↦ c | false ↦ halve agree c 0 (c - 1) ]) e)

  pub halve-start : {c : ℕ} → 1 ≤ c → agree (c - 1) ≡ false → Halving c 0 (c - 1)
  unfolding matching
  halve-start {c} f e =
      record {
        turns = c;
        order = omega arith;
        below = omega arith;
        enough = omega arith;
        same = sym (ap (λ (x : Bool). elim x as (λ z. ℕ) [ true ↦ c | false ↦ halve agree c 0 (c - 1) ]) e);
      }

  halve-turn : (n lo hi : ℕ) (b : Bool) → 1 < hi - lo → agree ((lo + hi) / 2) ≡ b
      → halve agree (suc n) lo hi ≡ elim b as (λ z. ℕ) [ true ↦ halve agree n ((lo + hi) / 2) hi | false ↦ halve agree n lo ((lo + hi) / 2) ]
  unfolding halve
  halve-turn n lo hi b l e =
      ap (λ (x : Bool). elim x as (λ z. ℕ) [ true ↦ turned (agree ((lo + hi) / 2)) | false ↦ suc lo ]) (lt-ltb 1 (hi - lo) l) ∙ ap turned e
    where
      turned : Bool → ℕ
      turned true = halve agree n ((lo + hi) / 2) hi
      turned false = halve agree n lo ((lo + hi) / 2)

  pub halve_up : {c lo hi : ℕ} → Halving c lo hi → 1 < hi - lo → agree ((lo + hi) / 2) ≡ true → Halving c ((lo + hi) / 2) hi
  halve_up {c} {lo} {hi} h l e = go h.turns h.enough h.same
    where
      go : (n : ℕ) → hi ≤ lo + n → halve agree n lo hi ≡ matching agree c → Halving c ((lo + hi) / 2) hi
      go zero f s = absurd (omega arith)
      go (suc n) f s = record { turns = n; order = omega arith; below = h.below; enough = omega arith; same = sym (halve-turn n lo hi true l e) ∙ s }

  pub halve-down : {c lo hi : ℕ} → Halving c lo hi → 1 < hi - lo → agree ((lo + hi) / 2) ≡ false → Halving c lo ((lo + hi) / 2)
  halve-down {c} {lo} {hi} h l e = go h.turns h.enough h.same
    where
      go : (n : ℕ) → hi ≤ lo + n → halve agree n lo hi ≡ matching agree c → Halving c lo ((lo + hi) / 2)
      go zero f s = absurd (omega arith)
      go (suc n) f s = record { turns = n; order = omega arith; below = omega (arith, h.below); enough = omega arith; same = sym (halve-turn n lo hi false l e) ∙ s }

  pub halve-end : {c lo hi : ℕ} → Halving c lo hi → hi - lo ≤ 1 → lo + 1 ≡ matching agree c
  unfolding halve
  halve-end {c} {lo} {hi} h l = add-one lo ∙ sym (stops h.turns) ∙ h.same
    where
      stops : (n : ℕ) → halve agree n lo hi ≡ suc lo
      stops zero = refl
      stops (suc n) = rw (le-ltb 1 (hi - lo) l, halve)

pub matched-is : (t : Tree) (hs : List ℕ) (pos k c r : ℕ) → c ≡ min (length hs - pos) (at t.len k) → r ≡ matching (agrees t hs pos k) c → r ≡ matched t hs pos k
unfolding matched
matched-is t hs pos k c r e f = f ∙ ap (matching (agrees t hs pos k)) e
