-- A trim is a row of evictions, so it keeps ranges and marks sound, however many blocks an excess asks for. It stalls just where
-- too much is left, and then all that is left is pinned. Assumes nothing.
use Prim.Native.Nat.{ℕ, zero, suc, ◌+◌, ◌-◌, ◌≤◌, ◌<◌}
use mathlib.Core.Bool.{Bool, true, false, not}
use mathlib.Core.Path.{◌≡◌, refl, sym, ap, subst, ◌∙◌}
use mathlib.Core.List.{List, [], ◌∷◌}
use Rattle.std.specs.Prelude.{Option, None, Some}
use Rattle.std.proofs.lemmas.Option.{none-some}
use native.Mathlib.Omega.{arith}
use native.Mathlib.Nat.{le_refl, sub-zero}
use lib.ListN.{length}
use lib.Dec.{ltb}
use borrow.Author.Tests.{ltb-true, ltb-false, lt-ltb}
use Rattle.model.specs.State.{Tree, Range, Pin}
use Rattle.model.specs.Store.{total, unmark}
use Rattle.model.specs.Trim.{out_blocks, told, is_pinned, nth, evict, asked, chosen, amount, trim_by, trim}
use Rattle.model.proofs.Conserved.{trim-total}
use Rattle.theory_bring.proofs.Evict.{Evicted, stop, turn, evict-whole, Right, first-right, first_some}

less : (e k s b : ℕ) → s ≡ k → e - k - b ≡ e - (s + b)
less e k s b h = omega arith

module _ (asks : ℕ → ℕ) (t : Tree) (table : List ℕ) (ps : List Pin) where
  pub trim_by_evicted : (n e : ℕ) (c : Option ℕ) (rs : List Range) (ms : List ℕ) → Evicted n rs ms (trim_by asks t table ps n e c rs ms)
  unfolding trim_by
  trim_by_evicted zero e c rs ms = stop
  trim_by_evicted (suc n) e None rs ms = stop
  trim_by_evicted (suc n) e (Some i) rs ms =
      let r = nth rs i in
      let k = amount asks e r in
      let rest = evict rs i k in
      turn {rs = rs} i k (told t table ms r (r.end - k) r.end)
      (trim_by_evicted n (e - k) (chosen ps (e - k) rest) rest (unmark r.node rest ms))

  -- it stalls just where less goes than the excess
  pub trim_by-stalled : (n e : ℕ) (c : Option ℕ) (rs : List Range) (ms : List ℕ)
      → (trim_by asks t table ps n e c rs ms).stalled ≡ ltb 0 (e - out_blocks (trim_by asks t table ps n e c rs ms).outs)
  unfolding trim_by out_blocks
  trim_by-stalled zero e c rs ms = rw sub-zero
  trim_by-stalled (suc n) e None rs ms = rw sub-zero
  trim_by-stalled (suc n) e (Some i) rs ms =
      let r = nth rs i in
      let k = amount asks e r in
      let rest = evict rs i k in
      trim_by-stalled n (e - k) (chosen ps (e - k) rest) rest (unmark r.node rest ms) ∙ ap (ltb 0) (less e k (r.end - (r.end - k)) _ (omega arith))

  trim_by-short : (n e : ℕ) (c : Option ℕ) (rs : List Range) (ms : List ℕ) → (trim_by asks t table ps n e c rs ms).stalled ≡ true
      → out_blocks (trim_by asks t table ps n e c rs ms).outs < e
  trim_by-short n e c rs ms h = let s = sym (trim_by-stalled n e c rs ms) ∙ h in omega (arith, ltb-true)

-- ---- where it stalls

-- no range that is left may go
abbrev pub Stuck : List Pin → List Range → Type 0
Stuck ps rs = Right (λ r. not (is_pinned ps r)) rs None

chosen-some : (ps : List Pin) (e : ℕ) (rs : List Range) (i : ℕ) → chosen ps e rs ≡ Some i → i < length rs
unfolding chosen
chosen-some ps zero rs i q = absurd (none-some i q)
chosen-some ps (suc e) rs i q = (first_some (λ r. not (is_pinned ps r)) rs i q).0

chosen_none : (ps : List Pin) (e : ℕ) (rs : List Range) → 0 < e → chosen ps e rs ≡ None → Stuck ps rs
unfolding chosen
chosen_none ps zero rs l q = absurd (omega arith)
chosen_none ps (suc e) rs l q = subst (Right (λ r. not (is_pinned ps r)) rs) q (first-right (λ r. not (is_pinned ps r)) rs)

module _ (asks : ℕ → ℕ) (enough : (e : ℕ) → e ≤ asks e) (t : Tree) (table : List ℕ) (ps : List Pin) where
  -- each turn but the last takes a range away, so the turns are enough
  pub trim_by_stuck : (n e : ℕ) (rs : List Range) (ms : List ℕ) → length rs ≤ n → (trim_by asks t table ps n e (chosen ps e rs) rs ms).stalled ≡ true
      → Stuck ps (trim_by asks t table ps n e (chosen ps e rs) rs ms).ranges
  unfolding trim_by
  trim_by_stuck zero e [] ms l s = λ j m. absurd (omega arith)
  trim_by_stuck zero e (r ∷ rs) ms l s = absurd (omega arith)
  trim_by_stuck (suc n) e rs ms l s = go (chosen ps e rs) refl (trim_by_stuck n) s
    where
      go : (c : Option ℕ) → chosen ps e rs ≡ c
          → ((d : ℕ) (qs : List Range) (vs : List ℕ) → length qs ≤ n → (trim_by asks t table ps n d (chosen ps d qs) qs vs).stalled ≡ true
          → Stuck ps (trim_by asks t table ps n d (chosen ps d qs) qs vs).ranges)
          → (trim_by asks t table ps (suc n) e c rs ms).stalled ≡ true → Stuck ps (trim_by asks t table ps (suc n) e c rs ms).ranges
      go None q ih h = chosen_none ps e rs (ltb-true 0 e h) q
      go (Some i) q ih h =
          let r = nth rs i in
          let k = amount asks e r in
          let rest = evict rs i k in
          let vs = unmark r.node rest ms in
          let few = trim_by-short asks t table ps n (e - k) (chosen ps (e - k) rest) rest vs h in
          ih (e - k) rest vs (omega (arith, evict-whole rs i k (chosen-some ps e rs i q) (omega (arith, enough e)))) h

-- two tests of which each says the other
same_test : (a b c d : ℕ) → (a < b → c < d) → (c < d → a < b) → ltb a b ≡ ltb c d
same_test a b c d f g = go (ltb a b) (ltb c d) refl refl
  where
    go : (x y : Bool) → ltb a b ≡ x → ltb c d ≡ y → x ≡ y
    go true y p q = sym (lt-ltb c d (f (ltb-true a b p))) ∙ q
    go false true p q = sym p ∙ lt-ltb a b (g (ltb-true c d q))
    go false false p q = refl

module _ (t : Tree) (table : List ℕ) (ps : List Pin) (capacity : ℕ) (rs : List Range) (ms : List ℕ) where
  pub trim_evicted : Evicted (length rs) rs ms (trim t table ps capacity rs ms)
  unfolding trim
  trim_evicted = trim_by_evicted asked t table ps (length rs) (total rs - capacity) _ rs ms

  pub trim-stalled : (trim t table ps capacity rs ms).stalled ≡ ltb capacity (total (trim t table ps capacity rs ms).ranges)
  unfolding trim
  trim-stalled =
      let e = total rs - capacity in
      let w = trim_by asked t table ps (length rs) e (chosen ps e rs) rs ms in
      let s : total w.ranges + out_blocks w.outs ≡ total rs = trim-total t table ps capacity rs ms in
      trim_by-stalled asked t table ps (length rs) e (chosen ps e rs) rs ms
      ∙ same_test 0 (e - out_blocks w.outs) capacity (total w.ranges) (λ h. omega arith) (λ h. omega arith)

  -- where it does not stall, no more is left than the capacity
  pub trim-fits : (trim t table ps capacity rs ms).stalled ≡ false → total (trim t table ps capacity rs ms).ranges ≤ capacity
  trim-fits h = ltb-false capacity _ (sym trim-stalled ∙ h)

  -- where it stalls, all that is left is pinned
  pub trim_stuck : (trim t table ps capacity rs ms).stalled ≡ true → Stuck ps (trim t table ps capacity rs ms).ranges
  unfolding trim
  trim_stuck = trim_by_stuck asked le_refl t table ps (length rs) (total rs - capacity) rs ms (le_refl (length rs))
