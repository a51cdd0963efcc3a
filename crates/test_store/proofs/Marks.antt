-- The flags after one record more: its node's flag is set, and every other stays. Assumes nothing.
use Rattle.std.proofs.Common.{◌≡◌, ℕ, zero, suc, ◌+◌, ◌≤◌, ◌<◌, Bool, true, false, List, set, replicate, get_or, arith, length-set, get_or-set_same, get_or-set_other, sym, ◌∙◌, refl}
use mathlib.Core.Logic.{⊎_elim}
use native.Mathlib.Decide.{ℕ_discrete}
use lib.ListN.{length-replicate}
use Rattle.std.proofs.lemmas.Bool.{false≢true}
use Rattle.model.specs.State.{at}
use Rattle.test_tree.proofs.Chain.{lt_more}
use Rattle.test_store.specs.Marks.{Flags}

clear : (n v : ℕ) → get_or (replicate n false) v false ≡ false
clear zero v = refl
clear (suc n) zero = refl
clear (suc n) (suc v) = clear n v

pub flags_none : (node : List ℕ) (a : ℕ) → Flags node (replicate 256 false) a a
flags_none node a = record {
  long = length-replicate {A = Bool} 256 false;
  set = λ k h l. absurd (omega arith);
  real = λ v q. absurd (false≢true (sym (clear 256 v) ∙ q));
}

pub flags_more : {node : List ℕ} {flags : List Bool} {a i : ℕ} → Flags node flags a i → a ≤ i → at node i < 256 → Flags node (set flags (at node i) true) a (i + 1)
flags_more {node} {flags} {a} {i} f lo l = record {
  long = length-set flags (at node i) true ∙ f.long;
  set = λ k h g. on k h g (ℕ_discrete (at node k) (at node i));
  real = λ v q. back v q (ℕ_discrete v (at node i));
}
  where
    same : get_or (set flags (at node i) true) (at node i) false ≡ true
    same = get_or-set_same flags (at node i) true false (omega (arith, f.long))

    other : (v : ℕ) → (v ≡ at node i → ⊥) → get_or (set flags (at node i) true) v false ≡ get_or flags v false
    other v ne = get_or-set_other flags (at node i) v true false ne

    on : (k : ℕ) → a ≤ k → k < i + 1 → Dec (at node k ≡ at node i) → get_or (set flags (at node i) true) (at node k) false ≡ true
    on k h g (yes e) = rw (e, same)
    on k h g (no ne) = ⊎_elim (λ (e : k ≡ i). absurd (ne (rw e))) (λ lt. other (at node k) ne ∙ f.set k h lt) (lt_more g)

    back : (v : ℕ) → get_or (set flags (at node i) true) v false ≡ true → Dec (v ≡ at node i) → (k : ℕ) × (a ≤ k) × (k < i + 1) × (at node k ≡ v)
    back v q (yes e) = (i, lo, omega arith, sym e)
    back v q (no ne) = let r = f.real v (sym (other v ne) ∙ q) in (r.0, r.1, omega (arith, r.2), r.3)
