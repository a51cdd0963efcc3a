-- Scanning the records from the first on, the gaps found so far and those still to come are the gaps of the span; and a range's place is where the
-- first record stands that it goes before.
use mathlib.Core.Path.{◌≡◌, refl, sym, ap, subst, ◌∙◌}
use mathlib.Core.Bool.{Bool, true, false, ◌&&◌, ◌||◌}
use mathlib.Core.List.{List, [], ◌∷◌, ◌++◌, append_assoc, append-nil}
use Prim.Native.Nat.{ℕ, zero, suc, ◌+◌, ◌-◌, ◌≤◌, ◌<◌, min, max}
use mathlib.Core.Logic.{◌≢◌, ⊎_elim}
use native.Mathlib.Nat.{eq-or-lt_of_le}
use native.Mathlib.Numerals.{add-one}
use native.Mathlib.Omega.{arith}
use lib.ListN.{length, get_or, set, take, drop, length-append, drop_of_length-le, get_or-append}
use lib.Seq.{get_or_at, get_or-set_same, get_or-set_other, drop-cons, take-suc}
use Rattle.theory_lay.proofs.Rows.{ranges_length, ranges-at}
use lib.Dec.{ltb, leb, eqb}
use borrow.Author.Tests.{lt-ltb, le-ltb, eq-eqb, ne_eqb}
use Rattle.model.specs.State.{Ranges, Range, at, range_at}
use Rattle.model.specs.Store.{ranges, insert, ahead}
use Rattle.model.specs.Bring.{Gap, gaps, gap_end, behind, piece}
use Rattle.pool_range.specs.Cols.{insert_at}
use Rattle.rule_fill.specs.declared.Gap.{Gap as GapHere}
use Rattle.rule_fill.specs.declared.Gaps.{Gaps}
use Rattle.rule_fill.specs.Gaps.{gap_of, gap_at, gaps_in, gaps_of, PlaceFor}

-- ---- one gap more

gaps-same : (l : List GapHere) (j k : ℕ) (x : GapHere) → k ≤ j → gaps_in (set l j x) k ≡ gaps_in l k
unfolding gaps_in
gaps-same l j zero x h = refl
gaps-same l j (suc k) x h = rw (gaps-same l j k x (omega arith), get_or-set_other l j k x _ (λ e. omega arith))

gaps_suc : (l : List GapHere) (k : ℕ) (x : GapHere) → k < length l → gaps_in (set l k x) (suc k) ≡ gaps_in l k ++ (gap_of x ∷ [])
unfolding gaps_in
gaps_suc l k x h = rw (gaps-same l k k x (omega arith), get_or-set_same l k x _ h)

-- a gap is put behind k others where it has a block
pub added : (l : List GapHere) (k p b : ℕ) → k < length l → p < b
    → gaps_in (set l k (record { from = p; upto = b })) (k + 1) ≡ gaps_in l k ++ piece (ltb p b) p b []
added l k p b h g = rw (add-one, lt-ltb p b g) (gaps_suc l k (record { from = p; upto = b }) h)

pub not_added : (l : List GapHere) (k p b : ℕ) → b ≤ p → gaps_in l k ≡ gaps_in l k ++ piece (ltb p b) p b []
not_added l k p b h = rw (le-ltb p b h) (sym (append-nil (gaps_in l k)))

pub counts : (k p b : ℕ) → p < b → k + 1 ≡ k + length (piece (ltb p b) p b [])
counts k p b h = rw (lt-ltb p b h)

pub counts_not : (k p b : ℕ) → b ≤ p → k ≡ k + length (piece (ltb p b) p b [])
counts_not k p b h = rw (le-ltb p b h) (omega arith)

one_piece : (t : Bool) (p b : ℕ) → length (piece t p b []) ≤ 1
one_piece true p b = omega arith
one_piece false p b = omega arith

-- ---- gaps by place

pub gaps_length : (l : List GapHere) (k : ℕ) → length (gaps_in l k) ≡ k
unfolding gaps_in
gaps_length l zero = refl
gaps_length l (suc k) = length-append (gaps_in l k) _ ∙ rw (gaps_length l k, add-one)

pub gaps-at : (l : List GapHere) (k i : ℕ) (d : Gap) → i < k → get_or (gaps_in l k) i d ≡ gap_at l i
unfolding gaps_in
gaps-at l zero i d h = absurd (omega arith)
gaps-at l (suc k) i d h =
    let le : i ≤ k = omega arith in
    ⊎_elim
    (λ (e : i ≡ k). get_or_at (gaps_in l k) (gap_at l k) [] d i (gaps_length l k ∙ sym e) ∙ ap (gap_at l) (sym e))
    (λ (h : i < k). get_or-append (gaps_in l k) _ d i (omega (arith, gaps_length l k)) ∙ gaps-at l k i d h)
    (eq-or-lt_of_le le)

-- the gaps from i on, the one at i first
pub gaps-from : (l : List GapHere) (k i : ℕ) → i < k → drop i (gaps_in l k) ≡ gap_at l i ∷ drop (i + 1) (gaps_in l k)
gaps-from l k i h = drop-cons (gaps_in l k) i (gap_at l i) (omega (arith, gaps_length l k)) ∙ rw (gaps-at l k i (gap_at l i) h, add-one)

-- ---- the scan

-- what is to come at record i
step_suc : (c : Ranges) (nd z p i m : ℕ)
    → gaps nd (ranges c i (suc m)) p z
    ≡ piece (ltb p (gap_end (eqb (at c.node i) nd) p (at c.start i) z)) p (gap_end (eqb (at c.node i) nd) p (at c.start i) z)
    (gaps nd (ranges c (i + 1) m) (behind (eqb (at c.node i) nd) p (at c.end i)) z)
unfolding gaps ranges
step_suc c nd z p i m = rw add-one

-- on the node, and on another one
step-on : (c : Ranges) (nd z p i n b q : ℕ) → i < n → at c.node i ≡ nd → b ≡ min (at c.start i) z → q ≡ max p (at c.end i)
    → gaps nd (ranges c i (n - i)) p z ≡ piece (ltb p b) p b (gaps nd (ranges c (i + 1) (n - (i + 1))) q z)
step-on c nd z p i n b q h e eb eq =
    let m : n - i ≡ suc (n - (i + 1)) = omega arith in
    rw (m, eb, eq) (step_suc c nd z p i (n - (i + 1)) ∙ rw (eq-eqb (at c.node i) nd e))

step-off : (c : Ranges) (nd z p i n : ℕ) → i < n → at c.node i ≢ nd → gaps nd (ranges c i (n - i)) p z ≡ gaps nd (ranges c (i + 1) (n - (i + 1))) p z
step-off c nd z p i n h e =
    let m : n - i ≡ suc (n - (i + 1)) = omega arith in
    rw m (step_suc c nd z p i (n - (i + 1)) ∙ rw (ne_eqb (at c.node i) nd e, le-ltb p p (omega arith)))

-- behind the last record
last_none : (c : Ranges) (nd z p i : ℕ) → gaps nd (ranges c i 0) p z ≡ piece (ltb p z) p z []
unfolding gaps ranges
last_none c nd z p i = refl

-- a gap found, and those still to come
piece-front : (t : Bool) (gs rest : List Gap) (p b : ℕ) → (gs ++ piece t p b []) ++ rest ≡ gs ++ piece t p b rest
piece-front true gs rest p b = append_assoc gs _ rest
piece-front false gs rest p b = append_assoc gs [] rest

-- i records are passed, g has the gaps found, and the search goes on at p
pub record Scan (c : Ranges) (n nd a z : ℕ) (g : Gaps) (p i : ℕ) : Type 0 where
  pub few : g.n ≤ i
  pub todo : gaps_of g ++ gaps nd (ranges c i (n - i)) p z ≡ gaps nd (ranges c 0 n) a z

module _ {c : Ranges} {n nd a z : ℕ} where
  pub scan_start : (g : Gaps) → gaps_of g ≡ [] → g.n ≡ 0 → Scan c n nd a z g a 0
  scan_start g e h = let q : n - 0 ≡ n = omega arith in record { few = omega arith; todo = rw (e, q) }

  module _ {g : Gaps} {p i : ℕ} (s : Scan c n nd a z g p i) where
    pub scan_pass : i < n → at c.node i ≢ nd → Scan c n nd a z g p (i + 1)
    scan_pass h e =
        record { few = omega (arith, s.few); todo = ap (λ t. gaps_of g ++ t) (sym (step-off c nd z p i n h e)) ∙ s.todo }

    -- a gap up to b is added
    pub scan_turn : (b q : ℕ) (gʹ : Gaps) → i < n → at c.node i ≡ nd → b ≡ min (at c.start i) z → q ≡ max p (at c.end i) → gaps_of gʹ ≡ gaps_of g ++ piece (ltb p b) p b []
        → gʹ.n ≡ g.n + length (piece (ltb p b) p b []) → Scan c n nd a z gʹ q (i + 1)
    scan_turn b q gʹ h e eb eq eg en =
        record {
          few = omega (arith, s.few, one_piece (ltb p b) p b);
          todo =
              rw eg
              (piece-front (ltb p b) (gaps_of g) _ p b
              ∙ ap (λ t. gaps_of g ++ t) (sym (step-on c nd z p i n b q h e eb eq))
              ∙ s.todo);
        }

    pub scan_end : (gʹ : Gaps) → n ≤ i → gaps_of gʹ ≡ gaps_of g ++ piece (ltb p z) p z [] → gaps_of gʹ ≡ gaps nd (ranges c 0 n) a z
    scan_end gʹ h eg =
        let m : n - i ≡ 0 = omega arith in
        eg ∙ ap (λ t. gaps_of g ++ t) (sym (rw m (last_none c nd z p i))) ∙ s.todo

    pub scan_few : (gʹ : Gaps) (x y : ℕ) → i ≤ n → gʹ.n ≡ g.n + length (piece (ltb x y) x y []) → gʹ.n ≤ n + 1
    scan_few gʹ x y h en = omega (arith, s.few, one_piece (ltb x y) x y)

-- ---- a range's place

-- the first i records stand before the range
pub record Passing (c : Ranges) (n nd s i : ℕ) : Type 0 where
  pub passed :
      (g : Range) → g.node ≡ nd → g.start ≡ s → insert g (ranges c 0 n) ≡ take i (ranges c 0 n) ++ insert g (drop i (ranges c 0 n))

pub passing_start : (c : Ranges) (n nd s : ℕ) → Passing c n nd s 0
passing_start c n nd s = record { passed = λ g p q. refl }

-- the records from i on, the one at i first
from_place : (c : Ranges) (n i : ℕ) → i < n → drop i (ranges c 0 n) ≡ range_at c i ∷ drop (i + 1) (ranges c 0 n)
from_place c n i h =
    let l : i < length (ranges c 0 n) = omega (arith, ranges_length c 0 n) in
    let z : 0 + i ≡ i = omega arith in
    drop-cons (ranges c 0 n) i (range_at c i) l ∙ rw (ranges-at c 0 n i (range_at c i) h, z, add-one)

insert-ahead : (g r : Range) (rs : List Range) → ahead g r ≡ true → insert g (r ∷ rs) ≡ g ∷ r ∷ rs
unfolding insert
insert-ahead g r rs e = ap (λ b. elim b [ true ↦ g ∷ r ∷ rs | false ↦ r ∷ insert g rs ]) e

insert-past : (g r : Range) (rs : List Range) → ahead g r ≡ false → insert g (r ∷ rs) ≡ r ∷ insert g rs
unfolding insert
insert-past g r rs e = ap (λ b. elim b [ true ↦ g ∷ r ∷ rs | false ↦ r ∷ insert g rs ]) e

insert-none : (g : Range) → insert g [] ≡ g ∷ []
unfolding insert
insert-none g = refl

-- `goes_before` of a record, as the model's test of a range
goes : (c : Ranges) (i nd s : ℕ) (b : Bool) (g : Range) → g.node ≡ nd → g.start ≡ s
    → b ≡ (ltb nd (at c.node i) || (eqb nd (at c.node i) && leb s (at c.start i))) → ahead g (range_at c i) ≡ b
goes c i nd s b g p q e = rw (p, q) (sym e)

place_at : (c : Ranges) (i n : ℕ) → i < n → (g : Range) → insert g (ranges c 0 n) ≡ take i (ranges c 0 n) ++ insert g (drop i (ranges c 0 n))
    → ahead g (range_at c i) ≡ true → insert g (ranges c 0 n) ≡ insert_at i g (ranges c 0 n)
unfolding insert_at
place_at c i n h g e a =
    e
    ∙ ap (λ t. take i (ranges c 0 n) ++ t)
    (ap (insert g) (from_place c n i h) ∙ insert-ahead g (range_at c i) (drop (i + 1) (ranges c 0 n)) a ∙ ap (λ t. g ∷ t) (sym (from_place c n i h)))

place-last : (c : Ranges) (i n : ℕ) → n ≤ i → (g : Range) → insert g (ranges c 0 n) ≡ take i (ranges c 0 n) ++ insert g (drop i (ranges c 0 n))
    → insert g (ranges c 0 n) ≡ insert_at i g (ranges c 0 n)
unfolding insert_at
place-last c i n h g e =
    let d : drop i (ranges c 0 n) ≡ [] = drop_of_length-le (ranges c 0 n) {i = i} (omega (arith, ranges_length c 0 n)) in
    e ∙ ap (λ t. take i (ranges c 0 n) ++ t) (ap (insert g) d ∙ insert-none g ∙ ap (λ t. g ∷ t) (sym d))

pass_at : (c : Ranges) (i n : ℕ) → i < n → (g : Range) → insert g (ranges c 0 n) ≡ take i (ranges c 0 n) ++ insert g (drop i (ranges c 0 n))
    → ahead g (range_at c i) ≡ false → insert g (ranges c 0 n) ≡ take (i + 1) (ranges c 0 n) ++ insert g (drop (i + 1) (ranges c 0 n))
pass_at c i n h g e a =
    let l : i < length (ranges c 0 n) = omega (arith, ranges_length c 0 n) in
    let z : 0 + i ≡ i = omega arith in
    let t : take (i + 1) (ranges c 0 n) ≡ take i (ranges c 0 n) ++ (range_at c i ∷ []) =
    ap (λ k. take k (ranges c 0 n)) (add-one i) ∙ take-suc (ranges c 0 n) i (range_at c i) l ∙ rw (ranges-at c 0 n i (range_at c i) h, z) in
    e
    ∙ ap (λ k. take i (ranges c 0 n) ++ k) (ap (insert g) (from_place c n i h) ∙ insert-past g (range_at c i) (drop (i + 1) (ranges c 0 n)) a)
    ∙ sym (ap (λ k. k ++ insert g (drop (i + 1) (ranges c 0 n))) t ∙ append_assoc (take i (ranges c 0 n)) (range_at c i ∷ []) _)

module _ {c : Ranges} {n nd s i : ℕ} (w : Passing c n nd s i) where
  pub passing_here : i < n → true ≡ (ltb nd (at c.node i) || (eqb nd (at c.node i) && leb s (at c.start i))) → PlaceFor nd s (ranges c 0 n) i
  passing_here h e =
      record { within = omega (arith, ranges_length c 0 n); there = λ g p q. place_at c i n h g (w.passed g p q) (goes c i nd s true g p q e) }

  pub passing_turn : i < n → false ≡ (ltb nd (at c.node i) || (eqb nd (at c.node i) && leb s (at c.start i))) → Passing c n nd s (i + 1)
  passing_turn h e = record { passed = λ g p q. pass_at c i n h g (w.passed g p q) (goes c i nd s false g p q e) }

  -- all of them do
  pub passing_end : i ≡ n → PlaceFor nd s (ranges c 0 n) n
  passing_end e =
      let v : Passing c n nd s n = subst (Passing c n nd s) e w in
      record { within = omega (arith, ranges_length c 0 n); there = λ g p q. place-last c n n (omega arith) g (v.passed g p q) }
