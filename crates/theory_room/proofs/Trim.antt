-- Over a larger capacity a trim keeps at least what it keeps over a smaller one: at each turn both choose one range or the smaller excess is met, whatever
-- an excess asks for, so long as that is at least the excess and grows with it. Assumes nothing.
use Prim.Native.Nat.{ℕ, zero, suc, ◌-◌, ◌≤◌, ◌<◌}
use mathlib.Core.Bool.{Bool, true, false}
use mathlib.Core.List.{List, [], ◌∷◌}
use Rattle.std.specs.Prelude.{Option, None, Some, unwrap_or}
use Rattle.std.proofs.lemmas.Option.{none-some}
use mathlib.Core.Path.{◌≡◌, refl, sym, ◌∙◌, ap}
use mathlib.Core.Logic.{◌⊎◌, inl, inr, ⊎_elim}
use native.Mathlib.Omega.{arith}
use lib.ListN.{length}
use lib.Dec.{leb}
use borrow.Author.Tests.{leb-true, leb-false}
use Rattle.model.specs.State.{Tree, Range, Pin}
use Rattle.model.specs.Store.{length_of, total, unmark}
use Rattle.model.specs.Trim.{nth, evict, shortened, asked, chosen, amount, trim_by, trim}
use Rattle.model.specs.Blocks.{Holds}
use Rattle.theory_refuse.proofs.Says.{le_or_lt}
use Rattle.theory_room.specs.Room.{Lawful}

-- what rs holds qs holds
abbrev pub Sub : List Range → List Range → Type 0
Sub rs qs = (n o : ℕ) → Holds rs n o → Holds qs n o

-- ---- one eviction

shortened_sub : (b : Bool) (r : Range) (k : ℕ) (rs : List Range) → Sub (shortened b r k rs) (r ∷ rs)
unfolding Holds
shortened_sub true r k rs n o h = inr h
shortened_sub false r k rs n o (inl p) = inl (record { node = p.node; low = p.low; high = omega (arith, p.high) })
shortened_sub false r k rs n o (inr h) = inr h

evict_sub : (rs : List Range) (i k : ℕ) → Sub (evict rs i k) rs
unfolding Holds evict
evict_sub [] i k n o h = h
evict_sub (r ∷ rs) zero k n o h = shortened_sub (leb (length_of r) k) r k rs n o h
evict_sub (r ∷ rs) (suc i) k n o (inl p) = inl p
evict_sub (r ∷ rs) (suc i) k n o (inr h) = inr (evict_sub rs i k n o h)

shortened-more : (b c : Bool) (r : Range) (j k : ℕ) (rs : List Range) → leb (length_of r) k ≡ b → leb (length_of r) j ≡ c → j ≤ k
    → Sub (shortened b r k rs) (shortened c r j rs)
unfolding Holds
shortened-more true true r j k rs p q l n o h = h
shortened-more true false r j k rs p q l n o h = inr h
shortened-more false true r j k rs p q l n o h = absurd (omega (arith, leb-false, leb-true))
shortened-more false false r j k rs p q l n o (inl h) = inl (record { node = h.node; low = h.low; high = omega (arith, h.high) })
shortened-more false false r j k rs p q l n o (inr h) = inr h

evict-more : (rs : List Range) (i j k : ℕ) → j ≤ k → Sub (evict rs i k) (evict rs i j)
unfolding Holds evict
evict-more [] i j k l n o h = h
evict-more (r ∷ rs) zero j k l n o h = shortened-more (leb (length_of r) k) (leb (length_of r) j) r j k rs refl refl l n o h
evict-more (r ∷ rs) (suc i) j k l n o (inl p) = inl p
evict-more (r ∷ rs) (suc i) j k l n o (inr h) = inr (evict-more rs i j k l n o h)

-- where an excess chooses a range, a larger one chooses the same
chosen_more : (ps : List Pin) (d e : ℕ) (rs : List Range) (i : ℕ) → d ≤ e → chosen ps d rs ≡ Some i → chosen ps e rs ≡ Some i
unfolding chosen
chosen_more ps zero e rs i l q = absurd (none-some i q)
chosen_more ps (suc d) zero rs i l q = absurd (omega arith)
chosen_more ps (suc d) (suc e) rs i l q = q

-- ---- a trim

pub asked_lawful : Lawful asked
asked_lawful = record { enough = λ e. omega arith; grows = λ d e l. omega arith }

module _ (asks : ℕ → ℕ) (t : Tree) (table : List ℕ) (ps : List Pin) where
  abbrev run : ℕ → ℕ → List Range → List ℕ → List Range
  run n e rs ms = (trim_by asks t table ps n e (chosen ps e rs) rs ms).ranges

  trim_sub : (n e : ℕ) (c : Option ℕ) (rs : List Range) (ms : List ℕ) → Sub (trim_by asks t table ps n e c rs ms).ranges rs
  unfolding trim_by
  trim_sub zero e c rs ms n o h = h
  trim_sub (suc n) e None rs ms v o h = h
  trim_sub (suc n) e (Some i) rs ms v o h =
      let k = amount asks e (nth rs i) in
      let rest = evict rs i k in
      evict_sub rs i k v o (trim_sub n (e - k) (chosen ps (e - k) rest) rest (unmark (nth rs i).node rest ms) v o h)

  met : (n : ℕ) (rs : List Range) (ms : List ℕ) → run n 0 rs ms ≡ rs
  unfolding trim_by chosen
  met zero rs ms = refl
  met (suc n) rs ms = refl

  module _ (L : Lawful asks) where
    -- one turn on each side, from one list: the larger excess takes k, the smaller j
    turn : (n d e j k : ℕ) (rs : List Range) (i : ℕ) (us vs : List ℕ)
        → ((qs : List Range) (xs ys : List ℕ) (a b : ℕ) → a ≤ b → Sub (run n b qs xs) (run n a qs ys))
        → d ≤ e
        → j ≤ k
        → (k ≡ j) ⊎ (d - j ≡ 0)
        → Sub (run n (e - k) (evict rs i k) us) (run n (d - j) (evict rs i j) vs)
    turn n d e j k rs i us vs ih le lk (inl q) v o = rw q (ih (evict rs i j) us vs (d - j) (e - j) (omega arith) v o)
    turn n d e j k rs i us vs ih le lk (inr q) v o =
        rw (q, met n (evict rs i j) vs) (λ h. evict-more rs i j k lk v o (trim_sub n (e - k) (chosen ps (e - k) (evict rs i k)) (evict rs i k) us v o h))

    taken : (d e : ℕ) (r : Range) → d ≤ e
        → (amount asks d r ≤ amount asks e r) × ((amount asks e r ≡ amount asks d r) ⊎ (d - amount asks d r ≡ 0))
    taken d e r le =
        let u = L.grows d e le in
        let g = L.enough d in (
          omega (arith, u),
          ⊎_elim
              (λ (h : length_of r ≤ asks d). inl (omega (arith, u)))
              (λ (h : asks d < length_of r). inr (omega (arith, g)))
              (le_or_lt (length_of r) (asks d)),
        )

    run_more : (n d e : ℕ) (rs : List Range) (xs ys : List ℕ) → d ≤ e → Sub (run n e rs xs) (run n d rs ys)
    unfolding trim_by
    run_more zero d e rs xs ys le = λ v o h. h
    run_more (suc n) d e rs xs ys le = split (chosen ps e rs) (chosen ps d rs) refl refl (λ qs us vs a b l. run_more n a b qs us vs l)
      where
        split : (c b : Option ℕ) → chosen ps e rs ≡ c → chosen ps d rs ≡ b
            → ((qs : List Range) (us vs : List ℕ) (a b : ℕ) → a ≤ b → Sub (run n b qs us) (run n a qs vs))
            → Sub (trim_by asks t table ps (suc n) e c rs xs).ranges (trim_by asks t table ps (suc n) d b rs ys).ranges
        split c None p q ih = trim_sub (suc n) e c rs xs
        split None (Some i) p q ih = absurd (none-some i (sym p ∙ chosen_more ps d e rs i le q))
        split (Some j) (Some i) p q ih =
            let same : j ≡ i = ap (λ o. unwrap_or o j) (sym p ∙ chosen_more ps d e rs i le q) in
            let k = taken d e (nth rs i) le in
            rw same (turn n d e (amount asks d (nth rs i)) (amount asks e (nth rs i)) rs i _ _ ih le k.0 k.1)

    -- from one list, the trim to the larger capacity keeps what the trim to the smaller keeps
    pub trim-more : (rs : List Range) (ms : List ℕ) (C D : ℕ) → C ≤ D
        → Sub (run (length rs) (total rs - C) rs ms) (run (length rs) (total rs - D) rs ms)
    trim-more rs ms C D le = run_more (length rs) (total rs - D) (total rs - C) rs ms ms (omega arith)

pub trim-room : (t : Tree) (table : List ℕ) (ps : List Pin) (rs : List Range) (ms : List ℕ) (C D : ℕ) → C ≤ D
    → Sub (trim t table ps C rs ms).ranges (trim t table ps D rs ms).ranges
unfolding trim
trim-room t table ps rs ms C D le = trim-more asked t table ps asked_lawful rs ms C D le
