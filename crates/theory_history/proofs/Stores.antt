-- The blocks of one store after a bring-in and after an expiry, and the given-out spans as their answer list has them. Assumes nothing.
use Prim.Native.Nat.{ℕ, zero, suc, ◌-◌, ◌≤◌, ◌<◌}
use mathlib.Core.List.{List, [], ◌∷◌, ◌++◌, map}
use mathlib.Core.Path.{◌≡◌, refl, sym, subst, ◌∙◌}
use mathlib.Core.Logic.{◌⊎◌, inl, inr, ⊎_elim}
use native.Mathlib.Omega.{arith}
use lib.ListN.{length}
use lib.Ieee.{Float}
use Rattle.model.specs.declared.Span.{Span}
use Rattle.model.specs.State.{Tree, Range, at}
use Rattle.model.specs.Sound.{Finite, Inside}
use Rattle.model.specs.Store.{Store, total}
use Rattle.model.specs.Trim.{Out, asked, chosen, trim}
use Rattle.model.specs.Bring.{Brought, gaps, fill, give_back, keep, bring}
use Rattle.model.specs.Expire.{oldest, expire_by}
use Rattle.model.specs.Refusals.{SpanIn, OutList}
use Rattle.model.specs.Calls.{lay_outs}
use Rattle.theory_sound.specs.Facts.{All}
use Rattle.theory_sound.specs.StoreSound.{StoreSound}
use Rattle.theory_bring.proofs.Bring.{bring_cases}
use Rattle.theory_bring.proofs.Fill.{gaps-rising, gaps_clear, fill-sound}
use Rattle.model.specs.Blocks.{Holds, InSpan}
use Rattle.theory_history.specs.History.{Listed}
use Rattle.theory_history.proofs.Blocks.{InGaps, InOuts, Split, gap_within, gap_or_held, fill_holds, holds-fill, trim-split, expire-split}

-- ---- nothing is held where held is 0

none-held : (t : Tree) (rs : List Range) → All (Inside t) rs → total rs ≡ 0 → (n o : ℕ) → Holds rs n o → ⊥
unfolding Holds All total
none-held t [] a e n o h = h
none-held t (r ∷ rs) a e n o (inl h) = omega (arith, a.0.filled)
none-held t (r ∷ rs) a e n o (inr h) = none-held t rs a.1 (omega arith) n o h

-- ---- a bring-in

-- what store x has after it: what it had or the span, less what was given out; and what was given out it had, or the span has
pub record Filled (x : Store) (sp : Span) (w : Brought) (n o : ℕ) : Type 0 where
  pub came : Holds w.store.ranges n o → Holds x.ranges n o ⊎ InSpan sp n o
  pub stayed : Holds w.store.ranges n o → InOuts w.outs n o → ⊥
  pub kept : Holds x.ranges n o ⊎ InSpan sp n o → (InOuts w.outs n o → ⊥) → Holds w.store.ranges n o
  pub was : InOuts w.outs n o → Holds x.ranges n o ⊎ InSpan sp n o

module _ (t : Tree) (table : List ℕ) (next : ℕ) (x : Store) (sp : Span) (time : Float) (write : ℕ) (h : StoreSound t next x) (i : SpanIn t sp)
    (f : Finite time) (first : 1 ≤ next) (n o : ℕ) where
  -- "the whole span is given out at once"
  given_back : x.book.capacity ≡ 0 → Filled x sp (give_back t table x sp write) n o
  unfolding give_back InOuts
  given_back e =
      let empty : Holds x.ranges n o → ⊥ = none-held t x.ranges h.ranges.inside (sym h.held ∙ h.held_none e) n o in
      record {
        came = λ y. absurd (empty y);
        stayed = λ y z. empty y;
        kept =
            λ y z. ⊎_elim (λ a. absurd (empty a)) (λ a. absurd (z (inl (record { node = sym a.node; low = a.low; high = a.high })))) y;
        was = λ y. ⊎_elim (λ a. inr (record { node = sym a.node; low = a.low; high = a.high })) (λ a. absurd a) y;
      }

  abbrev filled : List Range
  filled = fill sp.node (gaps sp.node x.ranges sp.start sp.end) x.book.stamp next time write x.ranges

  filled-came : Holds filled n o → Holds x.ranges n o ⊎ InSpan sp n o
  filled-came y =
      ⊎_elim
      (λ a. let b = gap_within sp.node sp.end x.ranges sp.start o a.1 in inr (record { node = a.0; low = b.0; high = b.1 }))
      (λ a. inl a) (fill_holds sp.node time write (gaps sp.node x.ranges sp.start sp.end) x.book.stamp next x.ranges n o y)

  filled-kept : Holds x.ranges n o ⊎ InSpan sp n o → Holds filled n o
  filled-kept y = holds-fill sp.node time write (gaps sp.node x.ranges sp.start sp.end) x.book.stamp next x.ranges n o (go y)
    where
      go : Holds x.ranges n o ⊎ InSpan sp n o → ((n ≡ sp.node) × InGaps (gaps sp.node x.ranges sp.start sp.end) o) ⊎ Holds x.ranges n o
      go (inl a) = inr a
      go (inr a) =
          ⊎_elim (λ b. inr (subst (λ v. Holds x.ranges v o) (sym a.node) b)) (λ b. inl (a.node, b))
          (gap_or_held sp.node sp.end x.ranges sp.start o a.low a.high)

  -- "each gap .. gets a range .. then trim"
  trimmed : Filled x sp (keep t table x next sp time write) n o
  unfolding keep trim
  trimmed =
      let sound =
      fill-sound sp.node time write t sp.end i.node i.ends f (gaps sp.node x.ranges sp.start sp.end) sp.start x.book.stamp next
      x.ranges (gaps-rising t sp.node sp.end x.ranges sp.start h.ranges.inside)
      (gaps_clear t sp.node sp.end x.ranges sp.start h.ranges.inside h.ranges.sorted) first h.ranges
      in
      let k =
      trim-split t table asked x.pins (length filled) (total filled - x.book.capacity) (chosen x.pins (total filled - x.book.capacity) filled) filled
      x.marks sound refl n o
      in
      record {
        came = λ y. filled-came (k.was y);
        stayed = λ y z. k.apart y z;
        kept = λ y z. ⊎_elim (λ a. a) (λ a. absurd (z a)) (k.held (filled-kept y));
        was = λ y. filled-came (k.out y);
      }

  pub bring-filled : Filled x sp (bring t table x next sp time write) n o
  bring-filled = bring_cases t table next x sp time write (λ k w. Filled x sp w n o) given_back (λ c. trimmed)

-- ---- an expiry

pub expire-filled : (t : Tree) (table : List ℕ) (next : ℕ) (x : Store) (now seconds : Float) → StoreSound t next x → (n o : ℕ)
    → Split x.ranges (expire_by t table now seconds (length x.ranges) (oldest now seconds x.ranges) x.ranges x.marks) n o
expire-filled t table next x now seconds h n o =
    expire-split t table now seconds (length x.ranges) (oldest now seconds x.ranges) x.ranges x.marks h.ranges refl n o

-- ---- the answer list

-- block o of node n is in span i of three columns
record InColumns (a b c : List ℕ) (k n o : ℕ) : Type 0 where
  place : ℕ
  below : place < k
  node : at a place ≡ n
  low : at b place ≤ o
  high : o < at c place

one_later : (x y z : ℕ) (a b c : List ℕ) (k n o : ℕ) → InColumns a b c k n o → InColumns (x ∷ a) (y ∷ b) (z ∷ c) (suc k) n o
one_later x y z a b c k n o h = record { place = suc h.place; below = omega (arith, h.below); node = h.node; low = h.low; high = h.high }

columns-outs : (xs : List Out) (a b c : List ℕ) (n o i : ℕ) → i < length xs → at (map (λ x. x.node) xs ++ a) i ≡ n → at (map (λ x. x.start) xs ++ b) i ≤ o
    → o < at (map (λ x. x.end) xs ++ c) i → InOuts xs n o
unfolding InOuts
columns-outs [] a b c n o i l p q r = absurd (omega arith)
columns-outs (x ∷ xs) a b c n o zero l p q r = inl (record { node = p; low = q; high = r })
columns-outs (x ∷ xs) a b c n o (suc i) l p q r = inr (columns-outs xs a b c n o i (omega arith) p q r)

outs-columns : (xs : List Out) (a b c : List ℕ) (n o : ℕ) → InOuts xs n o
    → InColumns (map (λ x. x.node) xs ++ a) (map (λ x. x.start) xs ++ b) (map (λ x. x.end) xs ++ c) (length xs) n o
unfolding InOuts
outs-columns [] a b c n o h = absurd h
outs-columns (x ∷ xs) a b c n o (inl h) = record { place = 0; below = omega arith; node = h.node; low = h.low; high = h.high }
outs-columns (x ∷ xs) a b c n o (inr h) = one_later x.node x.start x.end _ _ _ (length xs) n o (outs-columns xs a b c n o h)

pub listed-out : (xs : List Out) (l : OutList) (n o : ℕ) → Listed (lay_outs xs l) (length xs) n o → InOuts xs n o
listed-out xs l n o h = columns-outs xs _ _ _ n o h.place h.below h.node h.low h.high

pub out_listed : (xs : List Out) (l : OutList) (n o : ℕ) → InOuts xs n o → Listed (lay_outs xs l) (length xs) n o
out_listed xs l n o h =
    let k = outs-columns xs _ _ _ n o h in
    record { place = k.place; below = k.below; node = k.node; low = k.low; high = k.high }
