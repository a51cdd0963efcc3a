-- One eviction: what it leaves is the ranges as they were, one of them shorter or gone; so they stay sound, and so do the marks. And a range that is
-- chosen is one there is, and may go. Assumes nothing.
use Prim.Native.Nat.{ℕ, zero, suc, ◌-◌, ◌≤◌, ◌<◌, zero-le, suc-le-suc}
use mathlib.Core.Bool.{Bool, true, false, ◌||◌, true≢false}
use mathlib.Core.Path.{◌≡◌, refl, sym, ap, subst, ◌∙◌}
use mathlib.Core.Logic.{inl}
use mathlib.Core.List.{List, [], ◌∷◌}
use Rattle.std.specs.Prelude.{Option, None, Some}
use native.Mathlib.Omega.{arith}
use native.Mathlib.Nat.{le_refl, le_trans}
use native.Mathlib.Decide.{ℕ_discrete}
use lib.ListN.{length, set, length-set}
use lib.Seq.{get_or-set_same, get_or-set_other}
use lib.Dec.{leb, eqb}
use borrow.Author.Tests.{leb-false, ne_eqb}
use Rattle.model.specs.Sizes.{max_nodes}
use Rattle.model.specs.State.{Tree, Range, at}
use Rattle.model.specs.Sound.{Before, Inside, IdBetween, StampBetween}
use Rattle.model.specs.Store.{length_of, on_node, part, unmark}
use Rattle.model.specs.Trim.{Out, nth, sooner, better, first, shortened, evict, Trimmed, also}
use Rattle.theory_sound.specs.Facts.{IdsFrom}
use Rattle.theory_sound.specs.StoreSound.{RangesSound, MarksSound}
use Rattle.theory_bring.proofs.Facts.{Thinned, done, kept, gone, thin_same, thin_trans, thin_all, thin_order, has_each}

-- ---- ranges of which some are shorter, or gone

-- q is r, or what is left of it when its last blocks went
pub record Cut (q r : Range) : Type 0 where
  pub node : q.node ≡ r.node
  pub start : q.start ≡ r.start
  pub end : q.end ≤ r.end
  pub id : q.id ≡ r.id
  pub stamp : q.stamp ≡ r.stamp
  pub touched : q.touched ≡ r.touched
  pub write : q.write ≡ r.write
  pub filled : r.start < r.end → q.start < q.end

pub cut-same : (r : Range) → Cut r r
cut-same r =
    record { node = refl; start = refl; end = le_refl r.end; id = refl; stamp = refl; touched = refl; write = refl; filled = λ h. h }

pub cut_trans : (p q r : Range) → Cut p q → Cut q r → Cut p r
cut_trans p q r c d =
    record {
      node = c.node ∙ d.node;
      start = c.start ∙ d.start;
      end = le_trans c.end d.end;
      id = c.id ∙ d.id;
      stamp = c.stamp ∙ d.stamp;
      touched = c.touched ∙ d.touched;
      write = c.write ∙ d.write;
      filled = λ h. c.filled (d.filled h);
    }

cut-before : (q r q' r' : Range) → Cut q r → Cut q' r' → Before r r' → Before q q'
cut-before q r q' r' c d b = record { by_node = omega arith; apart = λ e. omega (arith, b.apart (omega arith)) }

cut_inside : (t : Tree) (q r : Range) → Cut q r → Inside t r → Inside t q
cut_inside t q r c h =
    record { in_use = omega arith; filled = c.filled h.filled; ends = rw c.node (omega arith) }

cut-id : (next : ℕ) (q r : Range) → Cut q r → IdBetween next r → IdBetween next q
cut-id next q r c h = omega arith

cut-stamp : (top : ℕ) (q r : Range) → Cut q r → StampBetween top r → StampBetween top q
cut-stamp top q r c h = omega arith

pub cut-sound : {t : Tree} {next top : ℕ} {qs rs : List Range} → Thinned Cut qs rs → RangesSound t next top rs → RangesSound t next top qs
cut-sound {t} {next} {top} c h =
    record {
      sorted = thin_order cut-before c h.sorted;
      inside = thin_all (cut_inside t) c h.inside;
      distinct = thin_order (λ q r q' r' d e a i. a (sym d.id ∙ i ∙ e.id)) c h.distinct;
      ids = thin_all (cut-id next) c h.ids;
      stamps = thin_all (cut-stamp top) c h.stamps;
      times = thin_all (λ q r d f. rw d.touched f) c h.times;
    }

pub cut-ids : {qs rs : List Range} (next : ℕ) → Thinned Cut qs rs → IdsFrom rs next qs
cut-ids {rs = rs} next c = thin_all (λ q r d h. inl (rw d.id h)) c (has_each rs)

-- ---- one eviction

cut-less : (r : Range) (k : ℕ) → leb (length_of r) k ≡ false → Cut (part r r.node r.start (r.end - k) r.id) r
cut-less r k e =
    record {
      node = refl;
      start = refl;
      end = omega arith;
      id = refl;
      stamp = refl;
      touched = refl;
      write = refl;
      filled = λ h. omega (arith, leb-false);
    }

cut-one : (r : Range) (k : ℕ) (rs : List Range) (b : Bool) → leb (length_of r) k ≡ b → Thinned Cut (shortened b r k rs) (r ∷ rs)
cut-one r k rs true e = gone (thin_same cut-same rs)
cut-one r k rs false e = kept (cut-less r k e) (thin_same cut-same rs)

pub evict-cut : (rs : List Range) (i k : ℕ) → Thinned Cut (evict rs i k) rs
unfolding evict
evict-cut [] i k = done
evict-cut (r ∷ rs) zero k = cut-one r k rs (leb (length_of r) k) refl
evict-cut (r ∷ rs) (suc i) k = kept (cut-same r) (evict-cut rs i k)

-- a range that goes whole leaves one range less
pub evict-whole : (rs : List Range) (i k : ℕ) → i < length rs → length_of (nth rs i) ≤ k → suc (length (evict rs i k)) ≡ length rs
unfolding evict
evict-whole [] i k l h = absurd (omega arith)
evict-whole (r ∷ rs) zero k l h = go (leb (length_of r) k) refl
  where
    go : (b : Bool) → leb (length_of r) k ≡ b → suc (length (shortened b r k rs)) ≡ suc (length rs)
    go true e = refl
    go false e = absurd (omega (arith, leb-false))
evict-whole (r ∷ rs) (suc i) k l h = ap suc (evict-whole rs i k (omega arith) h)

-- ---- marks

-- a node other than that of the range that is cut
pub evict-on : (v : ℕ) (rs : List Range) (i k : ℕ) → ((nth rs i).node ≡ v → ⊥) → on_node v (evict rs i k) ≡ on_node v rs
unfolding evict on_node
evict-on v [] i k o = refl
evict-on v (r ∷ rs) zero k o = go (leb (length_of r) k)
  where
    go : (b : Bool) → on_node v (shortened b r k rs) ≡ (eqb r.node v || on_node v rs)
    go true = rw (ne_eqb r.node v o)
    go false = refl
evict-on v (r ∷ rs) (suc i) k o = ap (λ (b : Bool). eqb r.node v || b) (evict-on v rs i k o)

set_lower : (ms : List ℕ) (n v : ℕ) → at (set ms n 0) v ≤ at ms v
set_lower [] n v = omega arith
set_lower (m ∷ ms) zero zero = omega arith
set_lower (m ∷ ms) zero (suc v) = omega arith
set_lower (m ∷ ms) (suc n) zero = omega arith
set_lower (m ∷ ms) (suc n) (suc v) = set_lower ms n v

-- the marks, where on no other node anything went
pub unmark-sound : {t : Tree} (n : ℕ) (rs rest : List Range) (ms : List ℕ)
    → ((v : ℕ) → (n ≡ v → ⊥) → on_node v rest ≡ false → on_node v rs ≡ false)
    → MarksSound t rs ms → MarksSound t rest (unmark n rest ms)
unmark-sound {t} n rs rest ms f h = go (on_node n rest) refl
  where
    go : (b : Bool) → on_node n rest ≡ b → MarksSound t rest (elim b [ true ↦ ms | false ↦ set ms n 0 ])
    go true e =
        record {
          long = h.long;
          none = λ v l o. h.none v l (f v (λ q. true≢false (sym e ∙ ap (λ (w : ℕ). on_node w rest) q ∙ o)) o);
          within = h.within;
        }
    go false e =
        record {
          long = length-set ms n 0 ∙ h.long;
          none = λ v l o. zero-at v l o (ℕ_discrete n v);
          within = λ v l. le_trans (set_lower ms n v) (h.within v l);
        }
      where
        zero-at : (v : ℕ) → v < max_nodes → on_node v rest ≡ false → Dec (n ≡ v) → at (set ms n 0) v ≡ 0
        zero-at v l o (yes q) = rw (← q) (get_or-set_same ms n 0 0 (omega (arith, h.long)))
        zero-at v l o (no d) = get_or-set_other ms n v 0 0 (λ q. d (sym q)) ∙ h.none v l (f v d o)

pub evict-marks : {t : Tree} (rs : List Range) (i k : ℕ) (ms : List ℕ) → MarksSound t rs ms
    → MarksSound t (evict rs i k) (unmark (nth rs i).node (evict rs i k) ms)
evict-marks rs i k ms = unmark-sound (nth rs i).node rs (evict rs i k) ms (λ v d o. sym (evict-on v rs i k d) ∙ o)

-- ---- several, one after another

-- w is what is left of the ranges and marks after at most n evictions, with a span given out for each
pub data Evicted : ℕ → List Range → List ℕ → Trimmed → Type 0 where
  stop : {n : ℕ} {rs : List Range} {ms : List ℕ} {b : Bool} → Evicted n rs ms (record { ranges = rs; marks = ms; outs = []; stalled = b })
  turn : {n : ℕ} {rs : List Range} {ms : List ℕ} {w : Trimmed} (i k : ℕ) (o : Out)
      → Evicted n (evict rs i k) (unmark (nth rs i).node (evict rs i k) ms) w → Evicted (suc n) rs ms (also o w)

pub evicted_cut : {n : ℕ} {rs : List Range} {ms : List ℕ} {w : Trimmed} → Evicted n rs ms w → Thinned Cut w.ranges rs
evicted_cut (stop {rs = rs}) = thin_same cut-same rs
evicted_cut (turn {rs = rs} i k o h) = thin_trans cut_trans (evicted_cut h) (evict-cut rs i k)

pub evicted_marks : {t : Tree} {n : ℕ} {rs : List Range} {ms : List ℕ} {w : Trimmed} → Evicted n rs ms w → MarksSound t rs ms
    → MarksSound t w.ranges w.marks
evicted_marks stop m = m
evicted_marks (turn {rs = rs} {ms = ms} i k o h) m = evicted_marks h (evict-marks rs i k ms m)

pub evicted_few : {n : ℕ} {rs : List Range} {ms : List ℕ} {w : Trimmed} → Evicted n rs ms w → length w.outs ≤ n
evicted_few stop = zero-le
evicted_few (turn i k o h) = suc-le-suc (evicted_few h)

-- ---- the choice

-- c is a place of rs, of a range that may go; or there is none
abbrev pub Right : (Range → Bool) → List Range → Option ℕ → Type 0
Right may rs None = (j : ℕ) → j < length rs → may (nth rs j) ≡ false
Right may rs (Some i) = (i < length rs) × (may (nth rs i) ≡ true)

better-right : (may : Range → Bool) (r : Range) (rs : List Range) (b : Bool) (c : Option ℕ) → may r ≡ b → Right may rs c → Right may (r ∷ rs) (better b r rs c)
better-right may r rs true None e h = (omega arith, e)
better-right may r rs true (Some i) e h = go (sooner (nth rs i) r)
  where
    go : (b : Bool) → Right may (r ∷ rs) (elim b [ true ↦ Some (suc i) | false ↦ Some 0 ])
    go true = (omega (arith, h.0), h.1)
    go false = (omega arith, e)
better-right may r rs false None e h = go
  where
    go : (j : ℕ) → j < suc (length rs) → may (nth (r ∷ rs) j) ≡ false
    go zero l = e
    go (suc j) l = h j (omega arith)
better-right may r rs false (Some i) e h = (omega (arith, h.0), h.1)

pub first-right : (may : Range → Bool) (rs : List Range) → Right may rs (first may rs)
unfolding first
first-right may [] = λ j l. absurd (omega arith)
first-right may (r ∷ rs) = better-right may r rs (may r) (first may rs) refl (first-right may rs)

pub first_some : (may : Range → Bool) (rs : List Range) (i : ℕ) → first may rs ≡ Some i → (i < length rs) × (may (nth rs i) ≡ true)
first_some may rs i e = subst (Right may rs) e (first-right may rs)
