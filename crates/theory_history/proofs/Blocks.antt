-- The blocks that a bring-in, a row of evictions and a cut leave: what the gaps bring in is the rest of the span; a block that was held is held still or was
-- given out, and not both; and a cut of node j moves its blocks at or above k to the new node. Assumes nothing.
use Prim.Native.Nat.{ℕ, zero, suc, ◌+◌, ◌-◌, ◌≤◌, ◌<◌, min, max}
use mathlib.Core.Bool.{Bool, true, false, not, ◌&&◌, ◌||◌, true≢false, false≢true}
use mathlib.Core.List.{List, [], ◌∷◌, ◌++◌}
use Rattle.std.specs.Prelude.{Option, None, Some, unwrap_or}
use Rattle.std.proofs.lemmas.Option.{none-some}
use mathlib.Core.Path.{◌≡◌, refl, sym, subst, ◌∙◌, ap}
use mathlib.Core.Logic.{◌⊎◌, inl, inr, ⊎_elim}
use native.Mathlib.Omega.{arith}
use lib.ListN.{length}
use lib.Dec.{leb, ltb, eqb}
use lib.Ieee.{Float}
use borrow.Author.Tests.{leb-true, ltb-true, ltb-false, eqb-true, eqb-false}
use Rattle.model.specs.State.{Tree, Range, Pin}
use Rattle.model.specs.Sound.{Before}
use Rattle.model.specs.Store.{length_of, ahead, insert, put, plus, unmark}
use Rattle.model.specs.Trim.{Out, told, nth, is_pinned, first, evict, shortened, Trimmed, also, amount, chosen, trim_by}
use Rattle.model.specs.Expire.{aged, if_aged, oldest, expire_by}
use Rattle.model.specs.Bring.{Gap, piece, gap_end, behind, gaps, fresh, fill}
use Rattle.model.specs.Insert.{across, beyond, head, heads, tail, tails}
use Rattle.theory_sound.specs.Facts.{All, InOrder, Sorted}
use Rattle.theory_sound.specs.StoreSound.{RangesSound}
use Rattle.theory_bring.proofs.Facts.{all_map}
use Rattle.theory_bring.proofs.Evict.{cut-sound, evict-cut, first_some}
use Rattle.model.specs.Blocks.{In, Holds, Filled}
use Rattle.theory_touch.proofs.Holds.{holds_append}

pub lt_or_le : (a b : ℕ) → (a < b) ⊎ (b ≤ a)
lt_or_le a b = go (ltb a b) refl
  where
    go : (t : Bool) → ltb a b ≡ t → (a < b) ⊎ (b ≤ a)
    go true e = inl (ltb-true a b e)
    go false e = inr (ltb-false a b e)

-- ---- gaps

-- block o is in one of the gaps
unfoldable pub InGaps : List Gap → ℕ → Type 0
InGaps [] o = ⊥
InGaps (g ∷ gs) o = ((g.from ≤ o) × (o < g.upto)) ⊎ InGaps gs o

piece_in : (b : Bool) (a y o : ℕ) (gs : List Gap) → InGaps (piece b a y gs) o → ((a ≤ o) × (o < y)) ⊎ InGaps gs o
unfolding InGaps
piece_in true a y o gs h = h
piece_in false a y o gs h = inr h

in_piece : (b : Bool) (a y o : ℕ) (gs : List Gap) → ltb a y ≡ b → ((a ≤ o) × (o < y)) ⊎ InGaps gs o → InGaps (piece b a y gs) o
unfolding InGaps
in_piece true a y o gs e h = h
in_piece false a y o gs e (inl h) = absurd (omega (arith, ltb-false, h.0, h.1))
in_piece false a y o gs e (inr h) = h

-- every gap is in the span
pub gap_within : (n z : ℕ) (rs : List Range) (a o : ℕ) → InGaps (gaps n rs a z) o → (a ≤ o) × (o < z)
unfolding gaps InGaps
gap_within n z [] a o h = ⊎_elim (λ x. x) (λ x. absurd x) (piece_in (ltb a z) a z o [] h)
gap_within n z (r ∷ rs) a o h = go (eqb r.node n) h (λ b k. gap_within n z rs b o k)
  where
    go : (b : Bool)
        → InGaps (piece (ltb a (gap_end b a r.start z)) a (gap_end b a r.start z) (gaps n rs (behind b a r.end) z)) o
        → ((b : ℕ) → InGaps (gaps n rs b z) o → (b ≤ o) × (o < z))
        → (a ≤ o) × (o < z)
    go true k ih =
        ⊎_elim (λ x. (x.0, omega (arith, x.1))) (λ x. let y = ih (max a r.end) x in (omega (arith, y.0), y.1))
        (piece_in (ltb a (min r.start z)) a (min r.start z) o (gaps n rs (max a r.end) z) k)
    go false k ih = ⊎_elim (λ x. absurd (omega (arith, x.0, x.1))) (λ x. ih a x) (piece_in (ltb a a) a a o (gaps n rs a z) k)

-- every block of the span is held or in a gap
pub gap_or_held : (n z : ℕ) (rs : List Range) (a o : ℕ) → a ≤ o → o < z → Holds rs n o ⊎ InGaps (gaps n rs a z) o
unfolding gaps InGaps Holds
gap_or_held n z [] a o l m = inr (in_piece (ltb a z) a z o [] refl (inl (l, m)))
gap_or_held n z (r ∷ rs) a o l m = go (eqb r.node n) refl (λ b k. gap_or_held n z rs b o k m)
  where
    go : (b : Bool) → eqb r.node n ≡ b → ((b : ℕ) → b ≤ o → Holds rs n o ⊎ InGaps (gaps n rs b z) o)
        → Holds (r ∷ rs) n o
        ⊎ InGaps (piece (ltb a (gap_end b a r.start z)) a (gap_end b a r.start z) (gaps n rs (behind b a r.end) z)) o
    go true e ih =
        ⊎_elim (λ (x : o < min r.start z). inr (in_piece _ a _ o _ refl (inl (l, x))))
        (λ (x : min r.start z ≤ o).
        ⊎_elim
        (λ (y : o < r.end). inl (inl (record { node = eqb-true r.node n e; low = omega arith; high = y })))
        (λ (y : r.end ≤ o). ⊎_elim (λ k. inl (inr k)) (λ k. inr (in_piece _ a _ o _ refl (inr k))) (ih (max a r.end) (omega arith)))
        (lt_or_le o r.end))
        (lt_or_le o (min r.start z))
    go false e ih = ⊎_elim (λ k. inl (inr k)) (λ k. inr (in_piece _ a _ o _ refl (inr k))) (ih a l)

-- ---- a range put in, and a range for each gap

insert-holds : (g : Range) (rs : List Range) (n o : ℕ) → Holds (insert g rs) n o → In n o g ⊎ Holds rs n o
unfolding insert Holds
insert-holds g [] n o h = h
insert-holds g (r ∷ rs) n o h = go (ahead g r) h (insert-holds g rs n o)
  where
    go : (b : Bool) → Holds (elim b [ true ↦ g ∷ r ∷ rs | false ↦ r ∷ insert g rs ]) n o → (Holds (insert g rs) n o → In n o g ⊎ Holds rs n o)
        → In n o g ⊎ (In n o r ⊎ Holds rs n o)
    go true k ih = k
    go false k ih = ⊎_elim (λ x. inr (inl x)) (λ x. ⊎_elim (λ y. inl y) (λ y. inr (inr y)) (ih x)) k

holds-insert : (g : Range) (rs : List Range) (n o : ℕ) → In n o g ⊎ Holds rs n o → Holds (insert g rs) n o
unfolding insert Holds
holds-insert g [] n o h = h
holds-insert g (r ∷ rs) n o h = go (ahead g r) (holds-insert g rs n o)
  where
    go : (b : Bool) → (In n o g ⊎ Holds rs n o → Holds (insert g rs) n o) → Holds (elim b [ true ↦ g ∷ r ∷ rs | false ↦ r ∷ insert g rs ]) n o
    go true ih = h
    go false ih = ⊎_elim (λ x. inr (ih (inl x))) (λ x. ⊎_elim (λ y. inl y) (λ y. inr (ih (inr y))) x) h

module _ (v : ℕ) (time : Float) (write : ℕ) where
  pub fill_holds : (gs : List Gap) (top next : ℕ) (rs : List Range) (n o : ℕ) → Holds (fill v gs top next time write rs) n o
      → ((n ≡ v) × InGaps gs o) ⊎ Holds rs n o
  unfolding fill InGaps
  fill_holds [] top next rs n o h = inr h
  fill_holds (g ∷ gs) top next rs n o h =
      ⊎_elim (λ x. inl (x.0, inr x.1))
      (λ x. ⊎_elim (λ y. inl (sym y.node, inl (y.low, y.high))) (λ y. inr y) (insert-holds (fresh v g (suc top) next time write) rs n o x))
      (fill_holds gs (suc top) (suc next) (insert (fresh v g (suc top) next time write) rs) n o h)

  pub holds-fill : (gs : List Gap) (top next : ℕ) (rs : List Range) (n o : ℕ) → ((n ≡ v) × InGaps gs o) ⊎ Holds rs n o
      → Holds (fill v gs top next time write rs) n o
  unfolding fill InGaps
  holds-fill [] top next rs n o (inl h) = absurd h.1
  holds-fill [] top next rs n o (inr h) = h
  holds-fill (g ∷ gs) top next rs n o h =
      holds-fill gs (suc top) (suc next) (insert (fresh v g (suc top) next time write) rs) n o (go h)
    where
      r : Range
      r = fresh v g (suc top) next time write

      go : ((n ≡ v) × (((g.from ≤ o) × (o < g.upto)) ⊎ InGaps gs o)) ⊎ Holds rs n o → ((n ≡ v) × InGaps gs o) ⊎ Holds (insert r rs) n o
      go (inl (e, inl x)) = inr (holds-insert r rs n o (inl (record { node = sym e; low = x.0; high = x.1 })))
      go (inl (e, inr x)) = inl (e, x)
      go (inr x) = inr (holds-insert r rs n o (inr x))

-- ---- evictions

-- block o of node n is in a given-out span, and in one of several
pub record InOut (x : Out) (n o : ℕ) : Type 0 where
  pub node : x.node ≡ n
  pub low : x.start ≤ o
  pub high : o < x.end

unfoldable pub InOuts : List Out → ℕ → ℕ → Type 0
InOuts [] n o = ⊥
InOuts (x ∷ xs) n o = InOut x n o ⊎ InOuts xs n o

-- the last k blocks of the range
record InLast (r : Range) (k n o : ℕ) : Type 0 where
  node : r.node ≡ n
  low : r.end - k ≤ o
  high : o < r.end

short-holds : (b : Bool) (r : Range) (k : ℕ) (rs : List Range) (n o : ℕ) → leb (length_of r) k ≡ b → Holds (r ∷ rs) n o
    → Holds (shortened b r k rs) n o ⊎ InLast r k n o
unfolding Holds
short-holds true r k rs n o e (inl h) = inr (record { node = h.node; low = omega (arith, leb-true, h.low); high = h.high })
short-holds true r k rs n o e (inr h) = inl h
short-holds false r k rs n o e (inl h) =
    ⊎_elim (λ (x : o < r.end - k). inl (inl (record { node = h.node; low = h.low; high = x })))
    (λ (x : r.end - k ≤ o). inr (record { node = h.node; low = x; high = h.high })) (lt_or_le o (r.end - k))
short-holds false r k rs n o e (inr h) = inl (inr h)

evict-holds : (rs : List Range) (i k n o : ℕ) → Holds rs n o → Holds (evict rs i k) n o ⊎ InLast (nth rs i) k n o
unfolding Holds evict
evict-holds [] i k n o h = absurd h
evict-holds (r ∷ rs) zero k n o h = short-holds (leb (length_of r) k) r k rs n o refl h
evict-holds (r ∷ rs) (suc i) k n o (inl h) = inl (inl h)
evict-holds (r ∷ rs) (suc i) k n o (inr h) = ⊎_elim (λ x. inl (inr x)) (λ x. inr x) (evict-holds rs i k n o h)

-- what is left was there
short-was : (b : Bool) (r : Range) (k : ℕ) (rs : List Range) (n o : ℕ) → Holds (shortened b r k rs) n o → Holds (r ∷ rs) n o
unfolding Holds
short-was true r k rs n o h = inr h
short-was false r k rs n o (inl h) = inl (record { node = h.node; low = h.low; high = omega (arith, h.high) })
short-was false r k rs n o (inr h) = inr h

evict-was : (rs : List Range) (i k n o : ℕ) → Holds (evict rs i k) n o → Holds rs n o
unfolding Holds evict
evict-was [] i k n o h = h
evict-was (r ∷ rs) zero k n o h = short-was (leb (length_of r) k) r k rs n o h
evict-was (r ∷ rs) (suc i) k n o (inl h) = inl h
evict-was (r ∷ rs) (suc i) k n o (inr h) = inr (evict-was rs i k n o h)

-- a block is in one range of a sorted list only
after_holds : (r : Range) (rs : List Range) (n o : ℕ) → All (Before r) rs → Filled r → Holds rs n o → r.node ≡ n → r.end ≤ o
unfolding Holds All
after_holds r [] n o a f h e = absurd h
after_holds r (q ∷ rs) n o a f (inl h) e = omega (arith, a.0.apart (e ∙ sym h.node), h.low)
after_holds r (q ∷ rs) n o a f (inr h) e = after_holds r rs n o a.1 f h e

nth-holds : (rs : List Range) (i : ℕ) (r : Range) → i < length rs → All (Before r) rs → Before r (nth rs i)
unfolding All
nth-holds [] i r l a = absurd (omega arith)
nth-holds (q ∷ rs) zero r l a = a.0
nth-holds (q ∷ rs) (suc i) r l a = nth-holds rs i r (omega arith) a.1

-- and what goes is not left
evict_not : (rs : List Range) (i k n o : ℕ) → i < length rs → Sorted rs → All Filled rs → k ≤ length_of (nth rs i) → Holds (evict rs i k) n o
    → InLast (nth rs i) k n o → ⊥
unfolding Holds evict InOrder All
evict_not [] i k n o l s f m h x = omega arith
evict_not (r ∷ rs) zero k n o l s f m h x = go (leb (length_of r) k) h
  where
    go : (b : Bool) → Holds (shortened b r k rs) n o → ⊥
    go true y = omega (arith, after_holds r rs n o s.0 f.0 y x.node, x.high)
    go false (inl y) = omega (arith, y.high, x.low)
    go false (inr y) = omega (arith, after_holds r rs n o s.0 f.0 y x.node, x.high)
evict_not (r ∷ rs) (suc i) k n o l s f m (inl h) x =
    omega (arith, (nth-holds rs i r (omega arith) s.0).apart (h.node ∙ sym x.node), h.high, x.low)
evict_not (r ∷ rs) (suc i) k n o l s f m (inr h) x = evict_not rs i k n o (omega arith) s.1 f.1 m h x

nth-filled : (rs : List Range) (i : ℕ) → i < length rs → All Filled rs → Filled (nth rs i)
unfolding All
nth-filled [] i l f = absurd (omega arith)
nth-filled (r ∷ rs) zero l f = f.0
nth-filled (r ∷ rs) (suc i) l f = nth-filled rs i (omega arith) f.1

chosen-some : (ps : List Pin) (e : ℕ) (rs : List Range) (i : ℕ) → chosen ps e rs ≡ Some i → i < length rs
unfolding chosen
chosen-some ps zero rs i q = absurd (none-some i q)
chosen-some ps (suc e) rs i q = (first_some (λ r. not (is_pinned ps r)) rs i q).0

oldest-some : (now seconds : Float) (rs : List Range) (i : ℕ) → oldest now seconds rs ≡ Some i → i < length rs
unfolding oldest
oldest-some now seconds rs i = go (first (λ r. true) rs) refl
  where
    go : (c : Option ℕ) → first (λ r. true) rs ≡ c → if_aged now seconds rs c ≡ Some i → i < length rs
    go None e q = absurd (none-some i q)
    go (Some j) e q = found (aged now seconds (nth rs j)) q
      where
        found : (b : Bool) → elim b [ true ↦ Some j | false ↦ None ] ≡ Some i → i < length rs
        found true f = subst (λ k. k < length rs) (ap (λ o. unwrap_or o j) f) (first_some (λ r. true) rs j e).0
        found false f = absurd (none-some i f)

-- a block that rs had is left in w, or was given out, and not both
pub record Split (rs : List Range) (w : Trimmed) (n o : ℕ) : Type 0 where
  pub held : Holds rs n o → Holds w.ranges n o ⊎ InOuts w.outs n o
  pub was : Holds w.ranges n o → Holds rs n o
  pub out : InOuts w.outs n o → Holds rs n o
  pub apart : Holds w.ranges n o → InOuts w.outs n o → ⊥

stop-split : (rs : List Range) (ms : List ℕ) (b : Bool) (n o : ℕ) → Split rs (record { ranges = rs; marks = ms; outs = []; stalled = b }) n o
unfolding InOuts
stop-split rs ms b n o = record { held = λ h. inl h; was = λ h. h; out = λ h. absurd h; apart = λ h x. x }

-- what is told of the last k blocks of r
record Tells (x : Out) (r : Range) (k : ℕ) : Type 0 where
  node : x.node ≡ r.node
  start : x.start ≡ r.end - k
  end : x.end ≡ r.end

out-last : {x : Out} {r : Range} {k n o : ℕ} → Tells x r k → InOut x n o → InLast r k n o
out-last t h = record { node = sym t.node ∙ h.node; low = omega (arith, t.start, h.low); high = omega (arith, t.end, h.high) }

last_out : {x : Out} {r : Range} {k n o : ℕ} → Tells x r k → InLast r k n o → InOut x n o
last_out t h = record { node = t.node ∙ h.node; low = omega (arith, t.start, h.low); high = omega (arith, t.end, h.high) }

last-held : (rs : List Range) (i k n o : ℕ) → i < length rs → k ≤ length_of (nth rs i) → InLast (nth rs i) k n o → Holds rs n o
unfolding Holds
last-held [] i k n o l m x = absurd (omega arith)
last-held (r ∷ rs) zero k n o l m x = inl (record { node = x.node; low = omega (arith, x.low, x.high); high = x.high })
last-held (r ∷ rs) (suc i) k n o l m x = inr (last-held rs i k n o (omega arith) m x)

turn-split : (rs : List Range) (i k : ℕ) (x : Out) (w : Trimmed) (n o : ℕ) → i < length rs → k ≤ length_of (nth rs i) → Sorted rs → All Filled rs
    → Tells x (nth rs i) k → Split (evict rs i k) w n o → Split rs (also x w) n o
unfolding InOuts
turn-split rs i k x w n o l m s f t h =
    record {
      held = λ y. ⊎_elim (λ a. ⊎_elim (λ b. inl b) (λ b. inr (inr b)) (h.held a)) (λ a. inr (inl (last_out t a))) (evict-holds rs i k n o y);
      was = λ y. evict-was rs i k n o (h.was y);
      out = λ y. ⊎_elim (λ a. last-held rs i k n o l m (out-last t a)) (λ a. evict-was rs i k n o (h.out a)) y;
      apart = λ y z. ⊎_elim (λ a. evict_not rs i k n o l s f m (h.was y) (out-last t a)) (λ a. h.apart y a) z;
    }

module _ (t : Tree) (table : List ℕ) {next top : ℕ} where
  filled_of : (rs : List Range) → RangesSound t next top rs → All Filled rs
  filled_of rs h = all_map (λ r i. i.filled) rs h.inside

  module _ (asks : ℕ → ℕ) (ps : List Pin) where
    pub trim-split : (n e : ℕ) (c : Option ℕ) (rs : List Range) (ms : List ℕ) → RangesSound t next top rs → c ≡ chosen ps e rs → (v o : ℕ)
        → Split rs (trim_by asks t table ps n e c rs ms) v o
    unfolding trim_by
    trim-split zero e c rs ms h q v o = stop-split rs ms (ltb 0 e) v o
    trim-split (suc n) e None rs ms h q v o = stop-split rs ms (ltb 0 e) v o
    trim-split (suc n) e (Some i) rs ms h q v o =
        let r = nth rs i in
        let k = amount asks e r in
        let rest = evict rs i k in
        turn-split rs i k (told t table ms r (r.end - k) r.end) _ v o (chosen-some ps e rs i (sym q)) (omega arith) h.sorted (filled_of rs h)
        (record { node = refl; start = refl; end = refl })
        (trim-split n (e - k) (chosen ps (e - k) rest) rest (unmark r.node rest ms) (cut-sound (evict-cut rs i k) h) refl v o)

  module _ (now seconds : Float) where
    pub expire-split : (n : ℕ) (c : Option ℕ) (rs : List Range) (ms : List ℕ) → RangesSound t next top rs → c ≡ oldest now seconds rs → (v o : ℕ)
        → Split rs (expire_by t table now seconds n c rs ms) v o
    unfolding expire_by
    expire-split zero c rs ms h q v o = stop-split rs ms false v o
    expire-split (suc n) None rs ms h q v o = stop-split rs ms false v o
    expire-split (suc n) (Some i) rs ms h q v o =
        let r = nth rs i in
        let l = oldest-some now seconds rs i (sym q) in
        let rest = evict rs i (length_of r) in
        turn-split rs i (length_of r) (told t table ms r r.start r.end) _ v o l (omega arith) h.sorted (filled_of rs h)
        (record { node = refl; start = omega (arith, nth-filled rs i l (filled_of rs h)); end = refl })
        (expire-split n (oldest now seconds rest) rest (unmark r.node rest ms) (cut-sound (evict-cut rs i (length_of r)) h) refl v o)

-- ---- a cut of node j at k, where m is the new node

-- a range that is across, or beyond: what its tests tell
beyond_true : (j k : ℕ) (r : Range) → beyond j k r ≡ true → (r.node ≡ j) × (k < r.end)
beyond_true j k r = go (eqb r.node j) (ltb k r.end) refl refl
  where
    go : (a b : Bool) → eqb r.node j ≡ a → ltb k r.end ≡ b → a && b ≡ true → (r.node ≡ j) × (k < r.end)
    go true true p q e = (eqb-true r.node j p, ltb-true k r.end q)
    go true false p q e = absurd (false≢true e)
    go false b p q e = absurd (false≢true e)

beyond_false : (j k : ℕ) (r : Range) → beyond j k r ≡ false → r.node ≡ j → r.end ≤ k
beyond_false j k r = go (eqb r.node j) (ltb k r.end) refl refl
  where
    go : (a b : Bool) → eqb r.node j ≡ a → ltb k r.end ≡ b → a && b ≡ false → r.node ≡ j → r.end ≤ k
    go true true p q e f = absurd (true≢false e)
    go true false p q e f = ltb-false k r.end q
    go false b p q e f = absurd (eqb-false r.node j p f)

across_true : (j k : ℕ) (r : Range) → across j k r ≡ true → (r.node ≡ j) × (r.start < k) × (k < r.end)
across_true j k r = go (eqb r.node j) (ltb r.start k) (ltb k r.end) refl refl refl
  where
    go : (a b c : Bool) → eqb r.node j ≡ a → ltb r.start k ≡ b → ltb k r.end ≡ c → a && (b && c) ≡ true
        → (r.node ≡ j) × (r.start < k) × (k < r.end)
    go true true true p q s e = (eqb-true r.node j p, ltb-true r.start k q, ltb-true k r.end s)
    go true true false p q s e = absurd (false≢true e)
    go true false c p q s e = absurd (false≢true e)
    go false b c p q s e = absurd (false≢true e)

across_false : (j k : ℕ) (r : Range) → across j k r ≡ false → r.node ≡ j → k < r.end → k ≤ r.start
across_false j k r = go (eqb r.node j) (ltb r.start k) (ltb k r.end) refl refl refl
  where
    go : (a b c : Bool) → eqb r.node j ≡ a → ltb r.start k ≡ b → ltb k r.end ≡ c → a && (b && c) ≡ false → r.node ≡ j → k < r.end
        → k ≤ r.start
    go true true true p q s e f g = absurd (true≢false e)
    go true true false p q s e f g = absurd (omega (arith, ltb-false))
    go true false c p q s e f g = ltb-false r.start k q
    go false b c p q s e f g = absurd (eqb-false r.node j p f)

put_holds : (b : Bool) (r : Range) (rs : List Range) (n o : ℕ) → Holds (put b r rs) n o → ((b ≡ true) × In n o r) ⊎ Holds rs n o
unfolding Holds
put_holds true r rs n o (inl h) = inl (refl, h)
put_holds true r rs n o (inr h) = inr h
put_holds false r rs n o h = inr h

holds-put : (b : Bool) (r : Range) (rs : List Range) (n o : ℕ) → ((b ≡ true) × In n o r) ⊎ Holds rs n o → Holds (put b r rs) n o
unfolding Holds
holds-put true r rs n o (inl h) = inl h.1
holds-put true r rs n o (inr h) = inr h
holds-put false r rs n o (inl h) = absurd (false≢true h.0)
holds-put false r rs n o (inr h) = h

module _ (j k m : ℕ) where
  -- of one range, the part below k, and the part at or above it on the new node
  head_in : (r : Range) (a b : Bool) → across j k r ≡ a → beyond j k r ≡ b → (n o : ℕ) → a || not b ≡ true → In n o (head a k r)
      → In n o r × (n ≡ j → o < k)
  head_in r true b p q n o e h =
      let x = across_true j k r p in
      (record { node = h.node; low = h.low; high = omega (arith, h.high, x.2) }, λ f. h.high)
  head_in r false true p q n o e h = absurd (false≢true e)
  head_in r false false p q n o e h = (h, λ f. omega (arith, beyond_false j k r q (h.node ∙ f), h.high))

  in_head : (r : Range) (a b : Bool) → across j k r ≡ a → beyond j k r ≡ b → (n o : ℕ) → In n o r → (n ≡ j → o < k) → (a || not b ≡ true) × In n o (head a k r)
  in_head r true b p q n o h f =
      let x = across_true j k r p in
      (refl, record { node = h.node; low = h.low; high = f (sym h.node ∙ x.0) })
  in_head r false true p q n o h f =
      let x = beyond_true j k r q in
      absurd (omega (arith, across_false j k r p x.0 x.1, h.low, f (sym h.node ∙ x.0)))
  in_head r false false p q n o h f = (refl, h)

  tail_in : (r : Range) (a b : Bool) (next : ℕ) → across j k r ≡ a → beyond j k r ≡ b → (n o : ℕ) → b ≡ true → In n o (tail a k m next r)
      → (n ≡ m) × In j (k + o) r
  tail_in r true b next p q n o e h =
      let x = across_true j k r p in
      (sym h.node, record { node = x.0; low = omega (arith, x.1); high = omega (arith, h.high) })
  tail_in r false b next p q n o e h =
      let x = beyond_true j k r (q ∙ e) in
      (sym h.node, record { node = x.0; low = omega (arith, h.low); high = omega (arith, h.high) })

  in_tail : (r : Range) (a b : Bool) (next : ℕ) → across j k r ≡ a → beyond j k r ≡ b → (o : ℕ) → In j (k + o) r → (b ≡ true) × In m o (tail a k m next r)
  in_tail r a false next p q o h = absurd (omega (arith, beyond_false j k r q h.node, h.high))
  in_tail r true true next p q o h = (refl, record { node = refl; low = omega arith; high = omega (arith, h.high) })
  in_tail r false true next p q o h = (refl, record { node = refl; low = omega (arith, h.low); high = omega (arith, h.high) })

  heads_hold : (rs : List Range) (n o : ℕ) → Holds (heads j k rs) n o → Holds rs n o × (n ≡ j → o < k)
  unfolding heads Holds
  heads_hold [] n o h = absurd h
  heads_hold (r ∷ rs) n o h =
      ⊎_elim (λ x. let y = head_in r (across j k r) (beyond j k r) refl refl n o x.0 x.1 in (inl y.0, y.1))
      (λ x. let y = heads_hold rs n o x in (inr y.0, y.1))
      (put_holds (across j k r || not (beyond j k r)) (head (across j k r) k r) (heads j k rs) n o h)

  hold_heads : (rs : List Range) (n o : ℕ) → Holds rs n o → (n ≡ j → o < k) → Holds (heads j k rs) n o
  unfolding heads Holds
  hold_heads [] n o h f = h
  hold_heads (r ∷ rs) n o (inl h) f =
      holds-put (across j k r || not (beyond j k r)) (head (across j k r) k r) (heads j k rs) n o
      (inl (in_head r (across j k r) (beyond j k r) refl refl n o h f))
  hold_heads (r ∷ rs) n o (inr h) f =
      holds-put (across j k r || not (beyond j k r)) (head (across j k r) k r) (heads j k rs) n o (inr (hold_heads rs n o h f))

  tails_hold : (rs : List Range) (next n o : ℕ) → Holds (tails j k m next rs) n o → (n ≡ m) × Holds rs j (k + o)
  unfolding tails Holds
  tails_hold [] next n o h = absurd h
  tails_hold (r ∷ rs) next n o h =
      ⊎_elim (λ x. let y = tail_in r (across j k r) (beyond j k r) next refl refl n o x.0 x.1 in (y.0, inl y.1))
      (λ x. let y = tails_hold rs (plus (across j k r) next) n o x in (y.0, inr y.1))
      (put_holds (beyond j k r) (tail (across j k r) k m next r) (tails j k m (plus (across j k r) next) rs) n o h)

  hold_tails : (rs : List Range) (next o : ℕ) → Holds rs j (k + o) → Holds (tails j k m next rs) m o
  unfolding tails Holds
  hold_tails [] next o h = h
  hold_tails (r ∷ rs) next o (inl h) =
      holds-put (beyond j k r) (tail (across j k r) k m next r) (tails j k m (plus (across j k r) next) rs) m o
      (inl (in_tail r (across j k r) (beyond j k r) next refl refl o h))
  hold_tails (r ∷ rs) next o (inr h) =
      holds-put (beyond j k r) (tail (across j k r) k m next r) (tails j k m (plus (across j k r) next) rs) m o
      (inr (hold_tails rs (plus (across j k r) next) o h))

  -- the whole
  pub cut_holds : (rs : List Range) (next n o : ℕ) → Holds (heads j k rs ++ tails j k m next rs) n o
      → (Holds rs n o × (n ≡ j → o < k)) ⊎ ((n ≡ m) × Holds rs j (k + o))
  cut_holds rs next n o h =
      ⊎_elim (λ x. inl (heads_hold rs n o x)) (λ x. inr (tails_hold rs next n o x)) ((holds_append (heads j k rs) (tails j k m next rs) n o).0 h)

  pub cut-stays : (rs : List Range) (next n o : ℕ) → Holds rs n o → (n ≡ j → o < k) → Holds (heads j k rs ++ tails j k m next rs) n o
  cut-stays rs next n o h f = (holds_append (heads j k rs) (tails j k m next rs) n o).1 (inl (hold_heads rs n o h f))

  pub cut_moves : (rs : List Range) (next o : ℕ) → Holds rs j (k + o) → Holds (heads j k rs ++ tails j k m next rs) m o
  cut_moves rs next o h = (holds_append (heads j k rs) (tails j k m next rs) m o).1 (inr (hold_tails rs next o h))
