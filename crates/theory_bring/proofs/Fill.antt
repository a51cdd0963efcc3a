-- The gaps of a span are nonempty, rising, inside it and apart from what is held; so a new range for each of them keeps ranges and marks sound.
-- Assumes nothing.
use Prim.Native.Nat.{ℕ, suc, ◌+◌, ◌≤◌, ◌<◌, min, max}
use mathlib.Core.Bool.{Bool, true, false, ◌&&◌, ◌||◌, true≢false, false≢true}
use mathlib.Core.Path.{◌≡◌, refl, sym, ap, ◌∙◌}
use mathlib.Core.Logic.{◌⊎◌, inl, inr, ⊎_elim}
use mathlib.Core.List.{List, [], ◌∷◌}
use native.Mathlib.Omega.{arith}
use native.Mathlib.Nat.{le_refl, add-zero, add-suc, suc-add}
use lib.ListN.{length}
use lib.Dec.{ltb, leb, eqb}
use lib.Ieee.{Float}
use borrow.Author.Tests.{ltb-true, ltb-false, leb-true, leb-false, eqb-true, eqb-false}
use Rattle.model.specs.State.{Tree, Range, at}
use Rattle.model.specs.Sound.{Before, Inside, IdBetween, StampBetween, Finite}
use Rattle.model.specs.Store.{on_node, ahead, insert}
use Rattle.model.specs.Bring.{Gap, piece, gap_end, behind, gaps, fresh, fill}
use Rattle.theory_sound.specs.Facts.{All, InOrder, Sorted, IdApart, Distinct, IdsFrom}
use Rattle.theory_sound.specs.StoreSound.{RangesSound, MarksSound}
use Rattle.theory_bring.proofs.Facts.{all_map, ids-same, ids_trans, id_later, stamp_later}

-- ---- the gaps

-- rising, nonempty, from lo up to z
unfoldable pub Rising : ℕ → ℕ → List Gap → Type 0
Rising lo z [] = Unit {0}
Rising lo z (g ∷ gs) = (lo ≤ g.from) × (g.from < g.upto) × (g.upto ≤ z) × Rising g.upto z gs

-- the range holds nothing of the gap of node n
abbrev pub Clear : ℕ → Gap → Range → Type 0
Clear n g r = r.node ≡ n → (g.upto ≤ r.start) ⊎ (r.end ≤ g.from)

-- no range holds anything of a gap
abbrev pub AllClear : ℕ → List Range → List Gap → Type 0
AllClear n rs gs = All (λ g. All (Clear n g) rs) gs

rising-less : (lo hi z : ℕ) (gs : List Gap) → lo ≤ hi → Rising hi z gs → Rising lo z gs
unfolding Rising
rising-less lo hi z [] l h = tt
rising-less lo hi z (g ∷ gs) l h = (omega arith, h.1, h.2, h.3)

-- a piece in front
rising-piece : (b : Bool) (a y lo z : ℕ) (gs : List Gap) → ltb a y ≡ b → a ≤ lo → (a < y → (y ≤ z) × (y ≤ lo)) → Rising lo z gs
    → Rising a z (piece b a y gs)
unfolding Rising
rising-piece true a y lo z gs e l m h = let s : a < y = ltb-true a y e in (omega arith, s, (m s).0, rising-less y lo z gs (m s).1 h)
rising-piece false a y lo z gs e l m h = rising-less a lo z gs l h

clear_piece : (b : Bool) (n a y : ℕ) (rs : List Range) (gs : List Gap) → ltb a y ≡ b → (a < y → All (Clear n (record { from = a; upto = y })) rs)
    → AllClear n rs gs → AllClear n rs (piece b a y gs)
unfolding All
clear_piece true n a y rs gs e m h = (m (ltb-true a y e), h)
clear_piece false n a y rs gs e m h = h

-- what begins behind r is clear of it
clear_behind : (n lo z : ℕ) (r : Range) (rs : List Range) (gs : List Gap) → (r.node ≡ n → r.end ≤ lo) → Rising lo z gs → AllClear n rs gs
    → AllClear n (r ∷ rs) gs
unfolding All Rising
clear_behind n lo z r rs [] e k h = tt
clear_behind n lo z r rs (g ∷ gs) e k h =
    ((λ q. inr (omega (arith, e q, k.0)), h.0), clear_behind n g.upto z r rs gs (λ q. omega (arith, e q, k.0, k.1)) k.3 h.1)

-- what ends before r does is clear of all behind r
clear_before : (n : ℕ) (g : Gap) (r p : Range) → r.node ≡ n → g.upto ≤ r.end → Before r p → Clear n g p
clear_before n g r p e l b q = inl (omega (arith, b.apart (e ∙ sym q)))

module _ (t : Tree) (n z : ℕ) where
  pub gaps-rising : (rs : List Range) (a : ℕ) → All (Inside t) rs → Rising a z (gaps n rs a z)
  unfolding gaps All Rising
  gaps-rising [] a h = rising-piece _ a z (max a z) z [] refl (omega arith) (λ m. omega arith) tt
  gaps-rising (r ∷ rs) a h = go (eqb r.node n) (gaps-rising rs _ h.1)
    where
      go : (b : Bool) → Rising (behind b a r.end) z (gaps n rs (behind b a r.end) z)
          → Rising a z (piece (ltb a (gap_end b a r.start z)) a (gap_end b a r.start z) (gaps n rs (behind b a r.end) z))
      go true ih = rising-piece _ a _ (max a r.end) z _ refl (omega arith) (λ m. (omega arith, omega (arith, h.0.filled))) ih
      go false ih = rising-piece _ a a a z _ refl (omega arith) (λ m. absurd (omega arith)) ih

  pub gaps_clear : (rs : List Range) (a : ℕ) → All (Inside t) rs → Sorted rs → AllClear n rs (gaps n rs a z)
  unfolding gaps All InOrder
  gaps_clear [] a h s = clear_piece _ n a z [] [] refl (λ m. tt) tt
  gaps_clear (r ∷ rs) a h s = go (eqb r.node n) refl (gaps_clear rs _ h.1 s.1) (gaps-rising rs _ h.1)
    where
      go : (b : Bool) → eqb r.node n ≡ b → AllClear n rs (gaps n rs (behind b a r.end) z)
          → Rising (behind b a r.end) z (gaps n rs (behind b a r.end) z)
          → AllClear n (r ∷ rs) (piece (ltb a (gap_end b a r.start z)) a (gap_end b a r.start z) (gaps n rs (behind b a r.end) z))
      go true e ih k =
          clear_piece _ n a (min r.start z) (r ∷ rs) _ refl
          (λ m. (λ q. inl (omega arith), all_map (λ p. clear_before n _ r p (eqb-true _ _ e) (omega (arith, h.0.filled))) rs s.0))
          (clear_behind n (max a r.end) z r rs _ (λ q. omega arith) k ih)
      go false e ih k =
          clear_piece _ n a a (r ∷ rs) _ refl (λ m. absurd (omega arith)) (clear_behind n a z r rs _ (λ q. absurd (eqb-false _ _ e q)) k ih)

-- ---- one range put in

ahead_true : (g r : Range) → ahead g r ≡ true → (g.node ≤ r.node) × (g.node ≡ r.node → g.start ≤ r.start)
ahead_true g r = go (ltb g.node r.node) (eqb g.node r.node) (leb g.start r.start) refl refl refl
  where
    go : (x y z : Bool) → ltb g.node r.node ≡ x → eqb g.node r.node ≡ y → leb g.start r.start ≡ z → (x || (y && z)) ≡ true
        → (g.node ≤ r.node) × (g.node ≡ r.node → g.start ≤ r.start)
    go true y z p q s t = (omega (arith, ltb-true), λ e. absurd (omega (arith, ltb-true)))
    go false true true p q s t = (omega (arith, eqb-true), λ e. leb-true _ _ s)
    go false true false p q s t = absurd (false≢true t)
    go false false z p q s t = absurd (false≢true t)

ahead_false : (g r : Range) → ahead g r ≡ false → (r.node ≤ g.node) × (r.node ≡ g.node → r.start < g.start)
ahead_false g r = go (ltb g.node r.node) (eqb g.node r.node) (leb g.start r.start) refl refl refl
  where
    go : (x y z : Bool) → ltb g.node r.node ≡ x → eqb g.node r.node ≡ y → leb g.start r.start ≡ z → (x || (y && z)) ≡ false
        → (r.node ≤ g.node) × (r.node ≡ g.node → r.start < g.start)
    go true y z p q s t = absurd (true≢false t)
    go false true true p q s t = absurd (true≢false t)
    go false true false p q s t = (ltb-false _ _ p, λ e. leb-false _ _ s)
    go false false z p q s t = (ltb-false _ _ p, λ e. absurd (eqb-false _ _ q (sym e)))

-- g has no block that r has
abbrev pub Apart : Range → Range → Type 0
Apart g r = r.node ≡ g.node → (g.end ≤ r.start) ⊎ (r.end ≤ g.start)

module _ (g : Range) where
  pub insert_all : (P : Range → Type 0) (rs : List Range) → P g → All P rs → All P (insert g rs)
  unfolding insert All
  insert_all P [] p h = (p, tt)
  insert_all P (r ∷ rs) p h = go (ahead g r) (insert_all P rs p h.1)
    where
      go : (b : Bool) → All P (insert g rs) → All P (elim b [ true ↦ g ∷ r ∷ rs | false ↦ r ∷ insert g rs ])
      go true ih = (p, h)
      go false ih = (h.0, ih)

  pub insert_length : (rs : List Range) → length (insert g rs) ≡ suc (length rs)
  unfolding insert
  insert_length [] = refl
  insert_length (r ∷ rs) = go (ahead g r) (insert_length rs)
    where
      go : (b : Bool) → length (insert g rs) ≡ suc (length rs)
          → length {A = Range} (elim b [ true ↦ g ∷ r ∷ rs | false ↦ r ∷ insert g rs ]) ≡ suc (suc (length rs))
      go true ih = refl
      go false ih = ap suc ih

  -- a node that has nothing then had nothing before
  pub insert-on : (v : ℕ) (rs : List Range) → on_node v (insert g rs) ≡ false → on_node v rs ≡ false
  unfolding insert on_node
  insert-on v [] h = refl
  insert-on v (r ∷ rs) h = go (ahead g r) (insert-on v rs) h
    where
      behind_false : (x y : Bool) → (x || y) ≡ false → y ≡ false
      behind_false true y e = absurd (true≢false e)
      behind_false false y e = e

      under : (x : Bool) (y z : Bool) → (y ≡ false → z ≡ false) → (x || y) ≡ false → (x || z) ≡ false
      under true y z f e = e
      under false y z f e = f e

      go : (b : Bool) → (on_node v (insert g rs) ≡ false → on_node v rs ≡ false)
          → on_node v (elim b [ true ↦ g ∷ r ∷ rs | false ↦ r ∷ insert g rs ]) ≡ false → (eqb r.node v || on_node v rs) ≡ false
      go true ih e = behind_false (eqb g.node v) _ e
      go false ih e = under (eqb r.node v) _ _ ih e

  pub insert-distinct : (rs : List Range) → All (IdApart g) rs → Distinct rs → Distinct (insert g rs)
  unfolding insert All InOrder
  insert-distinct [] a h = (tt, tt)
  insert-distinct (r ∷ rs) a h = go (ahead g r) (insert-distinct rs a.1 h.1)
    where
      go : (b : Bool) → Distinct (insert g rs) → Distinct (elim b [ true ↦ g ∷ r ∷ rs | false ↦ r ∷ insert g rs ])
      go true ih = (a, h)
      go false ih = (insert_all (IdApart r) rs (λ e. a.0 (sym e)) h.0, ih)

  before-ahead : (r : Range) → r.start < r.end → Apart g r → ahead g r ≡ true → Before g r
  before-ahead r f a e =
      let p = ahead_true g r e in
      record { by_node = p.0; apart = λ q. ⊎_elim (λ l. l) (λ l. absurd (omega (arith, p.1 q))) (a (sym q)) }

  before-behind : (r : Range) → g.start < g.end → Apart g r → ahead g r ≡ false → Before r g
  before-behind r f a e =
      let p = ahead_false g r e in
      record { by_node = p.0; apart = λ q. ⊎_elim (λ l. absurd (omega (arith, p.1 q))) (λ l. l) (a q) }

  before_trans : (r q : Range) → r.start < r.end → Before g r → Before r q → Before g q
  before_trans r q f b c = record { by_node = omega arith; apart = λ e. omega (arith, b.apart (omega arith), c.apart (omega arith)) }

  pub insert-sorted : (t : Tree) (rs : List Range) → g.start < g.end → All (Apart g) rs → All (Inside t) rs → Sorted rs → Sorted (insert g rs)
  unfolding insert All InOrder
  insert-sorted t [] f a i h = (tt, tt)
  insert-sorted t (r ∷ rs) f a i h = go (ahead g r) refl (insert-sorted t rs f a.1 i.1 h.1)
    where
      go : (b : Bool) → ahead g r ≡ b → Sorted (insert g rs) → Sorted (elim b [ true ↦ g ∷ r ∷ rs | false ↦ r ∷ insert g rs ])
      go true e ih =
          let b = before-ahead r i.0.filled a.0 e in
          ((b, all_map (λ q. before_trans r q i.0.filled b) rs h.0), h)
      go false e ih = (insert_all (Before r) rs (before-behind r f a.0 e) h.0, ih)

-- ---- a range for each gap

module _ (n : ℕ) (time : Float) (write : ℕ) where
  -- gaps behind the new range stay clear
  clear_insert : (lo z : ℕ) (gs : List Gap) (f : Range) (rs : List Range) → f.end ≤ lo → Rising lo z gs → AllClear n rs gs → AllClear n (insert f rs) gs
  unfolding All Rising
  clear_insert lo z [] f rs l k h = tt
  clear_insert lo z (g ∷ gs) f rs l k h = (
    insert_all f (Clear n g) rs (λ q. inr (omega (arith, k.0))) h.0,
    clear_insert g.upto z gs f rs (omega (arith, k.0, k.1)) k.3 h.1,
  )

  pub fill_length : (gs : List Gap) (top next : ℕ) (rs : List Range) → length (fill n gs top next time write rs) ≡ length rs + length gs
  unfolding fill
  fill_length [] top next rs = omega arith
  fill_length (g ∷ gs) top next rs =
      let r = fresh n g (suc top) next time write in
      omega (arith, fill_length gs (suc top) (suc next) (insert r rs), insert_length r rs)

  pub fill-ids : (gs : List Gap) (top next : ℕ) (rs : List Range) → IdsFrom rs next (fill n gs top next time write rs)
  unfolding fill
  fill-ids [] top next rs = ids-same next rs
  fill-ids (g ∷ gs) top next rs =
      let r = fresh n g (suc top) next time write in
      ids_trans rs (insert r rs) _ next (suc next) (omega arith) (insert_all r _ rs (inr (le_refl next)) (ids-same next rs))
      (fill-ids gs (suc top) (suc next) (insert r rs))

  pub fill_on : (v : ℕ) (gs : List Gap) (top next : ℕ) (rs : List Range) → on_node v (fill n gs top next time write rs) ≡ false → on_node v rs ≡ false
  unfolding fill
  fill_on v [] top next rs h = h
  fill_on v (g ∷ gs) top next rs h =
      let r = fresh n g (suc top) next time write in
      insert-on r v rs (fill_on v gs (suc top) (suc next) (insert r rs) h)

  pub fill-marks : {t : Tree} (gs : List Gap) (top next : ℕ) (rs : List Range) (ms : List ℕ) → MarksSound t rs ms
      → MarksSound t (fill n gs top next time write rs) ms
  fill-marks gs top next rs ms h =
      record { long = h.long; none = λ v l o. h.none v l (fill_on v gs top next rs o); within = h.within }

  module _ (t : Tree) (z : ℕ) (in_use : n < t.nodes) (ends : z ≤ at t.len n) (finite : Finite time) where
    insert-sound : (g : Gap) (top next : ℕ) (rs : List Range) → g.from < g.upto → g.upto ≤ z → All (Clear n g) rs → 1 ≤ next
        → RangesSound t next top rs → RangesSound t (suc next) (suc top) (insert (fresh n g (suc top) next time write) rs)
    insert-sound g top next rs f m c l h =
        let r = fresh n g (suc top) next time write in
        record {
          sorted = insert-sorted r t rs f c h.inside h.sorted;
          inside = insert_all r (Inside t) rs (record { in_use = in_use; filled = f; ends = omega arith }) h.inside;
          distinct = insert-distinct r rs (all_map {Q = IdApart r} (λ q b e. omega (arith, b.high)) rs h.ids) h.distinct;
          ids = insert_all r (IdBetween (suc next)) rs (omega arith) (all_map (id_later (omega arith)) rs h.ids);
          stamps = insert_all r (StampBetween (suc top)) rs (omega arith) (all_map (stamp_later (omega arith)) rs h.stamps);
          times = insert_all r _ rs finite h.times;
        }

    pub fill-sound : (gs : List Gap) (lo top next : ℕ) (rs : List Range) → Rising lo z gs → AllClear n rs gs → 1 ≤ next → RangesSound t next top rs
        → RangesSound t (next + length gs) (top + length gs) (fill n gs top next time write rs)
    unfolding fill All Rising
    fill-sound [] lo top next rs k c l h = rw (add-zero next, add-zero top) h
    fill-sound (g ∷ gs) lo top next rs k c l h =
        let r = fresh n g (suc top) next time write in
        rw (add-suc next, ← suc-add next, add-suc top, ← suc-add top)
        (fill-sound gs g.upto (suc top) (suc next) (insert r rs) k.3 (clear_insert g.upto z gs r rs (le_refl g.upto) k.3 c.1)
        (omega arith) (insert-sound g top next rs k.1 k.2 c.0 l h))
