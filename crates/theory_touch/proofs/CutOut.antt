-- A removal leaves of each range the pieces outside the span, in order; so of the blocks held it leaves those that aren't in the span, and
-- those that stay and those that go are all that there were. Assumes nothing.
use Prim.Native.Nat.{ℕ, zero, suc, ◌+◌, ◌-◌, ◌≤◌, ◌<◌, min, max}
use mathlib.Core.Bool.{Bool, true, false, ◌&&◌, true≢false, false≢true}
use mathlib.Core.Path.{◌≡◌, refl, sym, ◌∙◌}
use mathlib.Core.Logic.{◌⊎◌, inl, inr, ⊎_elim, ◌↔◌}
use mathlib.Core.List.{List, [], ◌∷◌}
use native.Mathlib.Omega.{arith}
use native.Mathlib.Nat.{le_refl}
use native.Mathlib.Decide.{dec_le}
use lib.ListN.{length}
use lib.Dec.{ltb}
use borrow.Author.Tests.{ltb-true, ltb-false, lt-ltb}
use Rattle.model.specs.declared.Span.{Span}
use Rattle.model.specs.State.{Range}
use Rattle.model.specs.Sound.{Before}
use Rattle.model.specs.Store.{total, meets, part, put, plus}
use Rattle.model.specs.Touch.{overlapped, has_head, has_tail}
use Rattle.model.specs.Remove.{middle_cut, tail_id, remains, cut_out, middle_cuts, listed, writes, gone_blocks}
use Rattle.theory_sound.specs.Facts.{All, InOrder, Sorted}
use Rattle.theory_bring.proofs.Facts.{all_map}
use Rattle.theory_touch.proofs.Bools.{and_true, and_false, and_right}
use Rattle.model.specs.Blocks.{Filled, In, Holds, InSpan}
use Rattle.theory_touch.proofs.Holds.{holds_append}
use Rattle.theory_touch.proofs.Pieces.{Within, Pieces, Parted, none, more, Named, Cut, stop, cut}
use Rattle.theory_touch.proofs.Recut.{Met, met, met_true, cut_to}

-- ---- a range put in front or not

put_all : (P : Range → Type 0) (b : Bool) (p : Range) (ps : List Range) → (b ≡ true → P p) → All P ps → All P (put b p ps)
unfolding All
put_all P true p ps f k = (f refl, k)
put_all P false p ps f k = k

put-sorted : (b : Bool) (p : Range) (ps : List Range) → (b ≡ true → All (Before p) ps) → Sorted ps → Sorted (put b p ps)
unfolding InOrder
put-sorted true p ps f k = (f refl, k)
put-sorted false p ps f k = k

put_holds : (b : Bool) (p : Range) (ps : List Range) (n o : ℕ) → Holds (put b p ps) n o ↔ (((b ≡ true) × In n o p) ⊎ Holds ps n o)
unfolding Holds
put_holds true p ps n o = (⊎_elim (λ x. inl (refl, x)) (λ y. inr y), ⊎_elim (λ x. inl x.1) (λ y. inr y))
put_holds false p ps n o = (λ y. inr y, ⊎_elim (λ x. absurd (false≢true x.0)) (λ y. y))

-- the piece has the range's stamp and time
abbrev pub Told : Range → Range → Type 0
Told r p = (p.stamp ≡ r.stamp) × (p.touched ≡ r.touched)

module _ (sp : Span) where
  -- the pieces are what is left of the range
  pub record Left (r : Range) (ps : List Range) : Type 0 where
    pub pieces : Pieces r ps
    pub timed : All (Told r) ps
    pub holds : (n o : ℕ) → Holds ps n o ↔ (In n o r × (InSpan sp n o → ⊥))

  missed : (r : Range) → r.start < r.end → meets sp.node sp.start sp.end r ≡ false → Left r (r ∷ [])
  unfolding All InOrder Holds total
  missed r f e =
      record {
        pieces = record { within = (record { node = refl; low = le_refl _; filled = f; high = le_refl _ }, tt); sorted = (tt, tt) };
        timed = ((refl, refl), tt);
        holds = λ n o. (
          ⊎_elim (λ x. (
            x,
            λ y. true≢false (sym (met_true sp.node sp.start sp.end r
                (record { node = x.node ∙ y.node; left = omega arith; right = omega arith })) ∙ e),
          )) (λ x. absurd x),
          λ x. inl x.0,
        );
      }

  module _ (r : Range) (i : ℕ) where
    abbrev head : Range
    head = part r r.node r.start sp.start r.id

    abbrev tail : Range
    tail = part r r.node sp.end r.end i

    hit : (h g : Bool) → sp.start < sp.end → Filled r → Met sp.node sp.start sp.end r → ltb r.start sp.start ≡ h → ltb sp.end r.end ≡ g
        → Left r (put h head (put g tail []))
    unfolding All InOrder Holds
    hit h g az f m p q =
        record {
          pieces = record {
            within = put_all (Within r) h head (put g tail [])
                (λ e. record { node = refl; low = le_refl _; filled = ltb-true _ _ (p ∙ e); high = omega arith })
                (put_all (Within r) g tail [] (λ e. record { node = refl; low = omega arith; filled = ltb-true _ _ (q ∙ e); high = le_refl _ }) tt);
            sorted = put-sorted h head (put g tail []) (λ e. put_all (Before head) g tail [] (λ e. record { by_node = le_refl _; apart = λ e. omega arith }) tt)
                (put-sorted g tail [] (λ e. tt) tt);
          };
          timed = put_all (Told r) h head (put g tail []) (λ e. (refl, refl))
              (put_all (Told r) g tail [] (λ e. (refl, refl)) tt);
          holds = λ n o.
              let a = put_holds h head (put g tail []) n o in
              let b = put_holds g tail [] n o in (
                λ x. ⊎_elim
                    (λ y. let z = y.1 in (record { node = z.node; low = z.low; high = omega arith }, λ s. omega arith))
                    (λ y. ⊎_elim (λ w. let z = w.1 in (record { node = z.node; low = omega arith; high = z.high }, λ s. omega arith)) (λ w. absurd w)
                    (b.0 y))
                    (a.0 x),
                λ x. elim (dec_le sp.start o) [
                  | yes l ↦ elim (dec_le sp.end o) [
                    | yes u ↦ a.1 (inr (b.1 (inl (sym q ∙ lt-ltb sp.end r.end (omega arith), record { node = x.0.node; low = u; high = x.0.high }))))
                    | no u ↦ absurd (x.1 (record { node = sym x.0.node ∙ m.node; low = l; high = omega arith }))
                  ]
                  | no l ↦ a.1 (inl (sym p ∙ lt-ltb r.start sp.start (omega arith), record { node = x.0.node; low = x.0.low; high = omega arith }))
                ],
              );
        }

  pub out-cut : sp.start < sp.end → (rs : List Range) (next : ℕ) → All Filled rs
      → Cut Left next rs (cut_out sp.node sp.start sp.end next rs) (next + middle_cuts sp.node sp.start sp.end rs)
  unfolding cut_out middle_cuts All Named
  out-cut az [] next k = cut_to stop (omega arith)
  out-cut az (r ∷ rs) next k = go (meets n a z r) refl (λ i. out-cut az rs i k.1)
    where
      n : ℕ
      n = sp.node

      a : ℕ
      a = sp.start

      z : ℕ
      z = sp.end

      apart : (m : Bool) → m ≡ false → Left r (r ∷ []) → ((i : ℕ) → Cut Left i rs (cut_out n a z i rs) (i + middle_cuts n a z rs))
          → Cut Left next (r ∷ rs) (r ∷ cut_out n a z (plus m next) rs) (next + plus m (middle_cuts n a z rs))
      apart true e f c = absurd (true≢false e)
      apart false e f c = cut f (refl, refl) (c next)

      across : (h g : Bool) → Left r (put h (head r (tail_id (h && g) next r)) (put g (tail r (tail_id (h && g) next r)) []))
          → ((i : ℕ) → Cut Left i rs (cut_out n a z i rs) (i + middle_cuts n a z rs))
          → Cut Left next (r ∷ rs)
          (put h (head r (tail_id (h && g) next r)) (put g (tail r (tail_id (h && g) next r)) (cut_out n a z (plus (h && g) next) rs)))
          (next + plus (h && g) (middle_cuts n a z rs))
      across true true f c = cut_to (cut f (refl, (refl, refl)) (c (suc next))) (omega arith)
      across true false f c = cut f (refl, refl) (c next)
      across false true f c = cut f (refl, refl) (c next)
      across false false f c = cut f refl (c next)

      go : (b : Bool) → meets n a z r ≡ b → ((i : ℕ) → Cut Left i rs (cut_out n a z i rs) (i + middle_cuts n a z rs))
          → Cut Left next (r ∷ rs) (remains b n a z next r (cut_out n a z (plus (middle_cut n a z r) next) rs))
          (next + plus (middle_cut n a z r) (middle_cuts n a z rs))
      go true e c =
          across (has_head n a z r) (has_tail n a z r)
          (hit r (tail_id (middle_cut n a z r) next r) (has_head n a z r) (has_tail n a z r) az k.0 (met n a z r e)
          (and_right (meets n a z r) _ _ e refl) (and_right (meets n a z r) _ _ e refl)) c
      go false e c = apart (middle_cut n a z r) (and_false (has_head n a z r) (has_tail n a z r) (and_false (meets n a z r) _ e)) (missed r k.0 e) c

  pub out-holds : {rs qs : List Range} → Parted Left rs qs → (n o : ℕ) → Holds qs n o ↔ (Holds rs n o × (InSpan sp n o → ⊥))
  unfolding Holds
  out-holds none n o = (λ x. absurd x, λ x. x.0)
  out-holds (more {r = r} {ps = ps} {rs = rs} {qs = qs} f h) n o =
      let a = holds_append ps qs n o in
      let b = f.holds n o in
      let c = out-holds h n o in (
        λ x. ⊎_elim (λ y. let z = b.0 y in (inl z.0, z.1)) (λ y. let z = c.0 y in (inr z.0, z.1)) (a.0 x),
        λ x. ⊎_elim (λ y. a.1 (inl (b.1 (y, x.1)))) (λ y. a.1 (inr (c.1 (y, x.1)))) x.0,
      )

-- ---- the blocks that stay and those that go

-- a number where a test holds
abbrev plus_if : Bool → ℕ → ℕ
plus_if true k = k
plus_if false k = 0

piece-sum : (s e a z : ℕ) (h g : Bool) (x k t : ℕ) → s < e → a < z → s < z → a < e → ltb s a ≡ h → ltb z e ≡ g → x + k ≡ t
    → plus_if h (a - s) + (plus_if g (e - z) + x) + ((min z e - max a s) + k) ≡ (e - s) + t
piece-sum s e a z true true x k t f az p q u v ih = let l = ltb-true s a u in let m = ltb-true z e v in omega arith
piece-sum s e a z true false x k t f az p q u v ih = let l = ltb-true s a u in let m = ltb-false z e v in omega arith
piece-sum s e a z false true x k t f az p q u v ih = let l = ltb-false s a u in let m = ltb-true z e v in omega arith
piece-sum s e a z false false x k t f az p q u v ih = let l = ltb-false s a u in let m = ltb-false z e v in omega arith

put-total : (h : Bool) (p : Range) (rs : List Range) → total (put h p rs) ≡ plus_if h (p.end - p.start) + total rs
unfolding total
put-total true p rs = refl
put-total false p rs = omega arith

pub out-total : (v a z : ℕ) → a < z → (rs : List Range) → All Filled rs → (next : ℕ)
    → total (cut_out v a z next rs) + gone_blocks a z (overlapped v a z rs) ≡ total rs
unfolding cut_out overlapped total gone_blocks All
out-total v a z az [] k next = refl
out-total v a z az (r ∷ rs) k next = go (meets v a z r) refl (λ i. out-total v a z az rs k.1 i)
  where
    go : (b : Bool) → meets v a z r ≡ b → ((i : ℕ) → total (cut_out v a z i rs) + gone_blocks a z (overlapped v a z rs) ≡ total rs)
        → total (remains b v a z next r (cut_out v a z (plus (middle_cut v a z r) next) rs)) + gone_blocks a z (put b r (overlapped v a z rs))
        ≡ (r.end - r.start) + total rs
    go false e ih = omega (arith, ih (plus (middle_cut v a z r) next))
    go true e ih =
        let m = met v a z r e in
        let i = plus (middle_cut v a z r) next in
        let head = part r r.node r.start a r.id in
        let tail = part r r.node z r.end (tail_id (middle_cut v a z r) next r) in
        let p = put-total (has_head v a z r) head (put (has_tail v a z r) tail (cut_out v a z i rs)) in
        let q = put-total (has_tail v a z r) tail (cut_out v a z i rs) in
        let w = piece-sum r.start r.end a z (has_head v a z r) (has_tail v a z r) (total (cut_out v a z i rs)) (gone_blocks a z (overlapped v a z rs))
        (total rs) k.0 az m.left m.right (and_right (meets v a z r) _ _ e refl) (and_right (meets v a z r) _ _ e refl) (ih i) in
        omega (arith, p, q, w)

-- a span that overlaps nothing has no block that is held
pub no_hit : (sp : Span) (rs : List Range) → overlapped sp.node sp.start sp.end rs ≡ [] → (n o : ℕ) → Holds rs n o → InSpan sp n o → ⊥
unfolding overlapped Holds
no_hit sp [] e n o h i = h
no_hit sp (r ∷ rs) e n o h i = go (meets sp.node sp.start sp.end r) refl e (λ k x. no_hit sp rs k n o x i) h
  where
    go : (b : Bool) → meets sp.node sp.start sp.end r ≡ b → put b r (overlapped sp.node sp.start sp.end rs) ≡ []
        → (overlapped sp.node sp.start sp.end rs ≡ [] → Holds rs n o → ⊥) → In n o r ⊎ Holds rs n o → ⊥
    go true p q ih x = let z : ◌≡◌ {A = ℕ} 0 1 = cc in omega arith
    go false p q ih (inl x) =
        true≢false (sym (met_true sp.node sp.start sp.end r (record { node = x.node ∙ i.node; left = omega arith; right = omega arith })) ∙ p)
    go false p q ih (inr x) = ih q x

-- ---- how many: one range at most reaches past both ends, and there are no more writes than ranges

module _ (n a z : ℕ) where
  past-both : (r : Range) → middle_cut n a z r ≡ true → (r.node ≡ n) × (r.start < a) × (z < r.end)
  past-both r e =
      let x = and_true (has_head n a z r) (has_tail n a z r) e in
      let h = and_true (meets n a z r) (ltb r.start a) x.0 in
      let g = and_true (meets n a z r) (ltb z r.end) x.1 in
      ((met n a z r h.0).node, ltb-true r.start a h.1, ltb-true z r.end g.1)

  no_middle : a < z → (rs : List Range) → All (λ r. r.node ≡ n → z ≤ r.start) rs → middle_cuts n a z rs ≡ 0
  unfolding middle_cuts All
  no_middle az [] k = refl
  no_middle az (r ∷ rs) k = go (middle_cut n a z r) refl (no_middle az rs k.1)
    where
      go : (b : Bool) → middle_cut n a z r ≡ b → middle_cuts n a z rs ≡ 0 → plus b (middle_cuts n a z rs) ≡ 0
      go true e ih = let x = past-both r e in absurd (omega (arith, k.0 x.0))
      go false e ih = ih

  pub one-middle : a < z → (rs : List Range) → Sorted rs → middle_cuts n a z rs ≤ 1
  unfolding middle_cuts InOrder
  one-middle az [] k = omega arith
  one-middle az (r ∷ rs) k = go (middle_cut n a z r) refl (one-middle az rs k.1)
    where
      go : (b : Bool) → middle_cut n a z r ≡ b → middle_cuts n a z rs ≤ 1 → plus b (middle_cuts n a z rs) ≤ 1
      go true e ih =
          let x = past-both r e in
          let none = all_map {Q = λ q. q.node ≡ n → z ≤ q.start} (λ q (b : Before r q) (i : q.node ≡ n). omega (arith, b.apart (omega arith))) rs k.0 in
          omega (arith, no_middle az rs none)
      go false e ih = ih

  pub few-hits : (rs : List Range) → length (overlapped n a z rs) ≤ length rs
  unfolding overlapped
  few-hits [] = omega arith
  few-hits (r ∷ rs) = go (meets n a z r) (few-hits rs)
    where
      go : (b : Bool) → length (overlapped n a z rs) ≤ length rs → length (put b r (overlapped n a z rs)) ≤ suc (length rs)
      go true ih = omega arith
      go false ih = omega arith

pub few-writes : (rs : List Range) → length (writes rs) ≤ length rs
unfolding writes
few-writes [] = omega arith
few-writes (r ∷ rs) = go r.write (few-writes rs)
  where
    go : (i : ℕ) → length (writes rs) ≤ length rs → length (listed i (writes rs)) ≤ suc (length rs)
    go zero ih = omega arith
    go (suc i) ih = omega arith
