-- A touch restamps ranges, or cuts them into head, middle and tail and joins what touches: the lists before and after are one another's pieces, so that
-- what a touch leaves is sound and holds the same blocks. Assumes nothing.
use Prim.Native.Nat.{ℕ, suc, ◌+◌, ◌≤◌, ◌<◌}
use mathlib.Core.Bool.{Bool, true, false, not, ◌&&◌}
use mathlib.Core.Path.{◌≡◌, refl, sym, subst, ◌∙◌}
use mathlib.Core.Logic.{◌⊎◌, inl, inr, ⊎_elim, ◌↔◌}
use mathlib.Core.List.{List, [], ◌∷◌, ◌++◌, append_assoc}
use native.Mathlib.Omega.{arith}
use lib.ListN.{length}
use lib.Dec.{ltb, eqb}
use lib.Ieee.{Float}
use borrow.Author.Tests.{ltb-true, ltb-false, eqb-true, eq-eqb, lt-ltb}
use Rattle.model.specs.State.{Tree, Range}
use Rattle.model.specs.Sound.{StampBetween, Finite}
use Rattle.model.specs.Store.{total, on_node, meets, part, put, plus}
use Rattle.model.specs.Touch.{overlapped, renewed, restamp, middle, recut, new_pieces, joins, join_from, join}
use Rattle.theory_sound.specs.Facts.{All, IdsFrom}
use Rattle.theory_sound.specs.StoreSound.{RangesSound}
use Rattle.theory_bring.proofs.Facts.{all_map, Thinned, done, kept, gone, thin_all, thin_order, thin_length}
use Rattle.theory_touch.proofs.Bools.{and_true, or_right}
use Rattle.model.specs.Blocks.{Filled, Holds}
use Rattle.theory_touch.proofs.Pieces.{Chain, Whole, whole-pieces, chain_append, Parted, none, more, parted_map, parted_all, parted_inside, parted_sorted, whole-holds, whole-total, joined_inside, joined_sorted, Named, Cut, stop, cut, cut_parted, cut_length, cut-ids, cut_below, cut-distinct}

-- the range has blocks of the span
pub record Met (n a z : ℕ) (r : Range) : Type 0 where
  pub node : r.node ≡ n
  pub left : r.start < z
  pub right : a < r.end

pub met : (n a z : ℕ) (r : Range) → meets n a z r ≡ true → Met n a z r
met n a z r e =
    let x = and_true _ _ e in
    let y = and_true _ _ x.1 in
    record { node = eqb-true _ _ x.0; left = ltb-true _ _ y.0; right = ltb-true _ _ y.1 }

pub met_true : (n a z : ℕ) (r : Range) → Met n a z r → meets n a z r ≡ true
met_true n a z r m = rw (eq-eqb r.node n m.node, lt-ltb r.start z m.left, lt-ltb a r.end m.right)

-- a span that overlaps something is of a node with ranges
pub hit-node : (n a z : ℕ) (rs : List Range) (r : Range) (hits : List Range) → overlapped n a z rs ≡ r ∷ hits → on_node n rs ≡ true
unfolding overlapped on_node
hit-node n a z [] r hits e = let z : ◌≡◌ {A = ℕ} 0 1 = cc in absurd (omega arith)
hit-node n a z (q ∷ qs) r hits e = go (meets n a z q) refl e (hit-node n a z qs r hits)
  where
    go : (b : Bool) → meets n a z q ≡ b → put b q (overlapped n a z qs) ≡ r ∷ hits → (overlapped n a z qs ≡ r ∷ hits → on_node n qs ≡ true)
        → on_node n (q ∷ qs) ≡ true
    go true p i ih = rw (eq-eqb q.node n (met n a z q p).node)
    go false p i ih = or_right (eqb q.node n) (on_node n qs) (ih i)

pub cut_to : {S : Range → List Range → Type 0} {next later late : ℕ} {rs qs : List Range} → Cut S next rs qs later → later ≡ late → Cut S next rs qs late
cut_to {S} {next} {rs = rs} {qs = qs} c e = subst (λ i. Cut S next rs qs i) e c

-- ---- cutting

module _ (stamp : ℕ) (time : Float) where
  -- the piece has the range's stamp and time, or the new ones
  abbrev pub Timed : Range → Range → Type 0
  Timed r p = ((p.stamp ≡ r.stamp) × (p.touched ≡ r.touched)) ⊎ ((p.stamp ≡ stamp) × (p.touched ≡ time))

  -- the pieces of a touched range
  pub record Split (r : Range) (ps : List Range) : Type 0 where
    pub whole : Whole r ps
    pub timed : All (Timed r) ps

  splits : {r : Range} {ps : List Range} → Filled r → Chain r.node r.start ps r.end → All (Timed r) ps → Split r ps
  splits f c t = record { whole = record { filled = f; chain = c }; timed = t }

  uncut : (r : Range) → Filled r → Split r (r ∷ [])
  unfolding Chain All
  uncut r f = splits f (refl, refl, f, refl) (inl (refl, refl), tt)

  module _ (n a z : ℕ) where
    pub restamp-cut : (rs : List Range) (next : ℕ) → All Filled rs → Cut Split next rs (restamp n a z stamp time rs) next
    unfolding restamp All Named Chain
    restamp-cut [] next k = stop
    restamp-cut (r ∷ rs) next k = go (meets n a z r) (restamp-cut rs next k.1)
      where
        go : (b : Bool) → Cut Split next rs (restamp n a z stamp time rs) next
            → Cut Split next (r ∷ rs) (elim b [ true ↦ renewed r r.start r.end r.id stamp time | false ↦ r ] ∷ restamp n a z stamp time rs) next
        go true c =
            cut {ps = renewed r r.start r.end r.id stamp time ∷ []} (splits k.0 (refl, refl, k.0, refl) (inr (refl, refl), tt))
            (refl, refl) c
        go false c = cut (uncut r k.0) (refl, refl) c

    pub recut-cut : a < z → (rs : List Range) (next : ℕ) → All Filled rs → Cut Split next rs (recut n a z stamp time next rs) (next + new_pieces n a z rs)
    unfolding recut new_pieces All Named Chain
    recut-cut az [] next k = cut_to stop (omega arith)
    recut-cut az (r ∷ rs) next k = go (meets n a z r) (ltb r.start a) (ltb z r.end) refl refl refl (λ i. recut-cut az rs i k.1)
      where
        go : (b h g : Bool) → meets n a z r ≡ b → ltb r.start a ≡ h → ltb z r.end ≡ g
            → ((i : ℕ) → Cut Split i rs (recut n a z stamp time i rs) (i + new_pieces n a z rs))
            → Cut Split next (r ∷ rs)
            (put (b && h) (part r r.node r.start a r.id)
            (middle b r a z (elim (b && h) [ true ↦ next | false ↦ r.id ]) stamp time
            ∷ put (b && g) (part r r.node z r.end (plus (b && h) next)) (recut n a z stamp time (plus (b && g) (plus (b && h) next)) rs)))
            (next + plus (b && g) (plus (b && h) (new_pieces n a z rs)))
        go false h g p q s c = cut (uncut r k.0) (refl, refl) (c next)
        go true true true p q s c =
            let m = met n a z r p in
            let l = ltb-true r.start a q in
            let u = ltb-true z r.end s in
            cut_to
            (cut
            {ps = part r r.node r.start a r.id ∷ middle true r a z next stamp time ∷ part r r.node z r.end (suc next) ∷ []}
            (splits k.0 (refl, refl, l, (refl, omega arith, omega arith, (refl, omega arith, omega arith, refl)))
            (inl (refl, refl), (inr (refl, refl), (inl (refl, refl), tt))))
            (refl, (refl, (refl, refl))) (c (suc (suc next))))
            (omega arith)
        go true true false p q s c =
            let m = met n a z r p in
            let l = ltb-true r.start a q in
            let u = ltb-false z r.end s in
            cut_to
            (cut
            {ps = part r r.node r.start a r.id ∷ middle true r a z next stamp time ∷ []}
            (splits k.0 (refl, refl, l, (refl, omega arith, omega arith, omega arith)) (inl (refl, refl), (inr (refl, refl), tt)))
            (refl, (refl, refl)) (c (suc next)))
            (omega arith)
        go true false true p q s c =
            let m = met n a z r p in
            let l = ltb-false r.start a q in
            let u = ltb-true z r.end s in
            cut_to
            (cut
            {ps = middle true r a z r.id stamp time ∷ part r r.node z r.end next ∷ []}
            (splits k.0 (refl, omega arith, omega arith, (refl, omega arith, omega arith, refl)) (inr (refl, refl), (inl (refl, refl), tt)))
            (refl, (refl, refl)) (c (suc next)))
            (omega arith)
        go true false false p q s c =
            let m = met n a z r p in
            let l = ltb-false r.start a q in
            let u = ltb-false z r.end s in
            cut
            {ps = middle true r a z r.id stamp time ∷ []}
            (splits k.0 (refl, omega arith, omega arith, omega arith) (inr (refl, refl), tt))
            (refl, refl) (c next)

-- ---- joining

-- the two have one id, stamp and time
record Alike (q r : Range) : Type 0 where
  id : q.id ≡ r.id
  stamp : q.stamp ≡ r.stamp
  touched : q.touched ≡ r.touched

alike : (r : Range) → Alike r r
alike r = record { id = refl; stamp = refl; touched = refl }

record Joined (r q : Range) : Type 0 where
  node : r.node ≡ q.node
  meet : r.end ≡ q.start

joins_true : (n : ℕ) (r q : Range) → joins n r q ≡ true → Joined r q
joins_true n r q e =
    let x = and_true _ _ e in
    let y = and_true _ _ x.1 in
    let w = and_true _ _ y.1 in
    record { node = eqb-true _ _ x.0 ∙ sym (eqb-true _ _ y.0); meet = eqb-true _ _ w.0 }

-- what is joined is made of the pieces
from-whole : (n : ℕ) (r : Range) (ps rs : List Range) → Whole r ps → All Filled rs → Parted Whole (join_from n r rs) (ps ++ rs)
unfolding join_from All Chain
from-whole n r ps [] w k = more w none
from-whole n r ps (q ∷ qs) w k = go (joins n r q) refl (λ r' us v. from-whole n r' us qs v k.1)
  where
    go : (j : Bool) → joins n r q ≡ j → ((r' : Range) (us : List Range) → Whole r' us → Parted Whole (join_from n r' qs) (us ++ qs))
        → Parted Whole (put (not j) r (join_from n (elim j [ true ↦ part r r.node r.start q.end r.id | false ↦ q ]) qs)) (ps ++ (q ∷ qs))
    go true e ih =
        let x = joins_true n r q e in
        rw append_assoc at (ih (part r r.node r.start q.end r.id) (ps ++ (q ∷ []))
        (record {
          filled = omega (arith, w.filled, k.0);
          chain = chain_append r.node r.start r.end q.end ps (q ∷ []) w.chain (sym x.node, sym x.meet, omega (arith, k.0), refl);
        }))
    go false e ih = more w (ih q (q ∷ []) (record { filled = k.0; chain = (refl, refl, k.0, refl) }))

join-whole : (n : ℕ) (rs : List Range) → All Filled rs → Parted Whole (join n rs) rs
unfolding join All Chain
join-whole n [] k = none
join-whole n (r ∷ rs) k = from-whole n r (r ∷ []) rs (record { filled = k.0; chain = (refl, refl, k.0, refl) }) k.1

-- and has the id, stamp and time of the first of them
skip : {S : Range → Range → Type 0} {xs ys : List Range} {y w : Range} → Thinned S xs (y ∷ ys) → Thinned S xs (y ∷ w ∷ ys)
skip (kept s t) = kept s (gone t)
skip (gone t) = gone (gone t)

from-alike : (n : ℕ) (r first : Range) (rs : List Range) → Alike r first → Thinned Alike (join_from n r rs) (first ∷ rs)
unfolding join_from
from-alike n r first [] s = kept s done
from-alike n r first (q ∷ qs) s = go (joins n r q) (λ r' f t. from-alike n r' f qs t)
  where
    go : (j : Bool) → ((r' f : Range) → Alike r' f → Thinned Alike (join_from n r' qs) (f ∷ qs))
        → Thinned Alike (put (not j) r (join_from n (elim j [ true ↦ part r r.node r.start q.end r.id | false ↦ q ]) qs)) (first ∷ q ∷ qs)
    go true ih = skip (ih (part r r.node r.start q.end r.id) first (record { id = s.id; stamp = s.stamp; touched = s.touched }))
    go false ih = kept s (ih q q (alike q))

join-alike : (n : ℕ) (rs : List Range) → Thinned Alike (join n rs) rs
unfolding join
join-alike n [] = done
join-alike n (r ∷ rs) = from-alike n r r rs (alike r)

-- ---- what a touch leaves

-- the ranges qs in the place of rs, with ids up to `later`
pub record Retold (t : Tree) (next later top : ℕ) (rs qs : List Range) : Type 0 where
  pub sound : RangesSound t later top qs
  pub ids : IdsFrom rs next qs
  pub few : length qs + next ≤ length rs + later
  pub total : total qs ≡ total rs
  pub holds : (n o : ℕ) → Holds qs n o ↔ Holds rs n o

module _ {t : Tree} {next later top stamp : ℕ} {time : Float} {rs qs : List Range} (c : Cut (Split stamp time) next rs qs later) where
  pub cut_retold : 1 ≤ next → top ≤ stamp → 1 ≤ stamp → Finite time → RangesSound t next top rs → Retold t next later stamp rs qs
  cut_retold l u v f h =
      let p = cut_parted c in
      let w = parted_map (λ r ps s. s.whole) p in
      record {
        sound = record {
          sorted = parted_sorted whole-pieces w h.sorted;
          inside = parted_inside whole-pieces t w h.inside;
          distinct = cut-distinct c h.ids h.distinct;
          ids = cut_below c l h.ids;
          stamps = parted_all (StampBetween stamp)
              (λ r ps s (k : StampBetween top r). all_map (λ q. ⊎_elim (λ e. omega arith) (λ e. omega arith)) ps s.timed) p h.stamps;
          times = parted_all (λ r. Finite r.touched)
              (λ r ps s k. all_map (λ q. ⊎_elim (λ e. rw e.1 k) (λ e. rw e.1 f)) ps s.timed) p h.times;
        };
        ids = cut-ids c;
        few = (cut_length c).1;
        total = whole-total w;
        holds = whole-holds w;
      }

module _ {t : Tree} {next later top : ℕ} {rs qs : List Range} where
  pub join_retold : (n : ℕ) → Retold t next later top rs qs → Retold t next later top rs (join n qs)
  join_retold n h =
      let k = h.sound in
      let w = join-whole n qs (all_map (λ r i. i.filled) qs k.inside) in
      let a = join-alike n qs in
      record {
        sound = record {
          sorted = joined_sorted w k.sorted;
          inside = joined_inside t w k.inside;
          distinct = thin_order (λ x y x' y' s s' d e. d (sym s.id ∙ e ∙ s'.id)) a k.distinct;
          ids = thin_all (λ x y s b. record { low = rw s.id b.low; high = rw s.id b.high }) a k.ids;
          stamps = thin_all (λ x y s b. record { low = rw s.stamp b.low; high = rw s.stamp b.high }) a k.stamps;
          times = thin_all (λ x y s f. rw s.touched f) a k.times;
        };
        ids = thin_all (λ x y s f. rw s.id f) a h.ids;
        few = omega (arith, h.few, thin_length a);
        total = sym (whole-total w) ∙ h.total;
        holds = λ m o. let x = whole-holds w m o in let y = h.holds m o in (λ z. y.0 (x.1 z), λ z. x.0 (y.1 z));
      }
