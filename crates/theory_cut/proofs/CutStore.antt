-- A store's half of a cut: each range goes to the head's side, to the tail's or, cut in two, to both. So the ranges stay in order, inside their nodes and of
-- one total, the pins of one sum, and the store stays sound on the tree that was cut. Assumes nothing.
use Prim.Native.Nat.{ℕ, suc, ◌+◌, ◌-◌, ◌*◌, ◌≤◌, ◌<◌, min}
use mathlib.Core.Path.{◌≡◌, refl, sym, ap, subst, ◌∙◌}
use mathlib.Core.Logic.{◌⊎◌, inl, inr, ◌≢◌}
use mathlib.Core.Bool.{Bool, true, false, not, ◌&&◌, ◌||◌}
use mathlib.Core.List.{List, [], ◌∷◌, ◌++◌}
use native.Mathlib.Omega.{arith}
use native.Mathlib.Nat.{add-mul}
use native.Mathlib.Decide.{ℕ_discrete}
use lib.ListN.{length, set, length-set, length-append}
use lib.Seq.{get_or-set_same, get_or-set_other}
use lib.Dec.{ltb, eqb}
use borrow.Author.Tests.{lt-ltb}
use Rattle.model.specs.Words.{Says, Each}
use Rattle.model.specs.Sizes.{max_nodes, store_records, store_pins}
use Rattle.model.specs.State.{Tree, Range, Pin, at, changed}
use Rattle.model.specs.Sound.{Before, Inside, IdBetween, StampBetween, Finite, PinInside}
use Rattle.model.specs.Store.{Store, total, on_node, put, plus}
use Rattle.model.specs.Pins.{counted, add_pin, pinned_in}
use Rattle.model.specs.Insert.{next_node, across, beyond, head, heads, tail, tails, placed, ranges_across, pin_across, put_pin, pin_head, pin_tail, pin_pieces, cut_pins, pins_across, if_held, cut_marks, cut_store, cut_tree}
use Rattle.theory_refuse.proofs.Says.{lt_sure, eq_sure}
use Rattle.theory_sound.specs.Facts.{All, InOrder, Sorted, PinsSorted, IdApart, Distinct, ApartFrom, HasId, IdsFrom}
use Rattle.theory_sound.specs.StoreSound.{TreeSound, RangesSound, MarksSound, StoreSound}
use Rattle.theory_lay.proofs.Rows.{total_append}
use Rattle.theory_bring.proofs.Facts.{all_map, all_both, all_append, all_left, order_append, Thinned, done, kept, gone, thin_all, thin_order, has_each}
use Rattle.theory_cut.proofs.Facts.{each_more, off-node, node-off}
use Rattle.theory_cut.proofs.Pins.{add-all, add-sorted, add-pinned, add-few}
use Rattle.theory_cut.proofs.CutTree.{CutTo, cut_to}

-- ---- on which sides of the cut a range is

data Sides (j k : ℕ) (r : Range) : Bool → Bool → Type 0 where
  left : (r.node ≡ j → r.end ≤ k) → Sides j k r false false
  both : r.node ≡ j → r.start < k → k < r.end → Sides j k r true true
  right : r.node ≡ j → k ≤ r.start → k < r.end → Sides j k r false true

sides : (j k : ℕ) (r : Range) → Sides j k r (across j k r) (beyond j k r)
sides j k r =
    go (eqb r.node j) (ltb r.start k) (ltb k r.end) (eq_sure r.node j).says (lt_sure r.start k).says (lt_sure k r.end).says
  where
    go : (a b c : Bool) → Says a (r.node ≡ j) → Says b (r.start < k) → Says c (k < r.end) → Sides j k r (a && (b && c)) (a && c)
    go false b c A B C = left (λ e. absurd (A e))
    go true true true A B C = both A B C
    go true true false A B C = left (λ e. omega arith)
    go true false true A B C = right A (omega arith) C
    go true false false A B C = left (λ e. omega arith)

-- ---- a head and a tail, each of its range

record HeadOf (j k : ℕ) (x y : Range) : Type 0 where
  node : x.node ≡ y.node
  start : x.start ≡ y.start
  end : x.end ≤ y.end
  filled : y.start < y.end → x.start < x.end
  low : x.node ≡ j → x.end ≤ k
  id : x.id ≡ y.id
  stamp : x.stamp ≡ y.stamp
  touched : x.touched ≡ y.touched

record TailOf (j k m : ℕ) (x y : Range) : Type 0 where
  node : x.node ≡ m
  on : y.node ≡ j
  start : x.start ≡ y.start - k
  end : x.end ≡ y.end - k
  high : k < y.end
  stamp : x.stamp ≡ y.stamp
  touched : x.touched ≡ y.touched

module _ (j k : ℕ) where
  heads-of : (rs : List Range) → Thinned (HeadOf j k) (heads j k rs) rs
  unfolding heads
  heads-of [] = done
  heads-of (r ∷ rs) = go (sides j k r) (heads-of rs)
    where
      go : {a b : Bool} → Sides j k r a b → Thinned (HeadOf j k) (heads j k rs) rs
          → Thinned (HeadOf j k) (put (a || not b) (head a k r) (heads j k rs)) (r ∷ rs)
      go (left h) ih =
          kept {x = r} {y = r}
          (record { node = refl; start = refl; end = omega arith; filled = λ f. f; low = h; id = refl; stamp = refl; touched = refl }) ih
      go (both n s e) ih =
          kept {x = head true k r} {y = r}
          (record { node = refl; start = refl; end = omega arith; filled = λ f. s; low = λ q. omega arith; id = refl; stamp = refl; touched = refl }) ih
      go (right n s e) ih = gone ih

  tails-of : (m next : ℕ) (rs : List Range) → Thinned (TailOf j k m) (tails j k m next rs) rs
  unfolding tails
  tails-of m next [] = done
  tails-of m next (r ∷ rs) = go (sides j k r) (λ n. tails-of m n rs)
    where
      go : {a b : Bool} → Sides j k r a b → ((n : ℕ) → Thinned (TailOf j k m) (tails j k m n rs) rs)
          → Thinned (TailOf j k m) (put b (tail a k m next r) (tails j k m (plus a next) rs)) (r ∷ rs)
      go (left h) ih = gone (ih next)
      go (both n s e) ih =
          kept {x = tail true k m next r} {y = r}
          (record { node = refl; on = n; start = omega arith; end = refl; high = e; stamp = refl; touched = refl }) (ih (suc next))
      go (right n s e) ih =
          kept {x = tail false k m next r} {y = r}
          (record { node = refl; on = n; start = refl; end = refl; high = e; stamp = refl; touched = refl }) (ih next)

  -- ---- counted and summed up

  parts-total : (m next : ℕ) (rs : List Range) → total (heads j k rs) + total (tails j k m next rs) ≡ total rs
  unfolding heads tails total
  parts-total m next [] = refl
  parts-total m next (r ∷ rs) = go (sides j k r) (λ n. parts-total m n rs)
    where
      go : {a b : Bool} → Sides j k r a b → ((n : ℕ) → total (heads j k rs) + total (tails j k m n rs) ≡ total rs)
          → total (put (a || not b) (head a k r) (heads j k rs)) + total (put b (tail a k m next r) (tails j k m (plus a next) rs))
          ≡ (r.end - r.start) + total rs
      go (left h) ih = omega (arith, ih next)
      go (both n s e) ih = omega (arith, ih (suc next))
      go (right n s e) ih = omega (arith, ih next)

  parts_length : (m next : ℕ) (rs : List Range) → length (heads j k rs) + length (tails j k m next rs) ≡ length rs + ranges_across j k rs
  unfolding heads tails ranges_across
  parts_length m next [] = refl
  parts_length m next (r ∷ rs) = go (sides j k r) (λ n. parts_length m n rs)
    where
      go : {a b : Bool} → Sides j k r a b
          → ((n : ℕ) → length (heads j k rs) + length (tails j k m n rs) ≡ length rs + ranges_across j k rs)
          → length (put (a || not b) (head a k r) (heads j k rs)) + length (put b (tail a k m next r) (tails j k m (plus a next) rs))
          ≡ suc (length rs) + plus a (ranges_across j k rs)
      go (left h) ih = omega (arith, ih next)
      go (both n s e) ih = omega (arith, ih (suc next))
      go (right n s e) ih = omega (arith, ih next)

  -- ---- ids: a head keeps its range's, a tail keeps it or has one of the new ones

  heads-id : (P : ℕ → Type 0) (rs : List Range) → All (λ r. P r.id) rs → All (λ r. P r.id) (heads j k rs)
  heads-id P rs = thin_all (λ x y (h : HeadOf j k x y). subst P (sym h.id)) (heads-of rs)

  tails-id : (m : ℕ) (P : ℕ → Type 0) (next : ℕ) (rs : List Range) → Each next (next + ranges_across j k rs) P → All (λ r. P r.id) rs
      → All (λ r. P r.id) (tails j k m next rs)
  unfolding All tails ranges_across
  tails-id m P next [] new h = tt
  tails-id m P next (r ∷ rs) new h = go (sides j k r) new (λ n f. tails-id m P n rs f h.1)
    where
      go : {a b : Bool} → Sides j k r a b → Each next (next + plus a (ranges_across j k rs)) P
          → ((n : ℕ) → Each n (n + ranges_across j k rs) P → All (λ q. P q.id) (tails j k m n rs))
          → All (λ q. P q.id) (put b (tail a k m next r) (tails j k m (plus a next) rs))
      go (left q) f ih = ih next f
      go (both n s e) f ih = (f next (omega arith) (omega arith), ih (suc next) (λ i a b. f i (omega arith) (omega arith)))
      go (right n s e) f ih = (h.0, ih next f)

  module _ (m : ℕ) where
    -- an id below the next one, of none of the ranges, is no tail's
    not_a-tail : (i next : ℕ) (rs : List Range) → i < next → All (λ r. i ≡ r.id → ⊥) rs → All (λ r. i ≡ r.id → ⊥) (tails j k m next rs)
    not_a-tail i next rs l = tails-id m (λ n. i ≡ n → ⊥) next rs (λ n a b e. omega arith)

    below_later : {next later : ℕ} (rs : List Range) → next ≤ later → All (λ r. r.id < next) rs → All (λ r. r.id < later) rs
    below_later {next} {later} rs l = all_map (λ r (h : r.id < next). omega arith) rs

    fresh : (next : ℕ) (rs : List Range) → All (λ r. r.id < next) rs → All (λ r. next ≡ r.id → ⊥) rs
    fresh next rs = all_map {Q = λ r. next ≡ r.id → ⊥} (λ r (h : r.id < next) (e : next ≡ r.id). omega arith) rs

    apart_cons : (hs qs : List Range) (q : Range) → All (λ h. h.id ≡ q.id → ⊥) hs → ApartFrom hs qs → ApartFrom hs (q ∷ qs)
    unfolding All
    apart_cons hs qs q = all_both (λ h a b. (a, b)) hs

    tails-distinct : (next : ℕ) (rs : List Range) → All (λ r. r.id < next) rs → Distinct rs → Distinct (tails j k m next rs)
    unfolding All InOrder tails
    tails-distinct next [] low h = tt
    tails-distinct next (r ∷ rs) low h = go (sides j k r) (λ n l. tails-distinct n rs (below_later rs l low.1) h.1)
      where
        go : {a b : Bool} → Sides j k r a b → ((n : ℕ) → next ≤ n → Distinct (tails j k m n rs))
            → Distinct (put b (tail a k m next r) (tails j k m (plus a next) rs))
        go (left q) ih = ih next (omega arith)
        go (both n s e) ih = (not_a-tail next (suc next) rs (omega arith) (fresh next rs low.1), ih (suc next) (omega arith))
        go (right n s e) ih = (not_a-tail r.id next rs low.0 h.0, ih next (omega arith))

    parts-apart : (next : ℕ) (rs : List Range) → All (λ r. r.id < next) rs → Distinct rs → ApartFrom (heads j k rs) (tails j k m next rs)
    unfolding All InOrder heads tails
    parts-apart next [] low h = tt
    parts-apart next (r ∷ rs) low h = go (sides j k r) (λ n l. parts-apart n rs (below_later rs l low.1) h.1)
      where
        go : {a b : Bool} → Sides j k r a b → ((n : ℕ) → next ≤ n → ApartFrom (heads j k rs) (tails j k m n rs))
            → ApartFrom (put (a || not b) (head a k r) (heads j k rs)) (put b (tail a k m next r) (tails j k m (plus a next) rs))
        go (left q) ih = (not_a-tail r.id next rs low.0 h.0, ih next (omega arith))
        go (both n s e) ih = (
          ((λ (q : r.id ≡ next). omega (arith, low.0)), not_a-tail r.id (suc next) rs (omega (arith, low.0)) h.0),
          apart_cons (heads j k rs) (tails j k m (suc next) rs) (tail true k m next r) (heads-id (λ i. i ≡ next → ⊥) rs (all_map (λ q f d. f (sym d)) rs (fresh next rs low.1)))
              (ih (suc next) (omega arith)),
        )
        go (right n s e) ih =
            apart_cons (heads j k rs) (tails j k m next rs) (tail false k m next r) (heads-id (λ i. i ≡ r.id → ⊥) rs (all_map (λ q f d. f (sym d)) rs h.0))
            (ih next (omega arith))

-- ---- the ranges

-- the ranges of the cut store
abbrev halves : ℕ → ℕ → ℕ → ℕ → List Range → List Range
halves j k m next rs = heads j k rs ++ tails j k m next rs

halves-id : (j k m next : ℕ) (rs : List Range) (P : ℕ → Type 0) → Each next (next + ranges_across j k rs) P → All (λ r. P r.id) rs
    → All (λ r. P r.id) (halves j k m next rs)
halves-id j k m next rs P new h =
    all_append (λ r. P r.id) (heads j k rs) (tails j k m next rs) (heads-id j k P rs h) (tails-id j k m P next rs new h)

module _ {j k : ℕ} {t u : Tree} (in_use : j < t.nodes) (c : CutTo j k t u) where
  head-inside : (x y : Range) → HeadOf j k x y → Inside t y → Inside u x
  head-inside x y h i = record { in_use = omega (arith, c.nodes, h.node, i.in_use); filled = h.filled i.filled; ends = go (ℕ_discrete x.node j) }
    where
      go : Dec (x.node ≡ j) → x.end ≤ at u.len x.node
      go (yes e) = rw (e, c.head) (h.low e)
      go (no n) = rw (c.len x.node (omega (arith, h.node, i.in_use)) n) (rw h.node (omega (arith, h.end, i.ends)))

  tail-inside : (x y : Range) → TailOf j k t.nodes x y → Inside t y → Inside u x
  tail-inside x y h i =
      let ends : y.end ≤ at t.len j = rw h.on at i.ends in
      record {
        in_use = omega (arith, c.nodes, h.node);
        filled = omega (arith, h.start, h.end, h.high, i.filled);
        ends = rw (h.node, c.new_len) (omega (arith, h.end));
      }

  module _ (next : ℕ) (rs : List Range) where
    halves-all : (P Q : Range → Type 0) → ((x y : Range) → HeadOf j k x y → P y → Q x) → ((x y : Range) → TailOf j k t.nodes x y → P y → Q x) → All P rs
        → All Q (halves j k t.nodes next rs)
    halves-all P Q f g h = all_append Q (heads j k rs) _ (thin_all f (heads-of j k rs) h) (thin_all g (tails-of j k t.nodes next rs) h)

    halves-sorted : All (Inside t) rs → Sorted rs → Sorted (halves j k t.nodes next rs)
    halves-sorted i h =
        order_append Before (heads j k rs) (tails j k t.nodes next rs) (thin_order in_heads (heads-of j k rs) h)
        (thin_order in_tails (tails-of j k t.nodes next rs) h)
        (all_map (λ x (l : x.node < t.nodes). all_map (cross x l) (tails j k t.nodes next rs) on-new) (heads j k rs) on-old)
      where
        on-old : All (λ x. x.node < t.nodes) (heads j k rs)
        on-old = thin_all (λ x y (h : HeadOf j k x y) (i : Inside t y). omega (arith, h.node, i.in_use)) (heads-of j k rs) i

        on-new : All (λ y. y.node ≡ t.nodes) (tails j k t.nodes next rs)
        on-new = thin_all (λ x y (h : TailOf j k t.nodes x y) (i : Inside t y). h.node) (tails-of j k t.nodes next rs) i

        cross : (x : Range) → x.node < t.nodes → (y : Range) → y.node ≡ t.nodes → Before x y
        cross x l y e = omega arith

        in_heads : (x y x' y' : Range) → HeadOf j k x y → HeadOf j k x' y' → Before y y' → Before x x'
        in_heads x y x' y' a b l =
            record {
              by_node = omega (arith, a.node, b.node, l.by_node);
              apart = λ e. omega (arith, a.end, b.start, l.apart (omega (arith, a.node, b.node)));
            }

        in_tails : (x y x' y' : Range) → TailOf j k t.nodes x y → TailOf j k t.nodes x' y' → Before y y' → Before x x'
        in_tails x y x' y' a b l =
            record { by_node = omega (arith, a.node, b.node); apart = λ e. omega (arith, a.end, b.start, l.apart (omega (arith, a.on, b.on))) }

    halves-distinct : All (IdBetween next) rs → Distinct rs → Distinct (halves j k t.nodes next rs)
    halves-distinct i h =
        let below : All (λ r. r.id < next) rs = all_map (λ r (b : IdBetween next r). b.high) rs i in
        order_append IdApart (heads j k rs) (tails j k t.nodes next rs)
        (thin_order {R = IdApart} (λ x y x' y' (a : HeadOf j k x y) (b : HeadOf j k x' y') f e. f (sym a.id ∙ e ∙ b.id)) (heads-of j k rs) h)
        (tails-distinct j k t.nodes next rs below h) (parts-apart j k t.nodes next rs below h)

    -- there are new ids only where there is a range, and that has an id below the next one
    new-low : (qs : List Range) → All (IdBetween next) qs → 0 < ranges_across j k qs → 1 ≤ next
    unfolding All ranges_across
    new-low [] h l = absurd (omega arith)
    new-low (q ∷ qs) h l = omega (arith, h.0.low, h.0.high)

    halves_between : All (IdBetween next) rs → All (IdBetween (next + ranges_across j k rs)) (halves j k t.nodes next rs)
    halves_between h =
        all_map (λ r (b : (1 ≤ r.id) × (r.id < next + ranges_across j k rs)). record { low = b.0; high = b.1 }) (halves j k t.nodes next rs)
        (halves-id j k t.nodes next rs (λ i. (1 ≤ i) × (i < next + ranges_across j k rs)) (λ i a b. (omega (arith, new-low rs h (omega arith)), b))
        (all_map (λ r (b : IdBetween next r). (b.low, omega (arith, b.high))) rs h))

    halves-sound : {top : ℕ} → RangesSound t next top rs → RangesSound u (next + ranges_across j k rs) top (halves j k t.nodes next rs)
    halves-sound {top} s =
        record {
          sorted = halves-sorted s.inside s.sorted;
          inside = halves-all (Inside t) (Inside u) head-inside tail-inside s.inside;
          distinct = halves-distinct s.ids s.distinct;
          ids = halves_between s.ids;
          stamps = halves-all (StampBetween top) (StampBetween top)
              (λ x y h b. record { low = omega (arith, h.stamp, b.low); high = omega (arith, h.stamp, b.high) })
              (λ x y h b. record { low = omega (arith, h.stamp, b.low); high = omega (arith, h.stamp, b.high) }) s.stamps;
          times = halves-all (λ r. Finite r.touched) (λ r. Finite r.touched) (λ x y h. subst Finite (sym h.touched))
              (λ x y h. subst Finite (sym h.touched)) s.times;
        }

-- ---- the pins

-- the pieces of p put into ps, and whether there are two
data Pieces (j k m : ℕ) (p : Pin) (ps : List Pin) : Bool → List Pin → Type 0 where
  off : p.node ≢ j → Pieces j k m p ps false (add_pin p ps)
  two : p.node ≡ j → p.start < k → k < p.end → Pieces j k m p ps true (add_pin (pin_head k p) (add_pin (pin_tail k m p) ps))
  low : p.node ≡ j → p.start < k → p.end ≤ k → Pieces j k m p ps false (add_pin (pin_head k p) ps)
  high : p.node ≡ j → k ≤ p.start → k < p.end → Pieces j k m p ps false (add_pin (pin_tail k m p) ps)
  none : p.end ≤ p.start → Pieces j k m p ps false ps

module _ (j k m : ℕ) where
  pieces : (p : Pin) (ps : List Pin) → Pieces j k m p ps (pin_across j k p) (pin_pieces (eqb p.node j) k m p ps)
  pieces p ps = on (eqb p.node j) (eq_sure p.node j).says
    where
      parts : (s e : Bool) → p.node ≡ j → Says s (p.start < k) → Says e (k < p.end)
          → Pieces j k m p ps (s && e) (put_pin s (pin_head k p) (put_pin e (pin_tail k m p) ps))
      parts true true n S E = two n S E
      parts true false n S E = low n S (omega arith)
      parts false true n S E = high n (omega arith) E
      parts false false n S E = none (omega arith)

      on : (b : Bool) → Says b (p.node ≡ j) → Pieces j k m p ps (b && (ltb p.start k && ltb k p.end)) (pin_pieces b k m p ps)
      on true n = parts (ltb p.start k) (ltb k p.end) n (lt_sure p.start k).says (lt_sure k p.end).says
      on false n = off n

  cut-pins-sorted : (ps : List Pin) → PinsSorted (cut_pins j k m ps)
  unfolding InOrder cut_pins
  cut-pins-sorted [] = tt
  cut-pins-sorted (p ∷ ps) = go (pieces p (cut_pins j k m ps)) (cut-pins-sorted ps)
    where
      go : {a : Bool} {ps qs : List Pin} → Pieces j k m p ps a qs → PinsSorted ps → PinsSorted qs
      go {ps = ps} (off n) h = add-sorted p ps h
      go {ps = ps} (two n s e) h = add-sorted (pin_head k p) (add_pin (pin_tail k m p) ps) (add-sorted (pin_tail k m p) ps h)
      go {ps = ps} (low n s e) h = add-sorted (pin_head k p) ps h
      go {ps = ps} (high n s e) h = add-sorted (pin_tail k m p) ps h
      go (none e) h = h

  cut-pinned : (ps : List Pin) → pinned_in (cut_pins j k m ps) ≡ pinned_in ps
  unfolding pinned_in cut_pins
  cut-pinned [] = refl
  cut-pinned (p ∷ ps) = go (pieces p (cut_pins j k m ps)) (cut-pinned ps)
    where
      sum : (a b : ℕ) → p.end - p.start ≡ a + b → (p.end - p.start) * p.count ≡ a * p.count + b * p.count
      sum a b e = rw (e, add-mul a b p.count)

      go : {a : Bool} {rs qs : List Pin} → Pieces j k m p rs a qs → pinned_in rs ≡ pinned_in ps
          → pinned_in qs ≡ (p.end - p.start) * p.count + pinned_in ps
      go {rs = rs} (off n) h = omega (arith, add-pinned p rs)
      go {rs = rs} (two n s e) h =
          omega (
            arith,
            add-pinned (pin_tail k m p) rs,
            add-pinned (pin_head k p) (add_pin (pin_tail k m p) rs),
            sum (min p.end k - p.start) (p.end - k - (p.start - k)) (omega arith),
          )
      go {rs = rs} (low n s e) h = omega (arith, add-pinned (pin_head k p) rs, sum (min p.end k - p.start) 0 (omega arith))
      go {rs = rs} (high n s e) h = omega (arith, add-pinned (pin_tail k m p) rs, sum (p.end - k - (p.start - k)) 0 (omega arith))
      go (none e) h = omega (arith, sum 0 0 (omega arith))

  cut-pins-few : (ps : List Pin) → length (cut_pins j k m ps) ≤ length ps + pins_across j k ps
  unfolding cut_pins pins_across
  cut-pins-few [] = omega arith
  cut-pins-few (p ∷ ps) = go (pieces p (cut_pins j k m ps)) (cut-pins-few ps)
    where
      go : {a : Bool} {rs qs : List Pin} → Pieces j k m p rs a qs → length rs ≤ length ps + pins_across j k ps
          → length qs ≤ suc (length ps) + plus a (pins_across j k ps)
      go {rs = rs} (off n) h = omega (arith, add-few p rs)
      go {rs = rs} (two n s e) h = omega (arith, add-few (pin_tail k m p) rs, add-few (pin_head k p) (add_pin (pin_tail k m p) rs))
      go {rs = rs} (low n s e) h = omega (arith, add-few (pin_head k p) rs)
      go {rs = rs} (high n s e) h = omega (arith, add-few (pin_tail k m p) rs)
      go (none e) h = omega arith

module _ {j k : ℕ} {t u : Tree} (in_use : j < t.nodes) (c : CutTo j k t u) where
  more-pinned : (n : ℕ) (q : Pin) → PinInside u q → PinInside u (counted q (q.count + n))
  more-pinned n q h = record { in_use = h.in_use; filled = h.filled; ends = h.ends; counted = omega (arith, h.counted) }

  head-pinned : (p : Pin) → PinInside t p → p.node ≡ j → p.start < k → PinInside u (pin_head k p)
  head-pinned p h n s =
      record {
        in_use = omega (arith, c.nodes, h.in_use);
        filled = omega (arith, h.filled);
        ends = rw (n, c.head) (omega arith);
        counted = h.counted;
      }

  tail-pinned : (p : Pin) → PinInside t p → p.node ≡ j → k < p.end → PinInside u (pin_tail k t.nodes p)
  tail-pinned p h n e =
      let ends : p.end ≤ at t.len j = rw n at h.ends in
      record { in_use = omega (arith, c.nodes); filled = omega (arith, h.filled); ends = rw c.new_len (omega arith); counted = h.counted }

  cut-pins-inside : (ps : List Pin) → All (PinInside t) ps → All (PinInside u) (cut_pins j k t.nodes ps)
  unfolding All cut_pins
  cut-pins-inside [] h = tt
  cut-pins-inside (p ∷ ps) h = go (pieces j k t.nodes p (cut_pins j k t.nodes ps)) (cut-pins-inside ps h.1)
    where
      with_one : (q : Pin) → PinInside u q → (qs : List Pin) → All (PinInside u) qs → All (PinInside u) (add_pin q qs)
      with_one q i = add-all (PinInside u) q i (more-pinned q.count)

      with_head : p.node ≡ j → p.start < k → (qs : List Pin) → All (PinInside u) qs → All (PinInside u) (add_pin (pin_head k p) qs)
      with_head n s = with_one (pin_head k p) (head-pinned p h.0 n s)

      with_tail : p.node ≡ j → k < p.end → (qs : List Pin) → All (PinInside u) qs → All (PinInside u) (add_pin (pin_tail k t.nodes p) qs)
      with_tail n e = with_one (pin_tail k t.nodes p) (tail-pinned p h.0 n e)

      go : {a : Bool} {rs qs : List Pin} → Pieces j k t.nodes p rs a qs → All (PinInside u) rs → All (PinInside u) qs
      go {rs = rs} (off n) i =
          with_one p
          (record {
            in_use = omega (arith, c.nodes, h.0.in_use);
            filled = h.0.filled;
            ends = rw (c.len p.node h.0.in_use n) h.0.ends;
            counted = h.0.counted;
          })
          rs i
      go {rs = rs} (two n s e) i = with_head n s (add_pin (pin_tail k t.nodes p) rs) (with_tail n e rs i)
      go {rs = rs} (low n s e) i = with_head n s rs i
      go {rs = rs} (high n s e) i = with_tail n e rs i
      go (none e) i = i

-- ---- the marks

held-most : (b : Bool) (n : ℕ) → if_held b n ≤ n
held-most true n = omega arith
held-most false n = omega arith

abbrev head_mark : ℕ → ℕ → List Range → List ℕ → ℕ
head_mark j k rs ms = if_held (on_node j rs) (min (at ms j) k)

abbrev tail_mark : ℕ → ℕ → ℕ → List Range → List ℕ → ℕ
tail_mark j k m rs ms = if_held (on_node m rs) (at ms j - k)

module _ (j k m : ℕ) (rs : List Range) (ms : List ℕ) (new : m < length ms) (old : j < m) where
  mark_new : at (cut_marks j k m rs ms) m ≡ tail_mark j k m rs ms
  unfolding cut_marks
  mark_new = get_or-set_same (set ms j (head_mark j k rs ms)) m (tail_mark j k m rs ms) 0 (rw length-set new)

  mark_head : at (cut_marks j k m rs ms) j ≡ head_mark j k rs ms
  unfolding cut_marks
  mark_head =
      get_or-set_other (set ms j (head_mark j k rs ms)) m j (tail_mark j k m rs ms) 0 (omega arith)
      ∙ get_or-set_same ms j (head_mark j k rs ms) 0 (omega arith)

  mark_other : (v : ℕ) → v ≢ j → v ≢ m → at (cut_marks j k m rs ms) v ≡ at ms v
  unfolding cut_marks
  mark_other v a b =
      get_or-set_other (set ms j (head_mark j k rs ms)) m v (tail_mark j k m rs ms) 0 b ∙ get_or-set_other ms j v (head_mark j k rs ms) 0 a

  marks_length : length (cut_marks j k m rs ms) ≡ length ms
  unfolding cut_marks
  marks_length = rw (length-set, length-set)

-- a node that is not cut has a range in the one list where it has one in the other
heads-off : (j k v : ℕ) → v ≢ j → (rs : List Range) → All (λ r. r.node ≡ v → ⊥) (heads j k rs) → All (λ r. r.node ≡ v → ⊥) rs
unfolding All heads
heads-off j k v n [] h = tt
heads-off j k v n (r ∷ rs) h = go (sides j k r) (heads-off j k v n rs) h
  where
    Off : List Range → Type 0
    Off = All (λ r. r.node ≡ v → ⊥)

    go : {a b : Bool} → Sides j k r a b → (Off (heads j k rs) → Off rs) → Off (put (a || not b) (head a k r) (heads j k rs)) → Off (r ∷ rs)
    go (left e) ih h = (h.0, ih h.1)
    go (both e s z) ih h = (h.0, ih h.1)
    go (right e s z) ih h = (λ q. omega arith, ih h)

module _ {j k : ℕ} {t u : Tree} (in_use : j < t.nodes) (room : t.nodes < max_nodes) (c : CutTo j k t u) where
  cut-marks-sound : (next : ℕ) (rs : List Range) (ms : List ℕ) → MarksSound t rs ms
      → MarksSound u (halves j k t.nodes next rs) (cut_marks j k t.nodes (halves j k t.nodes next rs) ms)
  cut-marks-sound next rs ms s =
      record {
        long = marks_length j k t.nodes qs ms new in_use ∙ s.long;
        none = λ v h e. none v h e (ℕ_discrete v t.nodes) (ℕ_discrete v j);
        within = λ v h. within v (omega arith) h;
      }
    where
      qs : List Range
      qs = halves j k t.nodes next rs

      new : t.nodes < length ms
      new = omega (arith, s.long)

      not_held : (v n : ℕ) → on_node v qs ≡ false → if_held (on_node v qs) n ≡ 0
      not_held v n e = rw e

      none : (v : ℕ) → v < max_nodes → on_node v qs ≡ false → Dec (v ≡ t.nodes) → Dec (v ≡ j) → at (cut_marks j k t.nodes qs ms) v ≡ 0
      none v h e (yes a) b = rw a (mark_new j k t.nodes qs ms new in_use ∙ not_held t.nodes _ (subst (λ n. on_node n qs ≡ false) a e))
      none v h e (no a) (yes b) = rw b (mark_head j k t.nodes qs ms new in_use ∙ not_held j _ (subst (λ n. on_node n qs ≡ false) b e))
      none v h e (no a) (no b) =
          mark_other j k t.nodes qs ms new in_use v b a
          ∙ s.none v h (off-node v rs (heads-off j k v b rs (all_left (λ r. r.node ≡ v → ⊥) (heads j k rs) (tails j k t.nodes next rs) (node-off v qs e))))

      old : (v : ℕ) → v < t.nodes → Dec (v ≡ j) → at (cut_marks j k t.nodes qs ms) v ≤ at u.len v
      old v h (yes b) = rw (b, mark_head j k t.nodes qs ms new in_use, c.head) (omega (arith, held-most (on_node j qs) (min (at ms j) k)))
      old v h (no b) = rw (mark_other j k t.nodes qs ms new in_use v b (omega arith), c.len v h b) (s.within v h)

      within : Each 0 u.nodes (λ v. at (cut_marks j k t.nodes qs ms) v ≤ at u.len v)
      within =
          each_more _ c.nodes
          (rw (mark_new j k t.nodes qs ms new in_use, c.new_len) (omega (arith, held-most (on_node t.nodes qs) (at ms j - k), s.within j in_use)))
          (λ v l h. old v h (ℕ_discrete v j))

-- ---- the new node's ranges stand last where it has the highest number

placed-last : (m : ℕ) (new rs : List Range) → All (λ r. r.node < m) rs → placed m new rs ≡ rs ++ new
unfolding All placed
placed-last m new [] h = refl
placed-last m new (r ∷ rs) h = rw (placed, lt-ltb r.node m h.0, placed-last m new rs h.1)

heads-below : (j k m : ℕ) (rs : List Range) → All (λ r. r.node < m) rs → All (λ r. r.node < m) (heads j k rs)
unfolding All heads
heads-below j k m [] h = tt
heads-below j k m (r ∷ rs) h = go (across j k r || not (beyond j k r)) (across j k r) (heads-below j k m rs h.1)
  where
    go : (b a : Bool) → All (λ q. q.node < m) (heads j k rs) → All (λ q. q.node < m) (put b (head a k r) (heads j k rs))
    go true true ih = (h.0, ih)
    go true false ih = (h.0, ih)
    go false a ih = ih

-- the store with these ranges after the cut
abbrev cut_to_lem : ℕ → ℕ → ℕ → Store → List Range → Store
cut_to_lem j k m x rs =
    let ps = cut_pins j k m x.pins in
    let b = x.book in
    record {
      book = changed b (length rs) b.held b.stamp b.version (length ps) (pinned_in ps);
      ranges = rs;
      pins = ps;
      marks = cut_marks j k m rs x.marks;
    }

-- and with the new node's ranges last
abbrev pub cut_last : ℕ → ℕ → ℕ → ℕ → Store → Store
cut_last j k m next x = cut_to_lem j k m x (heads j k x.ranges ++ tails j k m next x.ranges)

pub cut-last : (j k m next : ℕ) (x : Store) → All (λ r. r.node < m) x.ranges → cut_store j k m next x ≡ cut_last j k m next x
unfolding cut_store
cut-last j k m next x h =
    ap (cut_to_lem j k m x) (placed-last m (tails j k m next x.ranges) (heads j k x.ranges) (heads-below j k m x.ranges h))

-- a store's ranges are of nodes in use
pub below-nodes : (t : Tree) (rs : List Range) → All (Inside t) rs → All (λ r. r.node < t.nodes) rs
below-nodes t rs h = all_map (λ r i. i.in_use) rs h

-- ---- what a cut of a store changes and what not

module _ (j k m next : ℕ) (x : Store) where
  pub cut_store-pins : length (cut_store j k m next x).pins ≤ length x.pins + pins_across j k x.pins
  unfolding cut_store
  cut_store-pins = cut-pins-few j k m x.pins

  pub cut_store-pinned : pinned_in (cut_store j k m next x).pins ≡ pinned_in x.pins
  unfolding cut_store
  cut_store-pinned = cut-pinned j k m x.pins

  module _ (below : All (λ r. r.node < m) x.ranges) where
    last : (cut_store j k m next x).ranges ≡ heads j k x.ranges ++ tails j k m next x.ranges
    last = ap (λ (y : Store). y.ranges) (cut-last j k m next x below)

    pub cut_store-ids : IdsFrom x.ranges next (cut_store j k m next x).ranges
    cut_store-ids =
        let rs : List Range = x.ranges in
        rw last (halves-id j k m next rs (λ i. HasId i rs ⊎ (next ≤ i)) (λ i l h. inr l) (all_map (λ r h. inl h) rs (has_each rs)))

    pub cut_store-total : total (cut_store j k m next x).ranges ≡ total x.ranges
    cut_store-total = rw last (total_append (heads j k x.ranges) (tails j k m next x.ranges) ∙ parts-total j k m next x.ranges)

    pub cut_store_length : length (cut_store j k m next x).ranges ≡ length x.ranges + ranges_across j k x.ranges
    cut_store_length = rw last (length-append (heads j k x.ranges) (tails j k m next x.ranges) ∙ parts_length j k m next x.ranges)

-- ---- the store stays sound

module _ {j k : ℕ} {t u : Tree} (in_use : j < t.nodes) (room : t.nodes < max_nodes) (c : CutTo j k t u) where
  cut_in_store : {next : ℕ} {x : Store} → StoreSound t next x → length x.ranges + ranges_across j k x.ranges ≤ store_records
      → length x.pins + pins_across j k x.pins ≤ store_pins
      → StoreSound u (next + ranges_across j k x.ranges) (cut_last j k t.nodes next x)
  cut_in_store {next} {x} s few few_pins =
      let rs : List Range = x.ranges in
      record {
        capacity = s.capacity;
        policy = s.policy;
        records = refl;
        few = rw (length-append (heads j k rs) (tails j k t.nodes next rs) ∙ parts_length j k t.nodes next rs) few;
        stamp = s.stamp;
        ranges = halves-sound in_use c next rs s.ranges;
        held = s.held ∙ sym (total_append (heads j k rs) (tails j k t.nodes next rs) ∙ parts-total j k t.nodes next rs);
        held_none = s.held_none;
        entries = refl;
        few_pins = omega (arith, cut-pins-few j k t.nodes x.pins);
        pins = record { sorted = cut-pins-sorted j k t.nodes x.pins; inside = cut-pins-inside in_use c x.pins s.pins.inside };
        pinned = refl;
        pinned_most = rw (cut-pinned j k t.nodes x.pins) (omega (arith, s.pinned, s.pinned_most));
        marks = cut-marks-sound in_use room c next rs x.marks s.marks;
      }

pub cut_store-sound : (j k : ℕ) (t : Tree) → TreeSound t → 1 ≤ j → j < t.nodes → t.nodes < max_nodes → {next : ℕ} {x : Store} → StoreSound t next x
    → length x.ranges + ranges_across j k x.ranges ≤ store_records → length x.pins + pins_across j k x.pins ≤ store_pins
    → StoreSound (cut_tree j k t) (next + ranges_across j k x.ranges) (cut_store j k (next_node t) next x)
cut_store-sound j k t s not_root in_use room {next} {x} h few few_pins =
    subst (StoreSound (cut_tree j k t) (next + ranges_across j k x.ranges))
    (sym (cut-last j k t.nodes next x (below-nodes t x.ranges h.ranges.inside)))
    (cut_in_store in_use room (cut_to j k t s.lent not_root in_use room) h few few_pins)
