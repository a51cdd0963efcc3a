-- Laws of what holds of each element, of every two in order, and of the ids; and of a list that is a part of another, element by element. Assumes nothing.
use Prim.Native.Nat.{ℕ, zero, suc, ◌≤◌, ◌<◌, zero-le}
use mathlib.Core.Path.{◌≡◌, refl, sym, subst, ap}
use mathlib.Core.Logic.{◌⊎◌, inl, inr, ⊎_elim}
use mathlib.Core.List.{List, [], ◌∷◌, ◌++◌}
use native.Mathlib.Omega.{arith}
use native.Mathlib.Nat.{le_refl}
use lib.ListN.{length, get_or}
use Rattle.model.specs.State.{Tree, Range}
use Rattle.model.specs.Sound.{IdBetween, StampBetween}
use Rattle.model.specs.declared.Book.{Book}
use Rattle.model.specs.Store.{Store, ranged}
use Rattle.theory_sound.specs.Facts.{All, InOrder, IdApart, ApartFrom, HasId, IdsFrom}
use Rattle.theory_sound.specs.StoreSound.{RangesSound, StoreSound}

module _ {A : Type 0} where
  -- ---- each element

  pub all_map : {P Q : A → Type 0} → ((x : A) → P x → Q x) → (xs : List A) → All P xs → All Q xs
  unfolding All
  all_map f [] h = tt
  all_map f (x ∷ xs) h = (f x h.0, all_map f xs h.1)

  pub all_sure : {P : A → Type 0} → ((x : A) → P x) → (xs : List A) → All P xs
  unfolding All
  all_sure f [] = tt
  all_sure f (x ∷ xs) = (f x, all_sure f xs)

  pub all_both : {P Q R : A → Type 0} → ((x : A) → P x → Q x → R x) → (xs : List A) → All P xs → All Q xs → All R xs
  unfolding All
  all_both f [] h k = tt
  all_both f (x ∷ xs) h k = (f x h.0 k.0, all_both f xs h.1 k.1)

  module _ (P : A → Type 0) where
    pub all_append : (xs ys : List A) → All P xs → All P ys → All P (xs ++ ys)
    unfolding All
    all_append [] ys h k = k
    all_append (x ∷ xs) ys h k = (h.0, all_append xs ys h.1 k)

    pub all_left : (xs ys : List A) → All P (xs ++ ys) → All P xs
    unfolding All
    all_left [] ys h = tt
    all_left (x ∷ xs) ys h = (h.0, all_left xs ys h.1)

    pub all_right : (xs ys : List A) → All P (xs ++ ys) → All P ys
    unfolding All
    all_right [] ys h = h
    all_right (x ∷ xs) ys h = all_right xs ys h.1

    -- by places
    pub all-at : (d : A) (xs : List A) → All P xs → (i : ℕ) → i < length xs → P (get_or xs i d)
    unfolding All
    all-at d [] h i l = absurd (omega arith)
    all-at d (x ∷ xs) h zero l = h.0
    all-at d (x ∷ xs) h (suc i) l = all-at d xs h.1 i (omega arith)

    pub all_from : (d : A) (xs : List A) → ((i : ℕ) → i < length xs → P (get_or xs i d)) → All P xs
    unfolding All
    all_from d [] h = tt
    all_from d (x ∷ xs) h = (h 0 (omega arith), all_from d xs (λ i l. h (suc i) (omega arith)))

  -- ---- every two

  pub order_map : {R S : A → A → Type 0} → ((x y : A) → R x y → S x y) → (xs : List A) → InOrder R xs → InOrder S xs
  unfolding InOrder
  order_map f [] h = tt
  order_map f (x ∷ xs) h = (all_map (f x) xs h.0, order_map f xs h.1)

  module _ (R : A → A → Type 0) where
    pub order_append : (xs ys : List A) → InOrder R xs → InOrder R ys → All (λ x. All (R x) ys) xs → InOrder R (xs ++ ys)
    unfolding InOrder
    order_append [] ys h k c = k
    order_append (x ∷ xs) ys h k c = (all_append (R x) xs ys h.0 c.0, order_append xs ys h.1 k c.1)

    pub order-left : (xs ys : List A) → InOrder R (xs ++ ys) → InOrder R xs
    unfolding InOrder
    order-left [] ys h = tt
    order-left (x ∷ xs) ys h = (all_left (R x) xs ys h.0, order-left xs ys h.1)

    pub order-right : (xs ys : List A) → InOrder R (xs ++ ys) → InOrder R ys
    unfolding InOrder
    order-right [] ys h = h
    order-right (x ∷ xs) ys h = order-right xs ys h.1

    pub order_cross : (xs ys : List A) → InOrder R (xs ++ ys) → All (λ x. All (R x) ys) xs
    unfolding InOrder
    order_cross [] ys h = tt
    order_cross (x ∷ xs) ys h = (all_right (R x) xs ys h.0, order_cross xs ys h.1)

    -- by places
    pub order-at : (d : A) (xs : List A) → InOrder R xs → (j k : ℕ) → j < k → k < length xs → R (get_or xs j d) (get_or xs k d)
    unfolding InOrder
    order-at d [] h j k l m = absurd (omega arith)
    order-at d (x ∷ xs) h j zero l m = absurd (omega arith)
    order-at d (x ∷ xs) h zero (suc k) l m = all-at (R x) d xs h.0 k (omega arith)
    order-at d (x ∷ xs) h (suc j) (suc k) l m = order-at d xs h.1 j k (omega arith) (omega arith)

    pub order_from : (d : A) (xs : List A) → ((j k : ℕ) → j < k → k < length xs → R (get_or xs j d) (get_or xs k d)) → InOrder R xs
    unfolding InOrder
    order_from d [] h = tt
    order_from d (x ∷ xs) h = (
      all_from (R x) d xs (λ i l. h 0 (suc i) (omega arith) (omega arith)),
      order_from d xs (λ j k l m. h (suc j) (suc k) (omega arith) (omega arith)),
    )

  -- ---- each element of the one list is S of an element of the other, in its order; some of the other have none

  pub data Thinned (S : A → A → Type 0) : List A → List A → Type 0 where
    done : Thinned S [] []
    kept : {x y : A} {xs ys : List A} → S x y → Thinned S xs ys → Thinned S (x ∷ xs) (y ∷ ys)
    gone : {y : A} {xs ys : List A} → Thinned S xs ys → Thinned S xs (y ∷ ys)

  module _ {S : A → A → Type 0} where
    pub thin_same : ((x : A) → S x x) → (xs : List A) → Thinned S xs xs
    thin_same f [] = done
    thin_same f (x ∷ xs) = kept (f x) (thin_same f xs)

    pub thin_trans : {xs ys zs : List A} → ((x y z : A) → S x y → S y z → S x z) → Thinned S xs ys → Thinned S ys zs → Thinned S xs zs
    thin_trans f t done = t
    thin_trans f (kept {x = x} {xs = xs} s t) (kept {x = y} {y = z} {xs = ys} {ys = zs} r u) =
        kept (f x y z s r) (thin_trans {xs = xs} {ys = ys} {zs = zs} f t u)
    thin_trans {xs = xs} f (gone t) (kept {xs = ys} {ys = zs} r u) = gone (thin_trans {xs = xs} {ys = ys} {zs = zs} f t u)
    thin_trans {xs = xs} {ys = ys} f t (gone {ys = zs} u) = gone (thin_trans {xs = xs} {ys = ys} {zs = zs} f t u)

    pub thin_all : {P Q : A → Type 0} {xs ys : List A} → ((x y : A) → S x y → P y → Q x) → Thinned S xs ys → All P ys → All Q xs
    unfolding All
    thin_all f done h = tt
    thin_all f (kept {x = x} {y = y} s t) h = (f x y s h.0, thin_all f t h.1)
    thin_all f (gone t) h = thin_all f t h.1

    pub thin_order : {R : A → A → Type 0} {xs ys : List A} → ((x y x' y' : A) → S x y → S x' y' → R y y' → R x x') → Thinned S xs ys
        → InOrder R ys → InOrder R xs
    unfolding InOrder
    thin_order f done h = tt
    thin_order f (kept {x = x} {y = y} s t) h = (thin_all (λ x' y'. f x y x' y' s) t h.0, thin_order f t h.1)
    thin_order f (gone t) h = thin_order f t h.1

    pub thin_length : {xs ys : List A} → Thinned S xs ys → length xs ≤ length ys
    thin_length done = zero-le
    thin_length (kept s t) = omega (arith, thin_length t)
    thin_length (gone t) = omega (arith, thin_length t)

-- ---- ids

-- an id that is had, in a longer list
pub has_left : (i : ℕ) (rs qs : List Range) → HasId i rs → HasId i (rs ++ qs)
unfolding HasId
has_left i [] qs h = absurd h
has_left i (r ∷ rs) qs (inl e) = inl e
has_left i (r ∷ rs) qs (inr h) = inr (has_left i rs qs h)

pub has_right : (i : ℕ) (rs qs : List Range) → HasId i qs → HasId i (rs ++ qs)
unfolding HasId
has_right i [] qs h = h
has_right i (r ∷ rs) qs h = inr (has_right i rs qs h)

-- each of the ranges has its id
pub has_each : (rs : List Range) → All (λ r. HasId r.id rs) rs
unfolding HasId All
has_each [] = tt
has_each (r ∷ rs) = (inl refl, all_map (λ q h. inr h) rs (has_each rs))

-- what holds of each id of the list holds of an id that the list has
pub has_all : (P : ℕ → Type 0) (i : ℕ) (rs : List Range) → HasId i rs → All (λ r. P r.id) rs → P i
unfolding HasId All
has_all P i [] h k = absurd h
has_all P i (r ∷ rs) (inl e) k = subst P e k.0
has_all P i (r ∷ rs) (inr h) k = has_all P i rs h k.1

pub ids-same : (next : ℕ) (rs : List Range) → IdsFrom rs next rs
ids-same next rs = all_map (λ r h. inl h) rs (has_each rs)

pub ids_trans : (old mid rs : List Range) (next later : ℕ) → next ≤ later → IdsFrom old next mid → IdsFrom mid later rs → IdsFrom old next rs
ids_trans old mid rs next later l h =
    all_map (λ r. ⊎_elim (λ k. has_all (λ i. HasId i old ⊎ (next ≤ i)) r.id mid k h) (λ (n : later ≤ r.id). inr (omega arith))) rs

-- ranges whose ids are old ones or new ones are apart from those that the old ones are apart from
pub apart-kept : (old rs qs : List Range) (next : ℕ) → IdsFrom old next rs → All (IdBetween next) qs → ApartFrom old qs → ApartFrom rs qs
apart-kept old rs qs next f b a =
    all_map
    (λ r. ⊎_elim
    (λ h. has_all (λ i. All (λ q. i ≡ q.id → ⊥) qs) r.id old h a)
    (λ (l : next ≤ r.id). all_map {Q = IdApart r} (λ q (k : IdBetween next q) (e : r.id ≡ q.id). omega (arith, k.high)) qs b))
    rs f

pub apart_sym : (rs qs : List Range) → ApartFrom rs qs → ApartFrom qs rs
unfolding All
apart_sym [] qs a = all_sure (λ q. tt) qs
apart_sym (r ∷ rs) qs a = all_both (λ q k h. (λ e. k (sym e), h)) qs a.0 (apart_sym rs qs a.1)

-- ---- what a call that moves no pin leaves of a store as it was

pub record Steady (x y : Store) : Type 0 where
  pub book : y.book ≡ ranged x.book y.book.records y.book.held y.book.stamp y.book.version
  pub pins : y.pins ≡ x.pins

-- so these numbers are as they were
module _ {x y : Store} (s : Steady x y) where
  pub steady-capacity : y.book.capacity ≡ x.book.capacity
  steady-capacity = ap (λ (b : Book). b.capacity) s.book

  pub steady-policy : y.book.policy ≡ x.book.policy
  steady-policy = ap (λ (b : Book). b.policy) s.book

  pub steady-entries : y.book.entries ≡ x.book.entries
  steady-entries = ap (λ (b : Book). b.entries) s.book

  pub steady-pinned : y.book.pinned ≡ x.book.pinned
  steady-pinned = ap (λ (b : Book). b.pinned) s.book

pub steady-same : (x : Store) → Steady x x
steady-same x = record { book = refl; pins = refl }

-- ---- a later next id, a later stamp

pub id_later : {next later : ℕ} → next ≤ later → (r : Range) → IdBetween next r → IdBetween later r
id_later l r h = record { low = h.low; high = omega (arith, h.high) }

pub stamp_later : {top later : ℕ} → top ≤ later → (r : Range) → StampBetween top r → StampBetween later r
stamp_later l r h = record { low = h.low; high = omega (arith, h.high) }

module _ {t : Tree} {next later : ℕ} (l : next ≤ later) where
  pub ranges_later : {top high : ℕ} {rs : List Range} → top ≤ high → RangesSound t next top rs → RangesSound t later high rs
  ranges_later {rs = rs} m h =
      record {
        sorted = h.sorted;
        inside = h.inside;
        distinct = h.distinct;
        ids = all_map (id_later l) rs h.ids;
        stamps = all_map (stamp_later m) rs h.stamps;
        times = h.times;
      }

  pub store_later : {x : Store} → StoreSound t next x → StoreSound t later x
  store_later {x = x} h =
      record {
        capacity = h.capacity;
        policy = h.policy;
        records = h.records;
        few = h.few;
        stamp = h.stamp;
        ranges = ranges_later (le_refl x.book.stamp) h.ranges;
        held = h.held;
        held_none = h.held_none;
        entries = h.entries;
        few_pins = h.few_pins;
        pins = h.pins;
        pinned = h.pinned;
        pinned_most = h.pinned_most;
        marks = h.marks;
      }
