-- A pin entry put in at its place, and one taken off: the entries stay in order and inside their nodes, and the pinned blocks change by the entry's.
-- So a pin and an unpin keep a store sound. Assumes nothing.
use Prim.Native.Nat.{ℕ, zero, suc, ◌+◌, ◌-◌, ◌*◌, ◌≤◌, ◌<◌}
use mathlib.Core.Path.{◌≡◌, refl}
use mathlib.Core.Bool.{Bool, true, false, not, ◌&&◌, ◌||◌}
use mathlib.Core.List.{List, [], ◌∷◌}
use native.Mathlib.Omega.{arith}
use native.Mathlib.Nat.{mul-add, mul-suc}
use lib.ListN.{length}
use lib.Dec.{ltb, eqb}
use Rattle.model.specs.declared.Span.{Span}
use Rattle.model.specs.Words.{Says}
use Rattle.model.specs.Sizes.{store_pins, max_pinned}
use Rattle.model.specs.State.{Tree, Pin}
use Rattle.model.specs.Sound.{PinBefore, PinInside}
use Rattle.model.specs.Store.{Store, plus}
use Rattle.model.specs.Pins.{pin_of, same_span, pin_ahead, counted, add_pin, one_less, take_pin, has_pin, pinned_in, repinned, pin, pin_need, unpin}
use Rattle.model.specs.Refusals.{SpanIn}
use Rattle.theory_refuse.proofs.Says.{lt_sure, eq_sure}
use Rattle.theory_sound.specs.Facts.{All, InOrder, PinsSorted}
use Rattle.theory_sound.specs.StoreSound.{PinsSound, StoreSound}
use Rattle.theory_bring.proofs.Facts.{all_map}

-- ---- how p stands to q: of its span, ahead of it, or behind

pub record SameSpan (p q : Pin) : Type 0 where
  pub node : p.node ≡ q.node
  pub start : p.start ≡ q.start
  pub end : p.end ≡ q.end

abbrev Placed : Pin → Pin → Bool → Bool → Type 0
Placed p q true a = SameSpan p q
Placed p q false true = PinBefore p q
Placed p q false false = PinBefore q p

placed : (p q : Pin) → Placed p q (same_span p q) (pin_ahead p q)
placed p q =
    go (ltb p.node q.node) (eqb p.node q.node) (ltb p.start q.start) (eqb p.start q.start) (ltb p.end q.end)
    (eqb p.end q.end) (lt_sure p.node q.node).says (eq_sure p.node q.node).says (lt_sure p.start q.start).says (eq_sure p.start q.start).says
    (lt_sure p.end q.end).says (eq_sure p.end q.end).says
  where
    go : (a b c d e f : Bool) → Says a (p.node < q.node) → Says b (p.node ≡ q.node) → Says c (p.start < q.start) → Says d (p.start ≡ q.start)
        → Says e (p.end < q.end) → Says f (p.end ≡ q.end) → Placed p q (b && (d && f)) (a || (b && (c || (d && e))))
    go true false c d e f A B C D E F = omega arith
    go false false c d e f A B C D E F = omega arith
    go true true c d e f A B C D E F = absurd (omega arith)
    go false true true false e f A B C D E F = omega arith
    go false true false false e f A B C D E F = omega arith
    go false true c true e true A B C D E F = omega arith
    go false true true true e false A B C D E F = absurd (omega arith)
    go false true false true true false A B C D E F = omega arith
    go false true false true false false A B C D E F = omega arith

before_trans : (p q r : Pin) → PinBefore p q → PinBefore q r → PinBefore p r
before_trans p q r h k =
    record {
      by_node = omega arith;
      by_start = λ e.
          let a : p.node ≡ q.node = omega (arith, h.by_node, k.by_node) in
          omega (arith, h.by_start a, k.by_start (omega arith));
      by_end = λ e f.
          let a : p.node ≡ q.node = omega (arith, h.by_node, k.by_node) in
          let b : q.node ≡ r.node = omega arith in
          let c : p.start ≡ q.start = omega (arith, h.by_start a, k.by_start b) in
          omega (arith, h.by_end a c, k.by_end b (omega arith));
    }

-- the order of two entries does not read their counts
recount : (n : ℕ) (q r : Pin) → PinBefore q r → PinBefore (counted q n) r
recount n q r h = record { by_node = h.by_node; by_start = h.by_start; by_end = h.by_end }

recounted : (n : ℕ) (r q : Pin) → PinBefore r q → PinBefore r (counted q n)
recounted n r q h = record { by_node = h.by_node; by_start = h.by_start; by_end = h.by_end }

-- ---- an entry put in

-- what stands from q on: s and a are the answers of `same_span` and `pin_ahead`
abbrev added : Bool → Bool → Pin → Pin → List Pin → List Pin
added s a p q qs =
    elim s [
      | true ↦ counted q (q.count + p.count) ∷ qs
      | false ↦ elim a [ true ↦ p ∷ q ∷ qs | false ↦ q ∷ add_pin p qs ]
    ]

-- what holds of the new entry and of each old one, whatever is added to its count
module _ (P : Pin → Type 0) (p : Pin) (new : P p) (more : (q : Pin) → P q → P (counted q (q.count + p.count))) where
  pub add-all : (ps : List Pin) → All P ps → All P (add_pin p ps)
  unfolding All add_pin
  add-all [] h = (new, tt)
  add-all (q ∷ qs) h = go (same_span p q) (pin_ahead p q) (add-all qs h.1)
    where
      go : (s a : Bool) → All P (add_pin p qs)
          → All P (added s a p q qs)
      go true a ih = (more q h.0, h.1)
      go false true ih = (new, (h.0, h.1))
      go false false ih = (h.0, ih)

pub add-sorted : (p : Pin) (ps : List Pin) → PinsSorted ps → PinsSorted (add_pin p ps)
unfolding All InOrder add_pin
add-sorted p [] h = (tt, tt)
add-sorted p (q ∷ qs) h = go (same_span p q) (pin_ahead p q) (placed p q) (add-sorted p qs h.1)
  where
    go : (s a : Bool) → Placed p q s a → PinsSorted (add_pin p qs)
        → PinsSorted (added s a p q qs)
    go true a l ih = (all_map (recount (q.count + p.count) q) qs h.0, h.1)
    go false true l ih = ((l, all_map (λ r. before_trans p q r l) qs h.0), (h.0, h.1))
    go false false l ih = (add-all (PinBefore q) p l (λ r. recounted (r.count + p.count) q r) qs h.0, ih)

pub add-pinned : (p : Pin) (ps : List Pin) → pinned_in (add_pin p ps) ≡ pinned_in ps + (p.end - p.start) * p.count
unfolding add_pin pinned_in
add-pinned p [] = omega arith
add-pinned p (q ∷ qs) = go (same_span p q) (pin_ahead p q) (placed p q) (add-pinned p qs)
  where
    go : (s a : Bool) → Placed p q s a → pinned_in (add_pin p qs) ≡ pinned_in qs + (p.end - p.start) * p.count
        → pinned_in (added s a p q qs) ≡ (q.end - q.start) * q.count + pinned_in qs + (p.end - p.start) * p.count
    go true a l ih = rw (mul-add, l.start, l.end) (omega arith)
    go false true l ih = omega arith
    go false false l ih = omega arith

-- one more entry where none of that span is there
no_pin_lem : (p : Pin) (qs : List Pin) → All (PinBefore p) qs → has_pin p qs ≡ false
unfolding All has_pin
no_pin_lem p [] h = refl
no_pin_lem p (q ∷ qs) h = go (same_span p q) (pin_ahead p q) (placed p q) (no_pin_lem p qs h.1)
  where
    go : (s a : Bool) → Placed p q s a → has_pin p qs ≡ false → s || has_pin p qs ≡ false
    go true a l ih = absurd (omega (arith, l.end, h.0.by_end l.node l.start))
    go false a l ih = ih

pub add_length : (p : Pin) (ps : List Pin) → PinsSorted ps → length (add_pin p ps) ≡ length ps + plus (not (has_pin p ps)) 0
unfolding All InOrder add_pin has_pin
add_length p [] h = refl
add_length p (q ∷ qs) h = go (same_span p q) (pin_ahead p q) (placed p q) (add_length p qs h.1)
  where
    go : (s a : Bool) → Placed p q s a → length (add_pin p qs) ≡ length qs + plus (not (has_pin p qs)) 0
        → length (added s a p q qs) ≡ suc (length qs) + plus (not (s || has_pin p qs)) 0
    go true a l ih = omega arith
    go false true l ih = rw (no_pin_lem p qs (all_map (λ r. before_trans p q r l) qs h.0)) (omega arith)
    go false false l ih = omega arith

pub add-few : (p : Pin) (ps : List Pin) → length (add_pin p ps) ≤ suc (length ps)
unfolding add_pin
add-few p [] = omega arith
add-few p (q ∷ qs) = go (same_span p q) (pin_ahead p q) (add-few p qs)
  where
    go : (s a : Bool) → length (add_pin p qs) ≤ suc (length qs)
        → length (added s a p q qs) ≤ suc (suc (length qs))
    go true a ih = omega arith
    go false true ih = omega arith
    go false false ih = omega arith

-- ---- one taken off

module _ (P : Pin → Type 0) (fewer : (q : Pin) (n : ℕ) → P q → P (counted q (suc n))) where
  less-all : (n : ℕ) (q : Pin) (qs : List Pin) → P q → All P qs → All P (one_less n q qs)
  unfolding All
  less-all zero q qs h hs = hs
  less-all (suc zero) q qs h hs = hs
  less-all (suc (suc n)) q qs h hs = (fewer q n h, hs)

  pub take_all : (p : Pin) (ps : List Pin) → All P ps → All P (take_pin p ps)
  unfolding All take_pin
  take_all p [] h = tt
  take_all p (q ∷ qs) h = go (same_span p q) (take_all p qs h.1)
    where
      go : (s : Bool) → All P (take_pin p qs) → All P (elim s as (λ z. List Pin) [ true ↦ one_less q.count q qs | false ↦ q ∷ take_pin p qs ])
      go true ih = less-all q.count q qs h.0 h.1
      go false ih = (h.0, ih)

pub take_sorted : (p : Pin) (ps : List Pin) → PinsSorted ps → PinsSorted (take_pin p ps)
unfolding All InOrder take_pin
take_sorted p [] h = tt
take_sorted p (q ∷ qs) h = go (same_span p q) (take_sorted p qs h.1)
  where
    less : (n : ℕ) → PinsSorted (one_less n q qs)
    less zero = h.1
    less (suc zero) = h.1
    less (suc (suc n)) = (all_map (recount (suc n) q) qs h.0, h.1)

    go : (s : Bool) → PinsSorted (take_pin p qs) → PinsSorted (elim s as (λ z. List Pin) [ true ↦ one_less q.count q qs | false ↦ q ∷ take_pin p qs ])
    go true ih = less q.count
    go false ih = (take_all (PinBefore q) (λ r n. recounted (suc n) q r) p qs h.0, ih)

-- the entry's blocks go, once; there was such an entry
pub take_pinned : (p : Pin) (ps : List Pin) → All (λ q. 1 ≤ q.count) ps → has_pin p ps ≡ true
    → pinned_in (take_pin p ps) + (p.end - p.start) ≡ pinned_in ps
unfolding All take_pin has_pin pinned_in
take_pinned p [] h has = cc
take_pinned p (q ∷ qs) h has = go (same_span p q) (pin_ahead p q) (placed p q) has (take_pinned p qs h.1)
  where
    less : (n : ℕ) → 1 ≤ n → SameSpan p q → pinned_in (one_less n q qs) + (p.end - p.start) ≡ (q.end - q.start) * n + pinned_in qs
    less zero f l = absurd (omega arith)
    less (suc zero) f l = rw (l.start, l.end) (omega arith)
    less (suc (suc n)) f l = rw (mul-suc, l.start, l.end) (omega arith)

    go : (s a : Bool) → Placed p q s a → s || has_pin p qs ≡ true → (has_pin p qs ≡ true → pinned_in (take_pin p qs) + (p.end - p.start) ≡ pinned_in qs)
        → pinned_in (elim s as (λ z. List Pin) [ true ↦ one_less q.count q qs | false ↦ q ∷ take_pin p qs ]) + (p.end - p.start)
        ≡ (q.end - q.start) * q.count + pinned_in qs
    go true a l e ih = less q.count h.0 l
    go false a l e ih = omega (arith, ih e)

pub take_less : (p : Pin) (ps : List Pin) → (pinned_in (take_pin p ps) ≤ pinned_in ps) × (length (take_pin p ps) ≤ length ps)
unfolding take_pin pinned_in
take_less p [] = (omega arith, omega arith)
take_less p (q ∷ qs) = go (same_span p q) (take_less p qs)
  where
    less : (n : ℕ) → (pinned_in (one_less n q qs) ≤ (q.end - q.start) * n + pinned_in qs) × (length (one_less n q qs) ≤ suc (length qs))
    less zero = (omega arith, omega arith)
    less (suc zero) = (omega arith, omega arith)
    less (suc (suc n)) = (rw (mul-suc (q.end - q.start) (suc n)) (omega arith), omega arith)

    go : (s : Bool) → (pinned_in (take_pin p qs) ≤ pinned_in qs) × (length (take_pin p qs) ≤ length qs)
        → (pinned_in (elim s as (λ z. List Pin) [ true ↦ one_less q.count q qs | false ↦ q ∷ take_pin p qs ]) ≤ (q.end - q.start) * q.count + pinned_in qs)
        × (length {A = Pin} (elim s as (λ z. List Pin) [ true ↦ one_less q.count q qs | false ↦ q ∷ take_pin p qs ]) ≤ suc (length qs))
    go true ih = less q.count
    go false ih = (omega arith, omega arith)

-- ---- the store

pub pin_length : {t : Tree} {next : ℕ} {x : Store} (sp : Span) → StoreSound t next x → length (pin x sp).pins ≡ length x.pins + pin_need x sp
unfolding pin pin_need
pin_length {x = x} sp s = add_length (pin_of sp 1) x.pins s.pins.sorted

pub unpin_length : (x : Store) (sp : Span) → length (unpin x sp).pins ≤ length x.pins
unfolding unpin
unpin_length x sp = (take_less (pin_of sp 1) x.pins).1

module _ {t : Tree} {next : ℕ} {x : Store} (s : StoreSound t next x) where
  repinned-sound : (ps : List Pin) → length ps ≤ store_pins → PinsSound t ps → pinned_in ps ≤ max_pinned → StoreSound t next (repinned x ps)
  repinned-sound ps few sound most =
      record {
        capacity = s.capacity;
        policy = s.policy;
        records = s.records;
        few = s.few;
        stamp = s.stamp;
        ranges = s.ranges;
        held = s.held;
        held_none = s.held_none;
        entries = refl;
        few_pins = few;
        pins = sound;
        pinned = refl;
        pinned_most = most;
        marks = s.marks;
      }

  pub pin-sound : (sp : Span) → SpanIn t sp → length x.pins + pin_need x sp ≤ store_pins → x.book.pinned + (sp.end - sp.start) ≤ max_pinned
      → StoreSound t next (pin x sp)
  unfolding pin pin_need
  pin-sound sp i few most =
      let p : Pin = pin_of sp 1 in
      repinned-sound (add_pin p x.pins) (rw (pin_length sp s) few)
      (record {
        sorted = add-sorted p x.pins s.pins.sorted;
        inside = add-all (PinInside t) p (record { in_use = i.node; filled = i.filled; ends = i.ends; counted = omega arith })
            (λ q h. record { in_use = h.in_use; filled = h.filled; ends = h.ends; counted = omega (arith, h.counted) }) x.pins s.pins.inside;
      })
      (rw (add-pinned p x.pins) (omega (arith, s.pinned)))

  pub unpin-sound : (sp : Span) → StoreSound t next (unpin x sp)
  unfolding unpin
  unpin-sound sp =
      let p : Pin = pin_of sp 1 in
      repinned-sound (take_pin p x.pins) (omega (arith, unpin_length x sp, s.few_pins))
      (record {
        sorted = take_sorted p x.pins s.pins.sorted;
        inside = take_all (PinInside t) (λ q n h. record { in_use = h.in_use; filled = h.filled; ends = h.ends; counted = omega arith }) p x.pins
            s.pins.inside;
      })
      (omega (arith, (take_less p x.pins).0, s.pinned, s.pinned_most))
