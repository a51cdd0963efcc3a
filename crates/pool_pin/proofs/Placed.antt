-- A span's place among a store's entries says what an added pin and one taken off make of them; then the search for it. Assumes nothing.
use Prim.Native.Nat.{ℕ, suc, ◌+◌, ◌-◌, ◌≤◌, ◌<◌}
use mathlib.Core.Path.{◌≡◌, refl, sym, ap, ◌∙◌}
use mathlib.Core.List.{List, ◌++◌}
use native.Mathlib.Nat.{add-zero, le_of_lt}
use native.Mathlib.Numerals.{add-one}
use native.Mathlib.Omega.{arith}
use lib.ListN.{length, get_or, set, take, drop, length-set}
use lib.Seq.{set_split}
use lib.Dec.{eqb}
use mathlib.Core.Bool.{Bool, true, false}
use borrow.Author.Tests.{eqb-true, eqb-false}
use Rattle.std.specs.Prelude.{Result, Ok, Err, is_err}
use Rattle.shape_state.specs.Lent.{pins_of}
use Rattle.model.specs.declared.Span.{Span}
use Rattle.model.specs.State.{Pins, Pin, pin_at, at}
use Rattle.model.specs.Store.{pins, lay_pins, plus}
use Rattle.model.specs.Pins.{pin_of, same_span, pin_ahead, counted, add_pin, one_less, take_pin}
use Rattle.pool_range.specs.Cols.{insert_at, remove_at}
use Rattle.pool_range.proofs.Laid.{length_insert_at, length_remove_at}
use Rattle.theory_lay.proofs.Rows.{pins-at, pins_length}
use Rattle.pool_pin.specs.EntryPlace.{PinsFrom, same, before, Passed, Stands, GoesIn, Placed, spans_from}
use Rattle.pool_pin.proofs.Entries.{Behind, add-there, take_there, add-new, less-count, less-gone}
use Rattle.pool_pin.proofs.Columns.{set_given}

removed : (i : ℕ) (xs : List Pin) → take i xs ++ drop (suc i) xs ≡ remove_at i xs
unfolding remove_at
removed i xs = rw add-one

-- ---- k pins of a span at its place

module _ (a n : ℕ) (c : Pins) (sp : Span) (k i : ℕ) where
  -- an entry of the list is what stands in the pool
  read : (j : ℕ) → j < n → get_or (pins c a n) j (pin_of sp k) ≡ pin_at c (a + j)
  read j h = pins-at c a n j (pin_of sp k) h

  listed : Passed (spans_from c a) sp i → i ≤ n → Behind (pin_of sp k) (pins c a n) i
  listed passed high j h =
      let e = read j (omega arith) in
      (ap (same_span (pin_of sp k)) e ∙ (passed j h).0, ap (pin_ahead (pin_of sp k)) e ∙ (passed j h).1)

  module _ (here : Stands (spans_from c a) n sp i) where
    pub in_list : i < length (pins c a n)
    in_list = rw pins_length here.high

    behind : Behind (pin_of sp k) (pins c a n) i
    behind = listed here.passed (le_of_lt here.high)

    same-there : same_span (pin_of sp k) (get_or (pins c a n) i (pin_of sp k)) ≡ true
    same-there = ap (same_span (pin_of sp k)) (read i here.high) ∙ here.found

    pub count-there : (get_or (pins c a n) i (pin_of sp k)).count ≡ at c.count (a + i)
    count-there = ap (λ (q : Pin). q.count) (read i here.high)

    add-is-set : add_pin (pin_of sp k) (pins c a n)
        ≡ set (pins c a n) i (counted (get_or (pins c a n) i (pin_of sp k)) (at c.count (a + i) + k))
    add-is-set =
        add-there (pin_of sp k) (pins c a n) i behind in_list same-there
        ∙ ap (λ (v : ℕ). set (pins c a n) i (counted (get_or (pins c a n) i (pin_of sp k)) (v + k))) count-there

    take_is-less : take_pin (pin_of sp k) (pins c a n)
        ≡ take i (pins c a n)
        ++ one_less (at c.count (a + i)) (get_or (pins c a n) i (pin_of sp k)) (drop (suc i) (pins c a n))
    take_is-less =
        take_there (pin_of sp k) (pins c a n) i behind in_list same-there
        ∙ ap (λ (v : ℕ). take i (pins c a n) ++ one_less v (get_or (pins c a n) i (pin_of sp k)) (drop (suc i) (pins c a n))) count-there

    pub long-there : length (add_pin (pin_of sp k) (pins c a n)) ≡ n
    long-there = ap length add-is-set ∙ length-set (pins c a n) i _ ∙ pins_length c a n

    module _ (few : n ≤ 32) (lent : PinsFrom a c) where
      -- k more on the entry
      pub add-on : pins_of c.node c.start c.end (set c.count (a + i) (at c.count (a + i) + k))
          ≡ lay_pins a (n + 0) (add_pin (pin_of sp k) (pins c a n)) c
      add-on = set_given a n c few lent i (at c.count (a + i) + k) (pin_of sp k) here.high ∙ rw (add-is-set, add-zero)

      -- one off
      pub take_off : 1 < at c.count (a + i)
          → (pins_of c.node c.start c.end (set c.count (a + i) (at c.count (a + i) - 1))
          ≡ lay_pins a n (take_pin (pin_of sp k) (pins c a n)) c)
          × (n ≡ length (take_pin (pin_of sp k) (pins c a n)))
      take_off more =
          let ps = pins c a n in
          let v = at c.count (a + i) in
          let q = get_or ps i (pin_of sp k) in
          let is : take_pin (pin_of sp k) ps ≡ set ps i (counted q (v - 1)) =
          take_is-less
          ∙ ap (λ (l : List Pin). take i ps ++ l) (less-count v q (drop (suc i) ps) more)
          ∙ sym (set_split ps i (counted q (v - 1)) in_list) in (
            set_given a n c few lent i (v - 1) (pin_of sp k) here.high ∙ ap (λ (l : List Pin). lay_pins a n l c) (sym is),
            sym (ap length is ∙ length-set ps i (counted q (v - 1)) ∙ pins_length c a n),
          )

    -- the entry goes with its last
    pub take_last : (c' : Pins) → at c.count (a + i) ≤ 1 → c' ≡ lay_pins a n (remove_at i (pins c a n)) c
        → (c' ≡ lay_pins a n (take_pin (pin_of sp k) (pins c a n)) c) × (n - 1 ≡ length (take_pin (pin_of sp k) (pins c a n)))
    take_last c' one e =
        let ps = pins c a n in
        let v = at c.count (a + i) in
        let q = get_or ps i (pin_of sp k) in
        let is : take_pin (pin_of sp k) ps ≡ remove_at i ps =
        take_is-less
        ∙ ap (λ (l : List Pin). take i ps ++ l) (less-gone v q (drop (suc i) ps) one)
        ∙ removed i ps in (
          e ∙ ap (λ (l : List Pin). lay_pins a n l c) (sym is),
          sym (ap length is ∙ length_remove_at (pin_of sp k) i ps in_list ∙ ap (λ (j : ℕ). j - 1) (pins_length c a n)),
        )

  module _ (new : GoesIn (spans_from c a) n sp i) where
    high : i ≤ length (pins c a n)
    high = rw pins_length new.high

    add-is-insert : add_pin (pin_of sp k) (pins c a n) ≡ insert_at i (pin_of sp k) (pins c a n)
    add-is-insert =
        add-new (pin_of sp k) (pins c a n) i (listed new.passed new.high) high
        (λ h.
        let l : i < n = rw pins_length at h in
        let e = read i l in
        (ap (same_span (pin_of sp k)) e ∙ (new.next l).0, ap (pin_ahead (pin_of sp k)) e ∙ (new.next l).1))

    pub long-new : length (add_pin (pin_of sp k) (pins c a n)) ≡ n + 1
    long-new =
        ap length add-is-insert
        ∙ length_insert_at (pin_of sp k) i (pin_of sp k) (pins c a n) high
        ∙ ap (λ (j : ℕ). j + 1) (pins_length c a n)

    -- a new entry
    pub add_in : (c' : Pins) → c' ≡ lay_pins a (n + 1) (insert_at i (pin_of sp k) (pins c a n)) c
        → c' ≡ lay_pins a (n + 1) (add_pin (pin_of sp k) (pins c a n)) c
    add_in c' e = e ∙ rw add-is-insert

-- how many entries there are then
pub add-long : (a n : ℕ) (c : Pins) (sp : Span) (k : ℕ) (r : Result ℕ ℕ) → Placed (spans_from c a) n sp r → length (add_pin (pin_of sp k) (pins c a n)) ≡ n + plus (is_err r) 0
add-long a n c sp k (Ok i) here = long-there a n c sp k i here ∙ rw add-zero
add-long a n c sp k (Err i) new = long-new a n c sp k i new

-- ---- bounds

pub few : {n : ℕ} (r : Result ℕ ℕ) → n + plus (is_err r) 0 ≤ 32 → n ≤ 32
few r h = omega arith

-- ---- the search

pub pass-on : (spans : ℕ → Span) (sp : Span) (i : ℕ) → Passed spans sp i → same sp (spans i) ≡ false → before sp (spans i) ≡ false → Passed spans sp (i + 1)
pass-on spans sp i o e f k h = go (eqb k i) refl
  where
    go : (b : Bool) → eqb k i ≡ b → (same sp (spans k) ≡ false) × (before sp (spans k) ≡ false)
    go true t = let z : k ≡ i = eqb-true k i t in rw z (e, f)
    go false t = let z : k ≡ i → ⊥ = eqb-false k i t in o k (omega arith)
