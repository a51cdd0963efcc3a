-- A pin and an unpin of a sound state: refused with the number of the first test that holds, or done, which leaves the entries as laid and the pinned
-- blocks by the span's length more or less. Assumes nothing.
use Prim.Native.Nat.{ℕ, zero, suc, ◌+◌, ◌-◌, ◌*◌, ◌^◌, ◌≤◌, ◌<◌, zero-le}
use mathlib.Core.Path.{◌≡◌, refl, sym, ap, ◌∙◌}
use mathlib.Core.Bool.{Bool, true, false, not, ◌&&◌, ◌||◌}
use mathlib.Core.List.{List, [], ◌∷◌}
use native.Mathlib.Nat.{mul-le-mul_right, one-mul}
use native.Mathlib.Omega.{arith}
use lib.Dec.{ltb, leb}
use lib.ListN.{length, get_or}
use borrow.Author.Tests.{le-leb, lt-leb, ltb-true, not-false}
use Rattle.model.specs.declared.Span.{Span}
use Rattle.model.specs.declared.Book.{Book}
use Rattle.model.specs.State.{Tree, Ranges, Pins, Pin, State, at, stores_of, entries_of, pinned_of, nodes_in, used_in, stores_in, next_id_in, book_in}
use Rattle.model.specs.Sound.{Sound, PinInside}
use Rattle.model.specs.SoundTest.{sound}
use Rattle.model.specs.Store.{store_of, pins, lay_pins, lay_book, with_pins, pinning, plus}
use Rattle.model.specs.Pins.{pin_of, add_pin, take_pin, has_pin, pinned_in, repinned, pin, pin_need, unpin}
use Rattle.model.specs.Refusals.{first_of, span_in, pin_refusals, unpin_refusals}
use Rattle.model.specs.Calls.{refused, done, NoList, NoValue, pin_source, unpin_source}
use Rattle.shape_state.specs.Lent.{state_of}
use Rattle.shape_answer.specs.Answers.{outcome}
use Rattle.theory_refuse.proofs.Says.{true_says}
use Rattle.theory_refuse.proofs.Sound.{sound-says}
use Rattle.theory_refuse.proofs.Unless.{unless-some, unless-none}
use Rattle.theory_lay.proofs.Rows.{pins_length, pins-at}
use Rattle.theory_sound.specs.Facts.{All}
use Rattle.theory_sound.specs.StoreSound.{StoreSound}
use Rattle.theory_bring.proofs.Facts.{all_map}
use Rattle.theory_cut.proofs.Pins.{add-pinned, take_pinned}
use Rattle.theory_calls.proofs.Stores.{store-sound}
use Rattle.std.specs.Prelude.{Result, Ok, Err, is_ok, is_err, IfOk}
use Rattle.pool_pin.specs.EntryPlace.{PinsFrom, Placed, spans_from}
use Rattle.call_pin.proofs.Laws.{has_is, not-ok, part-lent, fits_in}

-- ---- the first test that holds

-- the number by the tests of 1, 2, 4 and of the last condition
abbrev chosen : ℕ → Bool → Bool → Bool → Bool → ℕ
chosen n a b c d =
    elim a [ true ↦ 1 | false ↦ elim b [ true ↦ 2 | false ↦ elim c [ true ↦ 4 | false ↦ elim d [ true ↦ n | false ↦ 0 ] ] ] ]

-- the state is sound, so the first test fails
module _ (st : State) (h : Sound st) where
  is-sound : not (sound st) ≡ false
  is-sound = ap not (true_says (sound st) (sound-says st) h)

-- the tests of 9 and of 10
abbrev full : State → ℕ → Span → Bool
full st s sp =
    ltb 32 (entries_of st s + pin_need (store_of st s) sp) || ltb 1000000 (pinned_of st s + (sp.end - sp.start))

abbrev absent : State → ℕ → Span → Bool
absent st s sp = not (has_pin (pin_of sp 1) (store_of st s).pins)

module _ (st : State) (s : ℕ) (sp : Span) (h : Sound st) where
  pin-stops : (n : ℕ) → first_of (pin_refusals st s sp) ≡ suc n → outcome st tt (refused (suc n)) ≡ pin_source st s sp
  unfolding pin_source
  pin-stops n e =
      sym (unless-some st tt (outcome (with_pins s (pin_need (store_of st s) sp) (pin (store_of st s) sp) st) tt (done tt)) (first_of (pin_refusals st s sp)) (suc n) e (λ (z : suc n ≡ 0). omega arith))

  pin_goes : first_of (pin_refusals st s sp) ≡ 0
      → outcome (with_pins s (pin_need (store_of st s) sp) (pin (store_of st s) sp) st) tt (done tt) ≡ pin_source st s sp
  unfolding pin_source
  pin_goes e =
      sym (unless-none st tt (outcome (with_pins s (pin_need (store_of st s) sp) (pin (store_of st s) sp) st) tt (done tt)) (first_of (pin_refusals st s sp)) e)

  unpin-stops : (n : ℕ) → first_of (unpin_refusals st s sp) ≡ suc n → outcome st tt (refused (suc n)) ≡ unpin_source st s sp
  unfolding unpin_source
  unpin-stops n e = sym (unless-some st tt (outcome (with_pins s 0 (unpin (store_of st s) sp) st) tt (done tt)) (first_of (unpin_refusals st s sp)) (suc n) e (λ (z : suc n ≡ 0). omega arith))

  unpin_goes : first_of (unpin_refusals st s sp) ≡ 0 → outcome (with_pins s 0 (unpin (store_of st s) sp) st) tt (done tt) ≡ unpin_source st s sp
  unfolding unpin_source
  unpin_goes e = sym (unless-none st tt (outcome (with_pins s 0 (unpin (store_of st s) sp) st) tt (done tt)) (first_of (unpin_refusals st s sp)) e)

  -- each way through the four tests, of a call whose last is n, tested by d
  module _ (n : ℕ) (d : Bool) where
    at_2 : stores_of st ≤ s → chosen n (not (sound st)) (leb (stores_of st) s) (not (span_in st.tree sp)) d ≡ 2
    at_2 l = λ i. chosen n (is-sound st h i) (le-leb (stores_of st) s l i) (not (span_in st.tree sp)) d

    module _ (l : s < stores_of st) where
      at_4 : not (span_in st.tree sp) ≡ true → chosen n (not (sound st)) (leb (stores_of st) s) (not (span_in st.tree sp)) d ≡ 4
      at_4 e = λ i. chosen n (is-sound st h i) (lt-leb (stores_of st) s l i) (e i) d

      at_last : not (span_in st.tree sp) ≡ false → d ≡ true → chosen n (not (sound st)) (leb (stores_of st) s) (not (span_in st.tree sp)) d ≡ n
      at_last e f = λ i. chosen n (is-sound st h i) (lt-leb (stores_of st) s l i) (e i) (f i)

      at_none : not (span_in st.tree sp) ≡ false → d ≡ false → chosen n (not (sound st)) (leb (stores_of st) s) (not (span_in st.tree sp)) d ≡ 0
      at_none e f = λ i. chosen n (is-sound st h i) (lt-leb (stores_of st) s l i) (e i) (f i)

-- the span test, in the code's words
span_test : (t : Tree) (sp : Span) (r : Bool) {x : Bool} → r ≡ span_in t sp → not r ≡ x → not (span_in t sp) ≡ x
span_test t sp r e f = rw (← e) f

-- a span inside its node is nonempty
pub in_order : (t : Tree) (sp : Span) (r : Bool) → r ≡ span_in t sp → not r ≡ false → sp.start < sp.end
in_order t sp r e f =
    ltb-true sp.start sp.end
    (middle (ltb sp.node t.nodes) (ltb sp.start sp.end) (leb sp.end (at t.len sp.node)) (sym e ∙ not-false r f))
  where
    middle : (a b c : Bool) → (a && (b && c)) ≡ true → b ≡ true
    middle true true c e = refl
    middle true false c e = e
    middle false b c e = absurd (let z : ◌≡◌ {A = ℕ} 0 1 = cc in omega arith)

-- an entry's count is at most the pinned blocks
count_most : (t : Tree) (ps : List Pin) (k : ℕ) (d : Pin) → All (PinInside t) ps → k < length ps → (get_or ps k d).count ≤ pinned_in ps
unfolding All pinned_in
count_most t [] k d h l = absurd (omega arith)
count_most t (p ∷ ps) zero d h l =
    let one : 1 ≤ p.end - p.start = omega (arith, h.0.filled) in
    let m : 1 * p.count ≤ (p.end - p.start) * p.count = mul-le-mul_right p.count one in
    omega (arith, one-mul p.count)
count_most t (p ∷ ps) (suc k) d h l = omega (arith, count_most t ps k d h.1 (omega arith))

module _ (t : Tree) (rs : Ranges) (c : Pins) (ms bs ns : List ℕ) (s : ℕ) (sp : Span) (h : Sound (state_of t rs c ms bs ns)) where
  -- ---- 2 and 4

  pub pin_no_store : stores_in ns ≤ s → outcome (state_of t rs c ms bs ns) tt (refused 2) ≡ pin_source (state_of t rs c ms bs ns) s sp
  pin_no_store l =
      pin-stops (state_of t rs c ms bs ns) s sp h 1 (at_2 (state_of t rs c ms bs ns) s sp h 9 (full (state_of t rs c ms bs ns) s sp) l)

  pub unpin_no_store : stores_in ns ≤ s → outcome (state_of t rs c ms bs ns) tt (refused 2) ≡ unpin_source (state_of t rs c ms bs ns) s sp
  unpin_no_store l =
      unpin-stops (state_of t rs c ms bs ns) s sp h 1 (at_2 (state_of t rs c ms bs ns) s sp h 10 (absent (state_of t rs c ms bs ns) s sp) l)

  module _ (less : s < stores_in ns) (r : Bool) (is : r ≡ span_in t sp) where
    pub pin-bad-span : not r ≡ true → outcome (state_of t rs c ms bs ns) tt (refused 4) ≡ pin_source (state_of t rs c ms bs ns) s sp
    pin-bad-span e =
        pin-stops (state_of t rs c ms bs ns) s sp h 3 (at_4 (state_of t rs c ms bs ns) s sp h 9 (full (state_of t rs c ms bs ns) s sp) less (span_test t sp r is e))

    pub unpin-bad-span : not r ≡ true → outcome (state_of t rs c ms bs ns) tt (refused 4) ≡ unpin_source (state_of t rs c ms bs ns) s sp
    unpin-bad-span e =
        unpin-stops (state_of t rs c ms bs ns) s sp h 3 (at_4 (state_of t rs c ms bs ns) s sp h 10 (absent (state_of t rs c ms bs ns) s sp) less (span_test t sp r is e))

-- ---- the span is good and has this place; b is the store's numbers as the code read them, and T the tree by its two counts

module _ (T : ℕ → ℕ → Tree) (rs : Ranges) (c : Pins) (ms bs ns : List ℕ) (s : ℕ) (sp : Span) where
  abbrev tree : Tree
  tree = T (nodes_in ns) (used_in ns)

  -- the state with other pins and other numbers
  abbrev left : Pins → List ℕ → State
  left d l = state_of (T (nodes_in l) (used_in l)) rs d ms bs l

  module _ (h : Sound (left c ns)) (less : s < stores_in ns) (b : Book) (is : b ≡ book_in ns s) where
    part : PinsFrom (32 * s) c
    part = part-lent s c (omega (arith, h.counts.stores)) h.lent.pins

    pub within : (b.entries ≤ 32) × (b.pinned ≤ 1000000)
    within = rw is ((h.counts.each s zero-le less).entries, (h.counts.each s zero-le less).pinned)

    own : StoreSound tree (next_id_in ns) (store_of (left c ns) s)
    own = store-sound (left c ns) s h less

    listed : (store_of (left c ns) s).pins ≡ pins c (32 * s) b.entries
    unfolding store_of
    listed = rw is

    sum : b.pinned ≡ pinned_in (store_of (left c ns) s).pins
    unfolding store_of
    sum = rw is own.pinned

    -- other entries laid and other numbers recorded
    laid-state : (need : ℕ) (ps : List Pin) (c' : Pins) (l : List ℕ) (n v : ℕ) → c' ≡ lay_pins (32 * s) (b.entries + need) ps c → n ≡ length ps
        → l ≡ lay_book s (pinning b n v) ns → v ≡ pinned_in ps → left c' l ≡ with_pins s need (repinned (store_of (left c ns) s) ps) (left c ns)
    unfolding with_pins store_of lay_book
    laid-state need ps c' l n v e f w g =
        let laid : c' ≡ lay_pins (32 * s) ((book_in ns s).entries + need) ps c = rw (← is) e in
        ap (λ (z : List ℕ). left c' z) (w ∙ (λ i. lay_book s (pinning (is i) n v) ns))
        ∙ (λ i. state_of tree rs (laid i) ms bs (lay_book s (pinning (book_in ns s) (f i) (g i)) ns))

    module _ (r : Bool) (good-is : r ≡ span_in tree sp) (good : not r ≡ false) (p : Result ℕ ℕ)
        (place : Placed (spans_from c (32 * s)) b.entries sp p) where
      has : has_pin (pin_of sp 1) (store_of (left c ns) s).pins ≡ is_ok p
      has = rw listed (has_is (32 * s) b.entries c sp p place (rw (← listed) own.pins.sorted))

      need : pin_need (store_of (left c ns) s) sp ≡ plus (is_err p) 0
      unfolding pin_need
      need = ap (λ (x : Bool). plus (not x) 0) has ∙ ap (λ (x : Bool). plus x 0) (not-ok p)

      -- the count of an entry that is there can be raised
      entry_low : (i : ℕ) → i < b.entries → at c.count (32 * s + i) + 1 < 2 ^ 64
      entry_low i l =
          let ps = pins c (32 * s) b.entries in
          let most : b.pinned ≡ pinned_in ps = rw (← listed) sum in
          omega (
            arith,
            within.1,
            most,
            ap (λ (q : Pin). q.count) (pins-at c (32 * s) b.entries i (pin_of sp 1) l),
            count_most tree ps i (pin_of sp 1) (rw (← listed) own.pins.inside) (rw pins_length l),
          )

      count_low : IfOk p (λ i. at c.count (32 * s + i) + 1 < 2 ^ 64)
      count_low = go p place
        where
          go : (r : Result ℕ ℕ) → Placed (spans_from c (32 * s)) b.entries sp r → IfOk r (λ i. at c.count (32 * s + i) + 1 < 2 ^ 64)
          go (Ok i) here = entry_low i here.high
          go (Err i) new = tt

      -- an unpin takes no more off than is pinned
      taken-off : is_ok p ≡ true → b.pinned ≡ pinned_in (take_pin (pin_of sp 1) (store_of (left c ns) s).pins) + (sp.end - sp.start)
      taken-off e =
          let ps = (store_of (left c ns) s).pins in
          sum ∙ sym (take_pinned (pin_of sp 1) ps (all_map (λ q w. w.counted) ps own.pins.inside) (has ∙ e))

      -- ---- 9

      module _ (o : Bool) (over : o ≡ (ltb 32 (b.entries + plus (is_err p) 0) || ltb 1000000 (b.pinned + (sp.end - sp.start)))) where
        tested : (x : Bool) → o ≡ x → full (left c ns) s sp ≡ x
        tested x e =
            let tests : o ≡ (ltb 32 ((book_in ns s).entries + plus (is_err p) 0) || ltb 1000000 ((book_in ns s).pinned + (sp.end - sp.start))) = rw (← is) over in
            ap (λ (k : ℕ). ltb 32 ((book_in ns s).entries + k) || ltb 1000000 ((book_in ns s).pinned + (sp.end - sp.start))) need ∙ sym tests ∙ e

        -- what `add_pin` asks, and the sum that is recorded
        pub to_pin : o ≡ false
            → (b.entries + plus (is_err p) 0 ≤ 32) × Placed (spans_from c (32 * s)) b.entries sp p
            × IfOk p (λ i. at c.count (32 * s + i) + 1 < 2 ^ 64) × PinsFrom (32 * s) c
        to_pin e = ((fits_in (is_err p) b.entries b.pinned (sp.end - sp.start) o over e).0, place, count_low, part)

        pub sum_fits : o ≡ false → b.pinned + (sp.end - sp.start) ≤ 1000000
        sum_fits e = (fits_in (is_err p) b.entries b.pinned (sp.end - sp.start) o over e).1

        pub too_much : o ≡ true → outcome (left c ns) tt (refused 9) ≡ pin_source (left c ns) s sp
        too_much e =
            pin-stops (left c ns) s sp h 8 (at_last (left c ns) s sp h 9 (full (left c ns) s sp) less (span_test tree sp r good-is good) (tested true e))

        pub pin-ends : o ≡ false → (c' : Pins) (l : List ℕ) (n : ℕ)
            → (c' ≡ lay_pins (32 * s) (b.entries + plus (is_err p) 0) (add_pin (pin_of sp 1) (pins c (32 * s) b.entries)) c)
            × (n ≡ length (add_pin (pin_of sp 1) (pins c (32 * s) b.entries)))
            → l ≡ lay_book s (pinning b n (b.pinned + (sp.end - sp.start))) ns
            → outcome (left c' l) tt (done tt) ≡ pin_source (left c ns) s sp
        unfolding pin
        pin-ends e c' l n k w =
            let ps = add_pin (pin_of sp 1) (store_of (left c ns) s).pins in
            let k' : (c' ≡ lay_pins (32 * s) (b.entries + plus (is_err p) 0) ps c) × (n ≡ length ps) = rw listed k in
            let laid = k'.0 ∙ ap (λ (m : ℕ). lay_pins (32 * s) (b.entries + m) ps c) (sym need) in
            let more : b.pinned + (sp.end - sp.start) ≡ pinned_in ps = omega (arith, add-pinned (pin_of sp 1) (store_of (left c ns) s).pins, sum) in
            ap (λ (st : State). outcome {L = NoList} {A = NoValue} st tt (done tt)) (laid-state (pin_need (store_of (left c ns) s) sp) ps c' l n _ laid k'.1 w more)
            ∙ pin_goes (left c ns) s sp h (at_none (left c ns) s sp h 9 (full (left c ns) s sp) less (span_test tree sp r good-is good) (tested false e))

      -- ---- 10

      pub off-fits : is_ok p ≡ true → sp.end - sp.start ≤ b.pinned
      off-fits e = omega (arith, taken-off e)

      pub no_entry_lem : is_ok p ≡ false → outcome (left c ns) tt (refused 10) ≡ unpin_source (left c ns) s sp
      no_entry_lem e =
          unpin-stops (left c ns) s sp h 9 (at_last (left c ns) s sp h 10 (absent (left c ns) s sp) less (span_test tree sp r good-is good) (ap not (has ∙ e)))

      pub unpin-ends : is_ok p ≡ true → (c' : Pins) (l : List ℕ) (n : ℕ)
          → (c' ≡ lay_pins (32 * s) b.entries (take_pin (pin_of sp 1) (pins c (32 * s) b.entries)) c)
          × (n ≡ length (take_pin (pin_of sp 1) (pins c (32 * s) b.entries)))
          → l ≡ lay_book s (pinning b n (b.pinned - (sp.end - sp.start))) ns
          → outcome (left c' l) tt (done tt) ≡ unpin_source (left c ns) s sp
      unfolding unpin
      unpin-ends e c' l n k w =
          let ps = take_pin (pin_of sp 1) (store_of (left c ns) s).pins in
          let k' : (c' ≡ lay_pins (32 * s) b.entries ps c) × (n ≡ length ps) = rw listed k in
          let zero_more : b.entries ≡ b.entries + 0 = omega arith in
          let laid = k'.0 ∙ ap (λ (m : ℕ). lay_pins (32 * s) m ps c) zero_more in
          let less_by : b.pinned - (sp.end - sp.start) ≡ pinned_in ps = omega (arith, taken-off e) in
          ap (λ (st : State). outcome {L = NoList} {A = NoValue} st tt (done tt)) (laid-state 0 ps c' l n _ laid k'.1 w less_by)
          ∙ unpin_goes (left c ns) s sp h (at_none (left c ns) s sp h 10 (absent (left c ns) s sp) less (span_test tree sp r good-is good) (ap not (has ∙ e)))
