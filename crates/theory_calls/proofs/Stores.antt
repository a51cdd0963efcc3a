-- Each call on a store keeps the state sound: the law of the store's value, laid back into the state. A caller with a sound state in hand cites these: they
-- ask what the refusals test, and no refusal list. Assumes nothing.
use Prim.Native.Nat.{ℕ, zero, suc, ◌+◌, ◌-◌, ◌≤◌, ◌<◌, zero-le}
use mathlib.Core.Path.{◌≡◌, refl, ap, subst}
use mathlib.Core.Bool.{Bool, true, false}
use mathlib.Core.List.{List, [], ◌∷◌}
use native.Mathlib.Omega.{arith}
use native.Mathlib.Decide.{ℕ_discrete}
use lib.ListN.{length}
use lib.Ieee.{Float}
use Rattle.model.specs.declared.Span.{Span}
use Rattle.model.specs.declared.Book.{Book}
use Rattle.model.specs.Sizes.{store_records, store_pins, max_pinned, max_stamp, max_stalls}
use Rattle.model.specs.State.{State, stores_of, next_id_of, stalls_of, capacity_of, records_of, held_of, stamp_of, entries_of, pinned_of}
use Rattle.model.specs.Sound.{Sound, Finite}
use Rattle.model.specs.Store.{Store, store_of, with_ranges, with_pins, with_next}
use Rattle.model.specs.Trim.{stalls_after}
use Rattle.model.specs.Bring.{Brought, bring_need}
use Rattle.model.specs.Remove.{Removed, remove}
use Rattle.model.specs.Expire.{expire}
use Rattle.model.specs.Pins.{pin, pin_need, unpin}
use Rattle.model.specs.Refusals.{SpanIn, touched_by, touch_span, turn_refusals}
use Rattle.model.specs.Calls.{brought, bring_in, touch_spans}
use Rattle.theory_lay.proofs.Books.{book-read, book-other}
use Rattle.theory_lay.proofs.Store.{sound-roomy, records_length, entries_length}
use Rattle.theory_sound.specs.Facts.{All, IdsFrom}
use Rattle.theory_sound.specs.StoreSound.{StoreSound}
use Rattle.theory_bring.proofs.Facts.{Steady}
use Rattle.theory_bring.proofs.Bring.{bring-sound, bring-ids, bring_length, bring-steady}
use Rattle.theory_bring.proofs.Expire.{expire-sound, expire-ids, expire_length, expire-steady}
use Rattle.theory_touch.proofs.Touch.{touch-sound, touch-ids, touch_length, touch-steady}
use Rattle.theory_touch.proofs.Remove.{remove-sound, remove-ids, remove_length, remove-steady}
use Rattle.theory_cut.proofs.Pins
use Rattle.theory_calls.proofs.Parts.{sound-parts, parts-sound}
use Rattle.theory_calls.proofs.Changed.{Unmoved, ranges-changed, ranges-kept, pins-changed}
use Rattle.theory_calls.proofs.Accepted.{NoneHolds, neither}

stalls-most : (b : Bool) (n : ℕ) → n ≤ max_stalls → stalls_after b n ≤ max_stalls
stalls-most true n l = omega arith
stalls-most false n l = l

pub stamp-is : (st : State) (s : ℕ) → (store_of st s).book.stamp ≡ stamp_of st s
unfolding store_of
stamp-is st s = refl

pinned-is : (st : State) (s : ℕ) → (store_of st s).book.pinned ≡ pinned_of st s
unfolding store_of
pinned-is st s = refl

-- store s of a sound state
pub store-sound : (st : State) (s : ℕ) → Sound st → s < stores_of st → StoreSound st.tree (next_id_of st) (store_of st s)
store-sound st s h less = (sound-parts st h).each s zero-le less

-- what a removal does to store s
abbrev pub removed_by : State → ℕ → Span → Removed
removed_by st s sp = remove (store_of st s) (next_id_of st) sp

module _ (st : State) (s : ℕ) (h : Sound st) (less : s < stores_of st) where
  own : StoreSound st.tree (next_id_of st) (store_of st s)
  own = store-sound st s h less

  -- y for store s, with as many new ids as new records
  changed-sound : (need stalls : ℕ) (y : Store) → stalls ≤ max_stalls → records_of st s + need ≤ store_records
      → next_id_of st + need ≤ max_stamp → Steady (store_of st s) y → length y.ranges ≤ length (store_of st s).ranges + need
      → StoreSound st.tree (next_id_of st + need) y → IdsFrom (store_of st s).ranges (next_id_of st) y.ranges
      → Sound (with_next (next_id_of st + need) stalls (with_ranges s need y st))
  changed-sound need stalls y most room last steady few sound ids =
      parts-sound (with_next (next_id_of st + need) stalls (with_ranges s need y st))
      (ranges-changed st s need (next_id_of st + need) stalls y (sound-parts st h) less steady (omega (arith, records_length st s)) room
      (omega arith) last most sound ids)

  pub bring_in-sound : (sp : Span) (time : Float) (write : ℕ) → SpanIn st.tree sp → Finite time
      → records_of st s + bring_need (store_of st s) sp ≤ store_records
      → stamp_of st s + bring_need (store_of st s) sp ≤ max_stamp
      → next_id_of st + bring_need (store_of st s) sp ≤ max_stamp → Sound (bring_in st s sp time write)
  unfolding bring_in brought
  bring_in-sound sp time write inside finite room top last = go (capacity_of st s)
    where
      x : Store
      x = store_of st s

      w : Brought
      w = brought st s sp time write

      after : State
      after =
          with_next (next_id_of st + bring_need x sp) (stalls_after w.stalled (stalls_of st)) (with_ranges s (bring_need x sp) w.store st)

      after-sound : Sound after
      after-sound =
          changed-sound (bring_need x sp) (stalls_after w.stalled (stalls_of st)) w.store
          (stalls-most w.stalled (stalls_of st) h.counts.stalls) room last
          (bring-steady st.tree st.bytes (next_id_of st) x sp time write)
          (bring_length st.tree st.bytes (next_id_of st) x sp time write)
          (bring-sound st.tree st.bytes (next_id_of st) x sp time write own inside finite h.counts.first_id
          (omega (arith, records_length st s)) (omega (arith, stamp-is st s)))
          (bring-ids st.tree st.bytes (next_id_of st) x sp time write)

      go : (c : ℕ) → Sound (elim c [ zero ↦ st | suc d ↦ after ])
      go zero = h
      go (suc c) = after-sound

  pub touch_span-sound : (sp : Span) (time : Float) (counted : Bool) → SpanIn st.tree sp → Finite time
      → records_of st s + (touched_by st s sp time counted).need ≤ store_records
      → stamp_of st s + (touched_by st s sp time counted).stamps ≤ max_stamp
      → next_id_of st + (touched_by st s sp time counted).need ≤ max_stamp → Sound (touch_span st s sp time counted)
  unfolding touch_span
  touch_span-sound sp time counted inside finite room top last =
      let x = store_of st s in
      let w = touched_by st s sp time counted in
      let first = h.counts.first_id in
      changed-sound w.need (stalls_of st) w.store h.counts.stalls room last
      (touch-steady st.tree st.bytes x (next_id_of st) sp time counted)
      (touch_length st.tree st.bytes x (next_id_of st) sp time counted own inside finite first)
      (touch-sound st.tree st.bytes x (next_id_of st) sp time counted own inside finite first (omega (arith, records_length st s))
      (omega (arith, stamp-is st s)))
      (touch-ids st.tree st.bytes x (next_id_of st) sp time counted own inside finite first)

  pub remove_in_sound : (sp : Span) → SpanIn st.tree sp → records_of st s + (removed_by st s sp).need ≤ store_records
      → next_id_of st + (removed_by st s sp).need ≤ max_stamp
      → Sound (with_next (next_id_of st + (removed_by st s sp).need) (stalls_of st) (with_ranges s (removed_by st s sp).need (removed_by st s sp).store st))
  remove_in_sound sp inside room last =
      let x = store_of st s in
      let w = removed_by st s sp in
      let first = h.counts.first_id in
      changed-sound w.need (stalls_of st) w.store h.counts.stalls room last (remove-steady x (next_id_of st) sp)
      (remove_length x (next_id_of st) sp own inside first)
      (remove-sound x (next_id_of st) sp own inside first (omega (arith, records_length st s)))
      (remove-ids x (next_id_of st) sp own inside first)

  pub expire_in_sound : (now seconds : Float) → Sound (with_ranges s 0 (expire st.tree st.bytes (store_of st s) now seconds).store st)
  expire_in_sound now seconds =
      let x = store_of st s in
      let y = (expire st.tree st.bytes x now seconds).store in
      let long = records_length st s in
      parts-sound (with_ranges s 0 y st)
      (ranges-kept st s 0 y (sound-parts st h) less (expire-steady st.tree st.bytes x now seconds)
      (omega (arith, expire_length st.tree st.bytes x now seconds, long)) (omega (arith, own.few, long))
      (expire-sound st.tree st.bytes x now seconds (next_id_of st) own)
      (expire-ids st.tree st.bytes x now seconds (next_id_of st)))

  -- ---- pins

  pub pin_in_sound : (sp : Span) → SpanIn st.tree sp → entries_of st s + pin_need (store_of st s) sp ≤ store_pins
      → pinned_of st s + (sp.end - sp.start) ≤ max_pinned → Sound (with_pins s (pin_need (store_of st s) sp) (pin (store_of st s) sp) st)
  unfolding pin
  pin_in_sound sp inside room most =
      let x = store_of st s in
      let long = entries_length st s in
      let unmoved : Unmoved x (pin x sp) = record { records = refl; ranges = refl; marks = refl } in
      parts-sound (with_pins s (pin_need x sp) (pin x sp) st)
      (pins-changed st s (pin_need x sp) (pin x sp) (sound-parts st h) less unmoved (omega (arith, Pins.pin_length sp own, long)) room
      (Pins.pin-sound own sp inside (omega arith) (omega (arith, pinned-is st s))))

  pub unpin_in_sound : (sp : Span) → Sound (with_pins s 0 (unpin (store_of st s) sp) st)
  unfolding unpin
  unpin_in_sound sp =
      let x = store_of st s in
      let long = entries_length st s in
      let unmoved : Unmoved x (unpin x sp) = record { records = refl; ranges = refl; marks = refl } in
      parts-sound (with_pins s 0 (unpin x sp) st)
      (pins-changed st s 0 (unpin x sp) (sound-parts st h) less unmoved (omega (arith, Pins.unpin_length x sp, long)) (omega (arith, own.few_pins, long))
      (Pins.unpin-sound own sp))

  -- an unpin leaves what every store holds
  pub unpin_in_held : (sp : Span) (q : ℕ) → held_of (with_pins s 0 (unpin (store_of st s) sp) st) q ≡ held_of st q
  unfolding with_pins unpin store_of
  unpin_in_held sp q = go (ℕ_discrete q s)
    where
      go : Dec (q ≡ s) → held_of (with_pins s 0 (unpin (store_of st s) sp) st) q ≡ held_of st q
      go (yes e) =
          rw e
          (ap (λ (b : Book). b.held) (book-read s st.books (sound-roomy st s h less).store h.lent.books (unpin (store_of st s) sp).book))
      go (no other) =
          ap (λ (b : Book). b.held)
          (book-other s st.books (sound-roomy st s h less).store h.lent.books (unpin (store_of st s) sp).book q other)

-- ---- the spans of a touch, in turn

touch-tree : (st : State) (s : ℕ) (sp : Span) (time : Float) (counted : Bool) → st.tree ≡ (touch_span st s sp time counted).tree
unfolding touch_span
touch-tree st s sp time counted = refl

touch-stores : (st : State) (s : ℕ) (sp : Span) (time : Float) (counted : Bool) → stores_of st ≡ stores_of (touch_span st s sp time counted)
unfolding touch_span
touch-stores st s sp time counted = refl

pub touch_spans-sound : (st : State) (s : ℕ) (sps : List Span) (time : Float) (counted : Bool) → Sound st → s < stores_of st
    → All (SpanIn st.tree) sps → Finite time → NoneHolds (turn_refusals st s sps time counted) → Sound (touch_spans st s sps time counted)
unfolding touch_spans All
touch_spans-sound st s [] time counted h less inside finite none = h
touch_spans-sound st s (sp ∷ sps) time counted h less inside finite none =
    let late = neither none.1.0 in
    touch_spans-sound (touch_span st s sp time counted) s sps time counted
    (touch_span-sound st s h less sp time counted inside.0 finite (omega (arith, none.0)) late.0 late.1)
    (rw (touch-stores st s sp time counted) at less)
    (subst (λ t. All (SpanIn t) sps) (touch-tree st s sp time counted) inside.1) finite none.1.1
