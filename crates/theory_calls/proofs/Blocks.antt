-- Document 02, P1: the blocks that a bring-in and a removal answer are those that the store gained and lost, and what an expiry gives out is what it lost.
-- The law of the store's value, read from the state where it is laid. Assumes nothing.
use Prim.Native.Nat.{ℕ, zero, suc, ◌+◌, ◌<◌}
use mathlib.Core.Path.{◌≡◌, sym, ap, ◌∙◌}
use mathlib.Core.List.{List}
use native.Mathlib.Omega.{arith}
use lib.Ieee.{Float}
use Rattle.model.specs.declared.Span.{Span}
use Rattle.model.specs.declared.Book.{Book}
use Rattle.model.specs.declared.BringAnswer.{BringAnswer}
use Rattle.model.specs.declared.RemoveAnswer.{RemoveAnswer}
use Rattle.model.specs.declared.ExpireAnswer.{ExpireAnswer}
use Rattle.model.specs.State.{State, stores_of, next_id_of, stalls_of, capacity_of, held_of}
use Rattle.model.specs.Sound.{Sound}
use Rattle.model.specs.Store.{Store, store_of, with_ranges, with_next}
use Rattle.model.specs.Trim.{out_blocks, stalls_after}
use Rattle.model.specs.Bring.{Brought, bring_need}
use Rattle.model.specs.Expire.{expire}
use Rattle.model.specs.Refusals.{OutList}
use Rattle.model.specs.Calls.{done, brought, bring_in, store_insert, store_remove, store_expire}
use Rattle.model.proofs.Conserved.{expire-total}
use Rattle.theory_refuse.proofs.Refused.{store_insert-kept, store_remove-kept, store_expire-kept}
use Rattle.theory_lay.proofs.Books.{book-read, next-book}
use Rattle.theory_lay.proofs.Store.{store-book, sound-roomy}
use Rattle.theory_bring.proofs.Bring.{bring-blocks, bring-none}
use Rattle.theory_bring.proofs.Expire.{expire-sound}
use Rattle.theory_touch.proofs.Remove.{remove-blocks}
use Rattle.theory_calls.proofs.Accepted.{unless-done, is-sound, span_in_lem}
use Rattle.theory_calls.proofs.Stores.{store-sound, removed_by}

module _ (st : State) (s need : ℕ) (y : Store) (h : Sound st) (less : s < stores_of st) where
  -- what store s holds once y is laid there
  held-laid : held_of (with_ranges s need y st) s ≡ y.book.held
  unfolding with_ranges
  held-laid = ap (λ (b : Book). b.held) (book-read s st.books (sound-roomy st s h less).store h.lent.books y.book)

  held_next : (next stalls : ℕ) → held_of (with_next next stalls (with_ranges s need y st)) s ≡ y.book.held
  unfolding with_next
  held_next next stalls = ap (λ (b : Book). b.held) (next-book next stalls (with_ranges s need y st).books s) ∙ held-laid

held-is : (st : State) (s : ℕ) → (store_of st s).book.held ≡ held_of st s
held-is st s = ap (λ (b : Book). b.held) (store-book st s)

capacity-is : (st : State) (s : ℕ) → (store_of st s).book.capacity ≡ capacity_of st s
capacity-is st s = ap (λ (b : Book). b.capacity) (store-book st s)

module _ (st : State) (l : OutList) (s : ℕ) (sp : Span) (time : Float) (write : ℕ) where
  held_in : Sound st → s < stores_of st → 0 < capacity_of st s → held_of (bring_in st s sp time write) s ≡ (brought st s sp time write).store.book.held
  unfolding bring_in
  held_in h less some = go (capacity_of st s) some
    where
      need : ℕ
      need = bring_need (store_of st s) sp

      w : Brought
      w = brought st s sp time write

      after : State
      after = with_next (next_id_of st + need) (stalls_after w.stalled (stalls_of st)) (with_ranges s need w.store st)

      go : (c : ℕ) → 0 < c → held_of (elim c [ zero ↦ st | suc d ↦ after ]) s ≡ w.store.book.held
      go zero z = absurd (omega arith)
      go (suc c) z = held_next st s need w.store h less (next_id_of st + need) (stalls_after w.stalled (stalls_of st))

  back_in : capacity_of st s ≡ 0 → bring_in st s sp time write ≡ st
  unfolding bring_in
  back_in e = rw (bring_in, e)

  -- above capacity 0: what is held before and what comes in is what is held after and what is given out
  pub store_insert-blocks : (a : BringAnswer) → (store_insert st l s sp time write).answer ≡ done a → 0 < capacity_of st s
      → held_of (store_insert st l s sp time write).state s + out_blocks (brought st s sp time write).outs ≡ held_of st s + a.blocks
  unfolding store_insert
  store_insert-blocks a e some =
      let d = unless-done _ _ _ (store_insert-kept st l s sp time write) a e in
      let (unsound, (short, (no_store, rest))) = d.none in
      let h = is-sound st unsound in
      let less : s < stores_of st = omega arith in
      let x = store_of st s in
      let b = bring-blocks st.tree st.bytes (next_id_of st) x sp time write (λ z. omega (arith, capacity-is st s)) (store-sound st s h less).held in
      omega (arith, ap (λ (z : State). held_of z s) d.state, held_in h less some, b, held-is st s, ap (λ (z : BringAnswer). z.blocks) d.answer)

  -- at capacity 0 no block comes in, and nothing changes
  pub store_insert-none : (a : BringAnswer) → (store_insert st l s sp time write).answer ≡ done a → capacity_of st s ≡ 0
      → (a.blocks ≡ 0) × ((store_insert st l s sp time write).state ≡ st)
  unfolding store_insert
  store_insert-none a e none =
      let d = unless-done _ _ _ (store_insert-kept st l s sp time write) a e in (
        sym (ap (λ (z : BringAnswer). z.blocks) d.answer)
            ∙ bring-none st.tree st.bytes (next_id_of st) (store_of st s) sp time write (capacity-is st s ∙ none),
        d.state ∙ back_in none,
      )

-- what is held before is what is held after and the blocks that went
pub store_remove-blocks : (st : State) (l : List ℕ) (s : ℕ) (sp : Span) (a : RemoveAnswer) → (store_remove st l s sp).answer ≡ done a
    → held_of (store_remove st l s sp).state s + a.blocks ≡ held_of st s
unfolding store_remove
store_remove-blocks st l s sp a e =
    let d = unless-done _ _ _ (store_remove-kept st l s sp) a e in
    let (unsound, (short, (no_store, (bad_span, rest)))) = d.none in
    let h = is-sound st unsound in
    let less : s < stores_of st = omega arith in
    let w = removed_by st s sp in
    let b = remove-blocks (store_of st s) (next_id_of st) sp (store-sound st s h less) (span_in_lem st.tree sp bad_span) h.counts.first_id in
    omega (
      arith,
      ap (λ (z : State). held_of z s) d.state,
      held_next st s w.need w.store h less (next_id_of st + w.need) (stalls_of st),
      b,
      held-is st s,
      ap (λ (z : RemoveAnswer). z.blocks) d.answer,
    )

pub store_expire-blocks : (st : State) (l : OutList) (s : ℕ) (now seconds : Float) (a : ExpireAnswer) → (store_expire st l s now seconds).answer ≡ done a
    → held_of (store_expire st l s now seconds).state s + out_blocks (expire st.tree st.bytes (store_of st s) now seconds).outs ≡ held_of st s
unfolding store_expire
store_expire-blocks st l s now seconds a e =
    let d = unless-done _ _ _ (store_expire-kept st l s now seconds) a e in
    let (unsound, (short, (no_store, rest))) = d.none in
    let h = is-sound st unsound in
    let less : s < stores_of st = omega arith in
    let w = expire st.tree st.bytes (store_of st s) now seconds in
    let b = expire-total st.tree st.bytes (store_of st s) now seconds in
    let y = expire-sound st.tree st.bytes (store_of st s) now seconds (next_id_of st) (store-sound st s h less) in
    omega (arith, ap (λ (z : State). held_of z s) d.state, held-laid st s 0 w.store h less, b, y.held, (store-sound st s h less).held, held-is st s)
