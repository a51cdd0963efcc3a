-- A removal, an expiry and a bring-in change no more than one store's part, its own numbers, the next id, the stalls and the front of their lists: put back,
-- all of it is as it was. Assumes nothing.
use Prim.Native.Nat.{ℕ, zero, suc, ◌+◌, ◌*◌, ◌≤◌, ◌<◌}
use mathlib.Core.Path.{◌≡◌, refl, ap, subst, ◌∙◌}
use mathlib.Core.List.{List}
use native.Mathlib.Omega.{arith}
use lib.ListN.{length}
use lib.Ieee.{Float}
use Rattle.model.specs.declared.Book.{Book}
use Rattle.model.specs.declared.Span.{Span}
use Rattle.model.specs.declared.BringAnswer.{BringAnswer}
use Rattle.model.specs.declared.RemoveAnswer.{RemoveAnswer}
use Rattle.model.specs.declared.ExpireAnswer.{ExpireAnswer}
use Rattle.model.specs.Sizes.{max_stores, out_places}
use Rattle.model.specs.State.{Tree, Ranges, Pins, State, nodes_in, used_in, next_id_in, stalls_in, book_in, stores_of, next_id_of, stalls_of, records_of, capacity_of}
use Rattle.model.specs.Sound.{Sound}
use Rattle.model.specs.Store.{Store, store_of, lay_book, lay_next, with_ranges, with_next}
use Rattle.model.specs.Trim.{Out, stalls_after}
use Rattle.model.specs.Bring.{Brought, bring_need, bring_blocks}
use Rattle.model.specs.Expire.{expire}
use Rattle.model.specs.Refusals.{OutList, first_of, store_remove_refusals, store_expire_refusals, store_insert_refusals}
use Rattle.model.specs.Calls.{Outcome, Answer, done, unless, front, lay_outs, brought, bring_in, store_insert, store_remove, store_expire}
use Rattle.theory_refuse.proofs.Refused.{store_insert-kept, store_remove-kept, store_expire-kept}
use Rattle.theory_lay.proofs.Store.{records_length}
use Rattle.theory_bring.proofs.Bring.{bring-sound, bring_length, bring-steady}
use Rattle.theory_bring.proofs.Expire.{expire-sound, expire_length, expire-steady}
use Rattle.theory_touch.proofs.Remove.{remove-sound, remove_length, remove-steady}
use Rattle.theory_calls.proofs.Accepted.{unless_holds, span_in_lem, is_finite, neither}
use Rattle.theory_calls.proofs.Changed.{ranges_fit}
use Rattle.theory_calls.proofs.Stores.{store-sound, removed_by, stamp-is}
use Rattle.theory_calls.proofs.Fits.{store_insert-fits, store_remove-fits, store_expire-fits}
use Rattle.shape_state.specs.Lent.{state_of}
use Rattle.shape_answer.specs.Answers.{outcome}
use Rattle.pool_part.specs.Parts.{mid, back, back_ranges}
use Rattle.pool_undo.specs.declared.Old.{Old}
use Rattle.pool_undo.specs.Old.{old_ranges, old_from, old_outs, outs_back, Undoes}
use Rattle.pool_undo.proofs.Undone.{undoes_laid, undoes_same, next-kept, front-back, outs_back_lem, back-mid}

-- ---- the state

module _ (st : State) (s : ℕ) (h : Sound st) (less : s < stores_of st) (low : s < max_stores) where
  pub remove_undoes : (l : List ℕ) (sp : Span) → Undoes s st (store_remove st l s sp).state
  unfolding store_remove
  remove_undoes l sp =
      unless_holds _ _ _ (λ z. Undoes s st z) (store_remove-kept st l s sp) (undoes_same st s h.lent low)
      (λ (unsound, (short, (no_store, (bad_span, (few_records, rest))))).
      let w = removed_by st s sp in
      let own = store-sound st s h less in
      let inside = span_in_lem st.tree sp bad_span in
      let first = h.counts.first_id in
      let room : records_of st s + w.need ≤ 128 = omega (arith, few_records) in
      undoes_laid st s w.need w.store h.lent low
      (ranges_fit st s w.need (next_id_of st + w.need) w.store (remove-steady (store_of st s) (next_id_of st) sp)
      (omega (arith, remove_length (store_of st s) (next_id_of st) sp own inside first, records_length st s)) room
      (remove-sound (store_of st s) (next_id_of st) sp own inside first (omega (arith, records_length st s))))
      (next_id_of st + w.need) (stalls_of st))

  pub expire_undoes : (l : OutList) (now seconds : Float) → Undoes s st (store_expire st l s now seconds).state
  unfolding store_expire
  expire_undoes l now seconds =
      unless_holds _ _ _ (λ z. Undoes s st z) (store_expire-kept st l s now seconds) (undoes_same st s h.lent low)
      (λ none.
      let x = store_of st s in
      let y = (expire st.tree st.bytes x now seconds).store in
      let own = store-sound st s h less in
      let long = records_length st s in
      subst (λ (z : State). Undoes s st z) (next-kept st s 0 y)
      (undoes_laid st s 0 y h.lent low
      (ranges_fit st s 0 (next_id_of st) y (expire-steady st.tree st.bytes x now seconds)
      (omega (arith, expire_length st.tree st.bytes x now seconds, long)) (omega (arith, own.few, long))
      (expire-sound st.tree st.bytes x now seconds (next_id_of st) own))
      (next_id_of st) (stalls_of st)))

  -- where there is a capacity, and where there is none
  module _ (sp : Span) (time : Float) (write : ℕ) where
    x : Store
    x = store_of st s

    w : Brought
    w = brought st s sp time write

    after : State
    after = with_next (next_id_of st + bring_need x sp) (stalls_after w.stalled (stalls_of st)) (with_ranges s (bring_need x sp) w.store st)

    pub insert_undoes : (l : OutList) → Undoes s st (store_insert st l s sp time write).state
    unfolding store_insert bring_in brought x w after
    insert_undoes l =
        unless_holds _ _ _ (λ z. Undoes s st z) (store_insert-kept st l s sp time write) (undoes_same st s h.lent low)
        (λ (unsound, (short, (no_store, (bad_span, (bad_time, (few_records, (late_stamp, rest))))))).
        let own = store-sound st s h less in
        let inside = span_in_lem st.tree sp bad_span in
        let late = neither late_stamp in
        let room : records_of st s + bring_need x sp ≤ 128 = omega (arith, few_records) in
        let laid : Undoes s st after =
        undoes_laid st s (bring_need x sp) w.store h.lent low
        (ranges_fit st s (bring_need x sp) (next_id_of st + bring_need x sp) w.store (bring-steady st.tree st.bytes (next_id_of st) x sp time write)
        (omega (arith, bring_length st.tree st.bytes (next_id_of st) x sp time write, records_length st s)) room
        (bring-sound st.tree st.bytes (next_id_of st) x sp time write own inside (is_finite time bad_time) h.counts.first_id
        (omega (arith, records_length st s)) (omega (arith, stamp-is st s, late.0))))
        (next_id_of st + bring_need x sp) (stalls_after w.stalled (stalls_of st)) in
        go (capacity_of st s) laid)
      where
        go : (c : ℕ) → Undoes s st after → Undoes s st (elim c [ zero ↦ st | suc d ↦ after ])
        go zero u = undoes_same st s h.lent low
        go (suc c) u = u

-- ---- the columns

-- the state that ranges, marks and small numbers make beside what such a call leaves alone; T makes the tree
abbrev pub columns : (ℕ → ℕ → Tree) → Pins → List ℕ → Ranges → List ℕ → List ℕ → State
columns T ps bytes c m x = state_of (T (nodes_in x) (used_in x)) c ps m bytes x

-- at entry, with one dash as the call left them, with two put back: and the lists with them, of which `kept` was kept
module _ (T : ℕ → ℕ → Tree) (ps : Pins) (bytes : List ℕ) (c c' c'' : Ranges) (m m' m'' x x' x'' : List ℕ) (s : ℕ) (old : Old) (b : Book) where
  pub all_back : {L A K : Type 0} {l l' l'' : L} {y : Answer A} {o : Outcome L A} {k kept : K} (put : K → L → L) (z : Answer A)
      → Undoes s (columns T ps bytes c m x) o.state → put k o.lists ≡ l → outcome (columns T ps bytes c' m' x') l' y ≡ o
      → old ≡ old_from s c m → b ≡ book_in x s → kept ≡ k
      → c'' ≡ back_ranges (128 * s) 128 (old_ranges old) c' → m'' ≡ back (256 * s) 256 old.marks m'
      → x'' ≡ lay_next (next_id_in x) (stalls_in x) (lay_book s b x') → l'' ≡ put kept l'
      → outcome (columns T ps bytes c'' m'' x'') l'' z ≡ outcome (columns T ps bytes c m x) l z
  all_back put z u w e is-old is_b is-kept ec em ex el =
      let d : c'' ≡ c = ec ∙ (λ i. back_ranges (128 * s) 128 (old_ranges (is-old i)) (e i).state.ranges) ∙ u.ranges in
      let n : m'' ≡ m = em ∙ (λ i. back (256 * s) 256 (is-old i).marks (e i).state.marks) ∙ u.marks in
      let y : x'' ≡ x = ex ∙ (λ i. lay_next (next_id_in x) (stalls_in x) (lay_book s (is_b i) (e i).state.books)) ∙ u.books in
      let f = el ∙ (λ i. put (is-kept i) (e i).lists) ∙ w in
      (λ i. outcome (columns T ps bytes (d i) (n i) (y i)) (f i) z)

-- the columns, put back
module _ (T : ℕ → ℕ → Tree) (ps : Pins) (bytes : List ℕ) (c c' c'' : Ranges) (m m' m'' x x' x'' : List ℕ) (s : ℕ) (old : Old) (b : Book) where
  abbrev began : State
  began = state_of (T (nodes_in x) (used_in x)) c ps m bytes x

  abbrev made : State
  made = state_of (T (nodes_in x') (used_in x')) c' ps m' bytes x'

  pub state-back : {o : State} → Undoes s began o → made ≡ o → old ≡ old_from s c m → b ≡ book_in x s
      → c'' ≡ back_ranges (128 * s) 128 (old_ranges old) c' → m'' ≡ back (256 * s) 256 old.marks m'
      → x'' ≡ lay_next (next_id_in x) (stalls_in x) (lay_book s b x')
      → state_of (T (nodes_in x'') (used_in x'')) c'' ps m'' bytes x'' ≡ began
  state-back u e k f ec em ex =
      let d : c'' ≡ c = ec ∙ (λ i. back_ranges (128 * s) 128 (old_ranges (k i)) (e i).ranges) ∙ u.ranges in
      let n : m'' ≡ m = em ∙ (λ i. back (256 * s) 256 (k i).marks (e i).marks) ∙ u.marks in
      let y : x'' ≡ x = ex ∙ (λ i. lay_next (next_id_in x) (stalls_in x) (lay_book s (f i) (e i).books)) ∙ u.books in
      (λ i. state_of (T (nodes_in (y i)) (used_in (y i))) (d i) ps (n i) bytes (y i))

-- ---- the lists, where the call was accepted

list_back : (n : ℕ) (st x : State) (xs l : List ℕ) (v a : RemoveAnswer)
    → (unless n st l (record { state = x; lists = front xs l; answer = done v })).answer ≡ done a → length xs ≡ v.writes → a.writes ≤ out_places
    → back 0 out_places (mid 0 out_places l) (unless n st l (record { state = x; lists = front xs l; answer = done v })).lists ≡ l
list_back zero st x xs l v a e w few = let i : v ≡ a = cc in front-back xs l (omega (arith, ap (λ (b : RemoveAnswer). b.writes) i))
list_back (suc n) st x xs l v a e w few = back-mid 0 out_places l

pub writes-back : (st : State) (l : List ℕ) (s : ℕ) (sp : Span) (a : RemoveAnswer) → (store_remove st l s sp).answer ≡ done a
    → back 0 out_places (mid 0 out_places l) (store_remove st l s sp).lists ≡ l
unfolding store_remove
writes-back st l s sp a e =
    let w = removed_by st s sp in
    list_back (first_of (store_remove_refusals st l s sp)) st (with_next (next_id_of st + w.need) (stalls_of st) (with_ranges s w.need w.store st)) w.writes l
    (record { writes = length w.writes; blocks = w.blocks }) a e refl (store_remove-fits st l s sp a e)

given_back : {A : Type 0} (k : A → ℕ) (n : ℕ) (st x : State) (os : List Out) (l : OutList) (v a : A)
    → (unless n st l (record { state = x; lists = lay_outs os l; answer = done v })).answer ≡ done a → length os ≡ k v → k a ≤ out_places
    → outs_back (old_outs l) (unless n st l (record { state = x; lists = lay_outs os l; answer = done v })).lists ≡ l
given_back {A} k zero st x os l v a e w few = let i : v ≡ a = cc in outs_back_lem os l (omega (arith, ap k i))
given_back k (suc n) st x os l v a e w few = let z : ◌≡◌ {A = ℕ} 0 1 = cc in absurd (omega arith)

pub expired-back : (st : State) (l : OutList) (s : ℕ) (now seconds : Float) (a : ExpireAnswer) → (store_expire st l s now seconds).answer ≡ done a
    → outs_back (old_outs l) (store_expire st l s now seconds).lists ≡ l
unfolding store_expire
expired-back st l s now seconds a e =
    let w = expire st.tree st.bytes (store_of st s) now seconds in
    given_back (λ (b : ExpireAnswer). b.outs) (first_of (store_expire_refusals st l s now seconds)) st (with_ranges s 0 w.store st) w.outs l
    (record { outs = length w.outs }) a e refl (store_expire-fits st l s now seconds a e)

pub brought-back : (st : State) (l : OutList) (s : ℕ) (sp : Span) (time : Float) (write : ℕ) (a : BringAnswer) → (store_insert st l s sp time write).answer ≡
    done a
    → outs_back (old_outs l) (store_insert st l s sp time write).lists ≡ l
unfolding store_insert
brought-back st l s sp time write a e =
    let os = (brought st s sp time write).outs in
    given_back (λ (b : BringAnswer). b.outs) (first_of (store_insert_refusals st l s sp time)) st (bring_in st s sp time write) os l
    (record { outs = length os; blocks = bring_blocks (store_of st s) sp }) a e refl (store_insert-fits st l s sp time write a e)
