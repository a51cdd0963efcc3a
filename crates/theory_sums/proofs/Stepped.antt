-- One step: its figures are added to the sums, and what each store holds moves by them, so that the law is kept. A refused step changes nothing; an
-- accepted one is the plain call, of which it is known what the store gained and lost. Assumes nothing.
use Prim.Native.Nat.{ℕ, zero, suc, ◌+◌, ◌≤◌, ◌<◌}
use mathlib.Core.Path.{◌≡◌, refl, sym, ap, subst, ◌∙◌}
use mathlib.Core.Logic.{◌≢◌}
use mathlib.Core.List.{List}
use native.Mathlib.Omega.{arith}
use native.Mathlib.Decide.{ℕ_discrete}
use native.Mathlib.Nat.{add-zero}
use lib.ListN.{length}
use lib.Ieee.{Float}
use Rattle.model.specs.declared.Span.{Span}
use Rattle.model.specs.declared.BringAnswer.{BringAnswer}
use Rattle.model.specs.declared.RemoveAnswer.{RemoveAnswer}
use Rattle.model.specs.declared.ExpireAnswer.{ExpireAnswer}
use Rattle.model.specs.declared.LookupAnswer.{LookupAnswer}
use Rattle.model.specs.Sizes.{max_stores}
use Rattle.model.specs.State.{State, at, stores_of, capacity_of, held_of}
use Rattle.model.specs.Sound.{Sound}
use Rattle.model.specs.Store.{store_of}
use Rattle.model.specs.Trim.{Out, out_blocks}
use Rattle.model.specs.Expire.{expire}
use Rattle.model.specs.Refusals.{OutList}
use Rattle.model.specs.Calls.{Answer, refused, done, Outcome, lay_outs, LookupLists, brought, store_insert, store_remove, store_expire, lookup}
use Rattle.model_sums.specs.Sums.{sum_places, More, add, Passes, add_bring, add_expire, add_remove, add_lookup, more_if, by_bring, by_expire, by_remove, by_lookup, listed_blocks}
use Rattle.model_sums.specs.Tally.{Summed, summed}
use Rattle.theory_history.specs.History.{Call, reply_of}
use Rattle.theory_history.specs.History as History
use Rattle.theory_refuse.proofs.Refused.{store_insert-kept, store_remove-kept, store_expire-kept}
use Rattle.theory_calls.proofs.Accepted.{unless-done}
use Rattle.theory_calls.proofs.Blocks.{store_insert-blocks, store_remove-blocks, store_expire-blocks}
use Rattle.theory_calls.proofs.Calls as Kept
use Rattle.theory_sums.specs.Tallied.{TallyOf}
use Rattle.theory_sums.specs.Balance.{Within}
use Rattle.theory_sums.specs.Steps.{Step, brings, expires, removes, looks, plain, Uncounted, Run, left, after}
use Rattle.theory_sums.specs.Figures.{Figures, nothing, of, given_blocks, of_bring, of_expire, of_remove, of_lookup, figures_if, tells, told, Grew}
use Rattle.theory_sums.proofs.Places.{there, elsewhere, add_length, add-past, add-within}
use Rattle.theory_sums.proofs.Tallied.{tallied_insert, tallied_expire, tallied_remove, tallied_lookup}
use Rattle.theory_sums.proofs.Books.{Same, Every, But, same_start, store_insert-same, store_expire-same, store_remove-same, store_used-same, pin-same, unpin-same, insert-same}
use Rattle.theory_sums.proofs.Made.{insert-made, expire-made}
use Rattle.theory_sums.proofs.Answers.{blocks-list, blocks-laid}
use Rattle.theory_sums.proofs.Amounts.{Adds, grown, bring-adds, expire-adds, remove-adds, look_adds}

-- ---- what store q holds, and the figures

-- what was held and came in is what is held and went
abbrev Moves : Figures → State → State → ℕ → Type 0
Moves f a b q = held_of a q + f.brought q ≡ held_of b q + (f.room q + f.age q + f.removed q)

pub record Moved (f : Figures) (a b : State) : Type 0 where
  pub stores : stores_of b ≡ stores_of a
  pub capacity : (q : ℕ) → capacity_of b q ≡ capacity_of a q
  pub held : (q : ℕ) → q < stores_of a → 0 < capacity_of a q → Moves f a b q

pub record Stepped (r r' : Run) (f : Figures) : Type 0 where
  pub sound : Sound r'.state
  pub size : length r'.sums ≡ length r.sums
  pub within : Within r.sums → Within r'.sums
  pub past : (p : ℕ) → sum_places ≤ p → at r'.sums p ≡ at r.sums p
  pub grew : Grew r.sums r'.sums f
  pub moved : Moved f r.state r'.state

pub grew_none : (v : List ℕ) → Grew v v nothing
grew_none v =
    record {
      brought = λ q l. sym (add-zero _);
      room = λ q l. sym (add-zero _);
      age = λ q l. sym (add-zero _);
      back = λ q l. sym (add-zero _);
      removed = λ q l. sym (add-zero _);
      bytes = λ q l. sym (add-zero _);
      dead = λ q l. sym (add-zero _);
      lookups = sym (add-zero _);
      blocks = sym (add-zero _);
      read = sym (add-zero _);
    }

-- a call that changes no sum, nor what a store holds
stepped_same : (a b : State) (v : List ℕ) → Sound b → Same Every a b
    → Stepped (record { state = a; sums = v }) (record { state = b; sums = v }) nothing
stepped_same a b v sound same =
    record {
      sound = sound;
      size = refl;
      within = λ w. w;
      past = λ p l. refl;
      grew = grew_none v;
      moved = record { stores = same.stores; capacity = same.capacity; held = λ q l c. omega (arith, same.held q tt) };
    }

-- one that adds
stepped_added : {f : Figures} (a b : State) (v : List ℕ) (ms : List More) → Sound b → sum_places ≤ length v → Adds ms f → (Passes ms v → ⊥) → Moved f a b
    → Stepped (record { state = a; sums = v }) (record { state = b; sums = add ms v }) f
stepped_added a b v ms sound long adds low moved =
    record {
      sound = sound;
      size = add_length ms v;
      within = λ w. add-within ms v long adds.inside adds.apart w low;
      past = λ p l. add-past ms v p long adds.inside l;
      grew = grown v long adds;
      moved = moved;
    }

-- ---- a counted call, accepted or refused

module _ {L A : Type 0} {st : State} {l : Summed L} {ms : List More} {o : Outcome L A} {t : Outcome (Summed L) A} (k : TallyOf st l ms o t)
    (f : A → L → Figures) where
  -- what holds where it is refused, and where it is accepted, holds of it
  counted : (P : Run → Figures → Type 0) → P (record { state = st; sums = l.sums }) nothing
      → ((a : A) → o.answer ≡ done a → (Passes ms l.sums → ⊥) → P (record { state = o.state; sums = add ms l.sums }) (f a o.lists))
      → P (left t) (tells t f)
  counted P no_step step = go t.answer refl
    where
      go : (x : Answer A) → t.answer ≡ x → P (left t) (figures_if x (λ a. f a t.lists.lists))
      go (refused n) e =
          let (same, lists) = k.kept n e in
          subst (λ (r : Run). P r nothing)
          (sym
          (ap (λ (x : State). record { state = x; sums = t.lists.sums }) same ∙ ap (λ (y : Summed L). record { state = st; sums = y.sums }) lists))
          no_step
      go (done a) e =
          let h = k.accepted a e in
          let low : Passes ms l.sums → ⊥ =
          λ x.
          let late = k.late.1 (record { value = a; answer = h.answer; passes = x }) in
          let z : ◌≡◌ {A = ℕ} 0 1 = cc in omega arith
          in
          subst (λ (r : Run). P r (f a t.lists.lists))
          (sym
          (ap (λ (x : State). record { state = x; sums = t.lists.sums }) h.state
          ∙ ap (λ (y : List ℕ). record { state = o.state; sums = y }) h.sums))
          (subst (λ (x : L). P (record { state = o.state; sums = add ms l.sums }) (f a x)) (sym h.lists) (step a h.answer low))

-- ---- the blocks that an accepted call gives out are those of its rule

listed-outs : (os : List Out) (l m : OutList) (n : ℕ) → m ≡ lay_outs os l → length os ≡ n → given_blocks n m ≡ out_blocks os
listed-outs os l m n same long =
    sym (blocks-list n m) ∙ ap (listed_blocks n) same ∙ ap (λ (k : ℕ). listed_blocks k (lay_outs os l)) (sym long) ∙ blocks-laid os l

insert-outs : (st : State) (l : OutList) (s : ℕ) (sp : Span) (time : Float) (write : ℕ) (a : BringAnswer) → (store_insert st l s sp time write).answer ≡ done a
    → given_blocks a.outs (store_insert st l s sp time write).lists ≡ out_blocks (brought st s sp time write).outs
insert-outs st l s sp time write a e =
    let (lists, value) = insert-made st l s sp time write a e in
    listed-outs (brought st s sp time write).outs l (store_insert st l s sp time write).lists a.outs lists (ap (λ (x : BringAnswer). x.outs) value)

expire-outs : (st : State) (l : OutList) (s : ℕ) (now seconds : Float) (a : ExpireAnswer) → (store_expire st l s now seconds).answer ≡ done a
    → given_blocks a.outs (store_expire st l s now seconds).lists ≡ out_blocks (expire st.tree st.bytes (store_of st s) now seconds).outs
expire-outs st l s now seconds a e =
    let (lists, value) = expire-made st l s now seconds a e in
    listed-outs (expire st.tree st.bytes (store_of st s) now seconds).outs l (store_expire st l s now seconds).lists a.outs lists
    (ap (λ (x : ExpireAnswer). x.outs) value)

-- ---- what each store holds moves by the figures that the answer tells

-- a figure of store s alone, read of q
own : (s n : ℕ) → of s n s ≡ n
own s n = there s s n refl

another : (s n q : ℕ) → q ≢ s → of s n q ≡ 0
another s n q other = elsewhere q s n other

room-is : (c s : ℕ) (a : BringAnswer) (l : OutList) (q : ℕ) → 0 < c → (of_bring c s a l).room q ≡ of s (given_blocks a.outs l) q
room-is zero s a l q some = absurd (omega arith)
room-is (suc c) s a l q some = refl

-- at capacity 0 nothing counts as given out for room
room-other : (c s : ℕ) (a : BringAnswer) (l : OutList) (q : ℕ) → q ≢ s → (of_bring c s a l).room q ≡ 0
room-other zero s a l q other = refl
room-other (suc c) s a l q other = another s (given_blocks a.outs l) q other

insert-moved : (st : State) (l : OutList) (s : ℕ) (sp : Span) (time : Float) (write : ℕ) (a : BringAnswer) → Sound st
    → (store_insert st l s sp time write).answer ≡ done a
    → Moved (of_bring (capacity_of st s) s a (store_insert st l s sp time write).lists) st (store_insert st l s sp time write).state
insert-moved st l s sp time write a h e =
    record { stores = same.stores; capacity = same.capacity; held = λ q less some. go q some (ℕ_discrete q s) }
  where
    same : Same (But s) st (store_insert st l s sp time write).state
    same = store_insert-same st h l s sp time write

    lists : OutList
    lists = (store_insert st l s sp time write).lists

    f : Figures
    f = of_bring (capacity_of st s) s a lists

    go : (q : ℕ) → 0 < capacity_of st q → Dec (q ≡ s) → Moves f st (store_insert st l s sp time write).state q
    go q some (yes d) =
        let full : 0 < capacity_of st s = rw d at some in
        rw d
        (omega (
          arith,
          store_insert-blocks st l s sp time write a e full,
          insert-outs st l s sp time write a e,
          room-is (capacity_of st s) s a lists s full,
          own s a.blocks,
          own s (given_blocks a.outs lists),
        ))
    go q some (no d) = omega (arith, same.held q d, another s a.blocks q d, room-other (capacity_of st s) s a lists q d)

expire-moved : (st : State) (l : OutList) (s : ℕ) (now seconds : Float) (a : ExpireAnswer) → Sound st → (store_expire st l s now seconds).answer ≡ done a
    → Moved (of_expire s a (store_expire st l s now seconds).lists) st (store_expire st l s now seconds).state
expire-moved st l s now seconds a h e =
    record { stores = same.stores; capacity = same.capacity; held = λ q less some. go q (ℕ_discrete q s) }
  where
    same : Same (But s) st (store_expire st l s now seconds).state
    same = store_expire-same st h l s now seconds

    lists : OutList
    lists = (store_expire st l s now seconds).lists

    go : (q : ℕ) → Dec (q ≡ s) → Moves (of_expire s a lists) st (store_expire st l s now seconds).state q
    go q (yes d) =
        rw d
        (omega (
          arith,
          store_expire-blocks st l s now seconds a e,
          expire-outs st l s now seconds a e,
          own s (given_blocks a.outs lists),
        ))
    go q (no d) = omega (arith, same.held q d, another s (given_blocks a.outs lists) q d)

remove-moved : (st : State) (l : List ℕ) (s : ℕ) (sp : Span) (a : RemoveAnswer) → Sound st → (store_remove st l s sp).answer ≡ done a
    → Moved (of_remove s a) st (store_remove st l s sp).state
remove-moved st l s sp a h e =
    record { stores = same.stores; capacity = same.capacity; held = λ q less some. go q (ℕ_discrete q s) }
  where
    same : Same (But s) st (store_remove st l s sp).state
    same = store_remove-same st h l s sp

    go : (q : ℕ) → Dec (q ≡ s) → Moves (of_remove s a) st (store_remove st l s sp).state q
    go q (yes d) = rw d (omega (arith, store_remove-blocks st l s sp a e, own s a.blocks))
    go q (no d) = omega (arith, same.held q d, another s a.blocks q d)

look_moved : (st : State) (l : LookupLists) (ts hs : List ℕ) (a : LookupAnswer) → Moved (of_lookup a) st (lookup st l ts hs).state
look_moved st l ts hs a =
    subst (Moved (of_lookup a) st) (sym (Kept.lookup-same st l ts hs)) (record { stores = refl; capacity = λ q. refl; held = λ q less some. refl })

-- ---- the step

-- the store of an accepted call is one of eight
module _ (st : State) (h : Sound st) where
  insert-there : (l : OutList) (s : ℕ) (sp : Span) (time : Float) (write : ℕ) (a : BringAnswer) → (store_insert st l s sp time write).answer ≡ done a
      → s < max_stores
  unfolding store_insert
  insert-there l s sp time write a e =
      let (unsound, (short, (no_store, rest))) = (unless-done _ _ _ (store_insert-kept st l s sp time write) a e).none in
      omega (arith, h.counts.stores)

  expire-there : (l : OutList) (s : ℕ) (now seconds : Float) (a : ExpireAnswer) → (store_expire st l s now seconds).answer ≡ done a → s < max_stores
  unfolding store_expire
  expire-there l s now seconds a e =
      let (unsound, (short, (no_store, rest))) = (unless-done _ _ _ (store_expire-kept st l s now seconds) a e).none in
      omega (arith, h.counts.stores)

  remove-there : (l : List ℕ) (s : ℕ) (sp : Span) (a : RemoveAnswer) → (store_remove st l s sp).answer ≡ done a → s < max_stores
  unfolding store_remove
  remove-there l s sp a e =
      let (unsound, (short, (no_store, rest))) = (unless-done _ _ _ (store_remove-kept st l s sp) a e).none in
      omega (arith, h.counts.stores)

module _ (st : State) (v : List ℕ) (h : Sound st) (long : sum_places ≤ length v) where
  abbrev from : Run
  from = record { state = st; sums = v }

  -- a step that leaves the state
  still : (b : State) → b ≡ st → Stepped from (record { state = b; sums = v }) nothing
  still b e =
      subst (λ (x : State). Stepped from (record { state = x; sums = v }) nothing) (sym e)
      (stepped_same st st v h (same_start st.books h.lent.books))

  brings-step : (l : OutList) (s : ℕ) (sp : Span) (time : Float) (write : ℕ)
      → Stepped from (after (brings l s sp time write) from) (told (brings l s sp time write) from)
  brings-step l s sp time write =
      let o = store_insert st l s sp time write in
      counted (tallied_insert st (summed l v) s sp time write long) (of_bring (capacity_of st s) s) (Stepped from) (still st refl)
      (λ a e low.
      stepped_added st o.state v (by_bring (capacity_of st s) s o) (Kept.store_insert-sound st l s sp time write h) long
      (subst (λ (ms : List More). Adds ms (of_bring (capacity_of st s) s a o.lists))
      (sym (ap (λ (x : Answer BringAnswer). more_if x (λ b. add_bring (capacity_of st s) s b o.lists)) e))
      (bring-adds s (insert-there st h l s sp time write a e) a o.lists (capacity_of st s)))
      low (insert-moved st l s sp time write a h e))

  expires-step : (l : OutList) (s : ℕ) (now seconds : Float) → Stepped from (after (expires l s now seconds) from) (told (expires l s now seconds) from)
  expires-step l s now seconds =
      let o = store_expire st l s now seconds in
      counted (tallied_expire st (summed l v) s now seconds long) (of_expire s) (Stepped from) (still st refl)
      (λ a e low.
      stepped_added st o.state v (by_expire s o) (Kept.store_expire-sound st l s now seconds h) long
      (subst (λ (ms : List More). Adds ms (of_expire s a o.lists))
      (sym (ap (λ (x : Answer ExpireAnswer). more_if x (λ b. add_expire s b o.lists)) e))
      (expire-adds s (expire-there st h l s now seconds a e) a o.lists))
      low (expire-moved st l s now seconds a h e))

  removes-step : (l : List ℕ) (s : ℕ) (sp : Span) → Stepped from (after (removes l s sp) from) (told (removes l s sp) from)
  removes-step l s sp =
      let o = store_remove st l s sp in
      counted (tallied_remove st (summed l v) s sp long) (λ a l. of_remove s a) (Stepped from) (still st refl)
      (λ a e low.
      stepped_added st o.state v (by_remove s o) (Kept.store_remove-sound st l s sp h) long
      (subst (λ (ms : List More). Adds ms (of_remove s a))
      (sym (ap (λ (x : Answer RemoveAnswer). more_if x (add_remove s)) e)) (remove-adds s (remove-there st h l s sp a e) a))
      low (remove-moved st l s sp a h e))

  looks-step : (l : LookupLists) (ts hs : List ℕ) → Stepped from (after (looks l ts hs) from) (told (looks l ts hs) from)
  looks-step l ts hs =
      let o = lookup st l ts hs in
      counted (tallied_lookup st (summed l v) ts hs long) (λ a l. of_lookup a) (Stepped from) (still st refl)
      (λ a e low.
      stepped_added st o.state v (by_lookup o) (Kept.lookup-sound st l ts hs h) long
      (subst (λ (ms : List More). Adds ms (of_lookup a))
      (sym (ap (λ (x : Answer LookupAnswer). more_if x add_lookup) e)) (look_adds a))
      low (look_moved st l ts hs a))

  -- ---- a plain call that changes no figure

  plain_step : (c : Call) → Uncounted c → Stepped from (record { state = (reply_of c st).state; sums = v }) nothing
  plain_step (History.set_up table capacity refreshes) u = absurd u
  plain_step (History.resolve l hs) u = still (reply_of (History.resolve l hs) st).state (Kept.resolve_same st l hs)
  plain_step (History.insert l hs) u = stepped_same st _ v (Kept.insert-sound st l hs h) (insert-same st h l hs)
  plain_step (History.store_insert l s sp time write) u = absurd u
  plain_step (History.store_used s sps time c) u = stepped_same st _ v (Kept.store_used-sound st s sps time c h) (store_used-same st h s sps time c)
  plain_step (History.store_remove l s sp) u = absurd u
  plain_step (History.store_expire l s now seconds) u = absurd u
  plain_step (History.pin_source s sp) u = stepped_same st _ v (Kept.pin-sound st s sp h) (pin-same st h s sp)
  plain_step (History.unpin_source s sp) u = stepped_same st _ v (Kept.unpin-sound st s sp h) (unpin-same st h s sp)
  plain_step (History.lookup l ts hs) u = still (reply_of (History.lookup l ts hs) st).state (Kept.lookup-same st l ts hs)
  plain_step (History.store_held s) u = still (reply_of (History.store_held s) st).state (Kept.held_same st s)
  plain_step (History.store_capacity s) u = still (reply_of (History.store_capacity s) st).state (Kept.capacity-same st s)
  plain_step (History.store_pinned s) u = still (reply_of (History.store_pinned s) st).state (Kept.pinned-same st s)
  plain_step (History.store_available s) u = still (reply_of (History.store_available s) st).state (Kept.available_same st s)
  plain_step (History.source_version s) u = still (reply_of (History.source_version s) st).state (Kept.version-same st s)
  plain_step History.pin_stalls u = still (reply_of History.pin_stalls st).state (Kept.stalls-same st)

pub step : (c : Step) (r : Run) → Sound r.state → sum_places ≤ length r.sums → Stepped r (after c r) (told c r)
step (brings l s sp time write) r h long = brings-step r.state r.sums h long l s sp time write
step (expires l s now seconds) r h long = expires-step r.state r.sums h long l s now seconds
step (removes l s sp) r h long = removes-step r.state r.sums h long l s sp
step (looks l ts hs) r h long = looks-step r.state r.sums h long l ts hs
step (plain c u) r h long = plain_step r.state r.sums h long c u
