-- Demand 2's history: after any calls from set-up, accepted or refused, each store's ranges are sorted and disjoint and hold exactly the blocks brought in
-- and not since given out or removed, and held is their number. Assumes nothing.
use Prim.Native.Nat.{ℕ, zero, suc, ◌<◌}
use mathlib.Core.Bool.{Bool}
use mathlib.Core.Path.{◌≡◌, refl, ap, subst}
use mathlib.Core.Logic.{inl, inr}
use mathlib.Core.List.{List, [], ◌∷◌}
use native.Mathlib.Omega.{arith}
use Rattle.model.specs.State.{State, stores_of, held_of}
use Rattle.model.specs.Sound.{Sound}
use Rattle.model.specs.Store.{store_of, ranges}
use Rattle.model.specs.declared.Book.{Book}
use Rattle.model.specs.Sizes.{max_stores}
use Rattle.model.specs.SetUp.{SetUpFits, set_up_state}
use Rattle.theory_lay.proofs.SetUp.{new-book}
use Rattle.model.specs.Refusals.{first_of, set_up_refusals}
use Rattle.model.specs.Calls as Calls
use Rattle.model.specs.Calls.{done, Outcome, NoList, NoValue}
use Rattle.theory_refuse.proofs.Refused.{set_up-kept}
use Rattle.theory_refuse.proofs.Unless.{unless-none}
use Rattle.theory_bring.proofs.Facts.{all_map}
use Rattle.theory_calls.proofs.Accepted.{unless-done, set_up_fits_lem, none_where}
use Rattle.theory_calls.proofs.Stores.{store-sound}
use Rattle.theory_calls.proofs.Calls as Kept
use Rattle.model.specs.Blocks.{Holds}
use Rattle.theory_history.specs.Names.{name_of}
use Rattle.theory_history.specs.History.{Call, set_up, resolve, insert, store_insert, store_used, store_remove, store_expire, pin_source, unpin_source, lookup, store_held, store_capacity, store_pinned, store_available, source_version, pin_stalls, by_set_up, reply_of, History, next, tell, since, run, nothing, Exactly, Steps, run_all, since_all}
use Rattle.theory_history.proofs.Exact.{real-held, same_block, Exact, still}
use Rattle.theory_history.proofs.Steps.{each_way, store_insert_exact, store_remove_exact, store_expire_exact, store_used_exact, pin_exact, unpin_exact}
use Rattle.theory_history.proofs.Insert.{insert_exact}
use Rattle.theory_history.proofs.Number.{names_of, names_length, names-held, held-names, names-once}

-- ---- set-up

no_ranges : (st : State) (q n : ℕ) → n ≡ 0 → ranges st.ranges q n ≡ []
unfolding ranges
no_ranges st q zero e = refl
no_ranges st q (suc n) e = absurd (omega arith)

fresh-empty : (pools : State) (table capacity : List ℕ) (refreshes : List Bool) → SetUpFits pools table capacity refreshes
    → (q n o : ℕ) → q < max_stores → Holds (store_of (set_up_state pools table capacity refreshes) q).ranges n o → ⊥
unfolding set_up_state store_of Holds
fresh-empty pools table capacity refreshes fits q n o less h =
    subst (λ rs. Holds rs n o) (no_ranges pools _ _ (ap (λ (b : Book). b.records) (new-book pools table capacity refreshes fits q less))) h

module _ (a : State) (table capacity : List ℕ) (refreshes : List Bool) where
  abbrev n₀ : ℕ
  n₀ = first_of (set_up_refusals a table capacity refreshes)

  made : Outcome NoList NoValue
  made = record { state = set_up_state a table capacity refreshes; lists = tt; answer = done tt }

  fits : n₀ ≡ 0 → SetUpFits a table capacity refreshes
  unfolding Calls.set_up
  fits e = set_up_fits_lem a table capacity refreshes (none_where _ _ _ (set_up-kept a table capacity refreshes) e).0

  -- what a fresh state holds
  fresh_exact : SetUpFits a table capacity refreshes → (h : History) → ((q : ℕ) (w : List ℕ) → h q w → ⊥) → Exact (set_up_state a table capacity refreshes) h
  unfolding set_up_state
  fresh_exact fits h none =
      record {
        only = λ q w l x. absurd (fresh-empty a table capacity refreshes fits q x.node x.offset (omega (arith, fits.stores)) x.is);
        all = λ q w x. absurd (none q w x);
      }

  module _ (h : History) (exact : Exact a h) where
    emptied : (q : ℕ) (w : List ℕ) → next a.tree (by_set_up made) h q w → ⊥
    unfolding made
    emptied q w (inl x, g) = let y = (exact.all q w x).1 in g (record { node = y.node; offset = y.offset; is = tt; name = y.name })
    emptied q w (inr x, g) = x.is

    set-accepted : n₀ ≡ 0 → Exact made.state (next a.tree (by_set_up made) h)
    unfolding made
    set-accepted e = fresh_exact (fits e) (next a.tree (by_set_up made) h) emptied

    set_up_exact : Exact (Calls.set_up a table capacity refreshes).state (next a.tree (by_set_up (Calls.set_up a table capacity refreshes)) h)
    unfolding Calls.set_up made
    set_up_exact =
        each_way (λ (r : Outcome NoList NoValue). Exact r.state (next a.tree (by_set_up r) h)) n₀ a tt made set-accepted
        (λ m. still a a h refl exact)

  accepted-sound : n₀ ≡ 0 → Sound made.state
  unfolding Calls.set_up made
  accepted-sound e =
      let is : Calls.set_up a table capacity refreshes ≡ made = unless-none a tt made n₀ e in
      subst (λ (r : Outcome NoList NoValue). Sound r.state) is
      (Kept.set_up-sound a table capacity refreshes (ap (λ (r : Outcome NoList NoValue). r.answer) is))

  set_up-stays : Sound a → Sound (Calls.set_up a table capacity refreshes).state
  unfolding Calls.set_up made
  set_up-stays s = each_way (λ (r : Outcome NoList NoValue). Sound r.state) n₀ a tt made accepted-sound (λ m. s)

-- ---- any call

call-sound : (c : Call) (a : State) → Sound a → Sound (reply_of c a).state
call-sound (set_up table capacity refreshes) a s = set_up-stays a table capacity refreshes s
call-sound (resolve l hs) a s = Kept.resolve-sound a l hs s
call-sound (insert l hs) a s = Kept.insert-sound a l hs s
call-sound (store_insert l k sp time write) a s = Kept.store_insert-sound a l k sp time write s
call-sound (store_used k sps time counted) a s = Kept.store_used-sound a k sps time counted s
call-sound (store_remove l k sp) a s = Kept.store_remove-sound a l k sp s
call-sound (store_expire l k now seconds) a s = Kept.store_expire-sound a l k now seconds s
call-sound (pin_source k sp) a s = Kept.pin-sound a k sp s
call-sound (unpin_source k sp) a s = Kept.unpin-sound a k sp s
call-sound (lookup l ts hs) a s = Kept.lookup-sound a l ts hs s
call-sound (store_held k) a s = Kept.held-sound a k s
call-sound (store_capacity k) a s = Kept.capacity-sound a k s
call-sound (store_pinned k) a s = Kept.pinned-sound a k s
call-sound (store_available k) a s = Kept.available_sound a k s
call-sound (source_version k) a s = Kept.version-sound a k s
call-sound pin_stalls a s = Kept.stalls-sound a s

call_exact : (c : Call) (a : State) (h : History) → Sound a → Exact a h → Exact (reply_of c a).state (tell c a.tree (reply_of c a) h)
call_exact (set_up table capacity refreshes) a h s e = set_up_exact a table capacity refreshes h e
call_exact (resolve l hs) a h s e = still a (Calls.resolve_call a l hs).state h (Kept.resolve_same a l hs) e
call_exact (insert l hs) a h s e = insert_exact a l hs h s e
call_exact (store_insert l k sp time write) a h s e = store_insert_exact a l k sp time write h s e
call_exact (store_used k sps time counted) a h s e = store_used_exact a k sps time counted h s e
call_exact (store_remove l k sp) a h s e = store_remove_exact a l k sp h s e
call_exact (store_expire l k now seconds) a h s e = store_expire_exact a l k now seconds h s e
call_exact (pin_source k sp) a h s e = pin_exact a k sp h s e
call_exact (unpin_source k sp) a h s e = unpin_exact a k sp h s e
call_exact (lookup l ts hs) a h s e = still a (Calls.lookup a l ts hs).state h (Kept.lookup-same a l ts hs) e
call_exact (store_held k) a h s e = still a (Calls.held_call a k).state h (Kept.held_same a k) e
call_exact (store_capacity k) a h s e = still a (Calls.capacity_call a k).state h (Kept.capacity-same a k) e
call_exact (store_pinned k) a h s e = still a (Calls.pinned_call a k).state h (Kept.pinned-same a k) e
call_exact (store_available k) a h s e = still a (Calls.available_call a k).state h (Kept.available_same a k) e
call_exact (source_version k) a h s e = still a (Calls.version_call a k).state h (Kept.version-same a k) e
call_exact pin_stalls a h s e = still a (Calls.stalls_call a).state h (Kept.stalls-same a) e

-- ---- any calls

pub run_sound : (a : State) (cs : List Call) → Sound a → Sound (run a cs)
unfolding run
run_sound a [] s = s
run_sound a (c ∷ cs) s = run_sound (reply_of c a).state cs (call-sound c a s)

run_exact : (a : State) (cs : List Call) (h : History) → Sound a → Exact a h → Exact (run a cs) (since h a cs)
unfolding run since
run_exact a [] h s e = e
run_exact a (c ∷ cs) h s e = run_exact (reply_of c a).state cs (tell c a.tree (reply_of c a) h) (call-sound c a s) (call_exact c a h s e)

-- the same of calls of several steps
run-all-sound : (a : State) (cs : List Steps) → Sound a → Sound (run_all a cs)
unfolding run_all
run-all-sound a [] s = s
run-all-sound a (c ∷ cs) s = run-all-sound (run a c) cs (run_sound a c s)

run-all_exact : (a : State) (cs : List Steps) (h : History) → Sound a → Exact a h → Exact (run_all a cs) (since_all h a cs)
unfolding run_all since_all
run-all_exact a [] h s e = e
run-all_exact a (c ∷ cs) h s e = run-all_exact (run a c) cs (since h a c) (run_sound a c s) (run_exact a c h s e)

held-is : (st : State) (q : ℕ) → held_of st q ≡ (store_of st q).book.held
unfolding store_of
held-is st q = refl

exactly : (st : State) (h : History) (q : ℕ) → Sound st → Exact st h → q < stores_of st → Exactly st h q
exactly st h q s x l =
    let own = store-sound st q s l in
    let rs = (store_of st q).ranges in
    let two : (n o m p : ℕ) → Holds rs n o → Holds rs m p → name_of st.tree n o ≡ name_of st.tree m p → (n ≡ m) × (o ≡ p) =
    λ n o m p a b. same_block st s n o m p (real-held st q s l n o a) (real-held st q s l m p b)
    in
    record {
      sorted = own.ranges.sorted;
      filled = all_map (λ r i. i.filled) rs own.ranges.inside;
      only = λ w. x.only q w l;
      all = λ w y. (x.all q w y).1;
      names = names_of st.tree rs;
      theirs = λ w. (names-held st.tree rs w, λ y. held-names st.tree rs y.node y.offset w y.is y.name);
      once = names-once st.tree rs own.ranges.sorted two;
      held = omega (arith, names_length st.tree rs, own.held, held-is st q);
      named = two;
    }

start_exact : (pools : State) (table capacity : List ℕ) (refreshes : List Bool) → (Calls.set_up pools table capacity refreshes).answer ≡ done tt
    → Exact (Calls.set_up pools table capacity refreshes).state nothing
unfolding Calls.set_up
start_exact pools table capacity refreshes e =
    let a = unless-done _ _ _ (set_up-kept pools table capacity refreshes) tt e in
    rw a.state (fresh_exact pools table capacity refreshes (set_up_fits_lem pools table capacity refreshes a.none.0) nothing (λ q w x. x))

-- "After any calls from set-up"
pub history : (pools : State) (table capacity : List ℕ) (refreshes : List Bool) → (Calls.set_up pools table capacity refreshes).answer ≡ done tt
    → (cs : List Steps) (q : ℕ)
    → q < stores_of (run_all (Calls.set_up pools table capacity refreshes).state cs)
    → Exactly (run_all (Calls.set_up pools table capacity refreshes).state cs) (since_all nothing (Calls.set_up pools table capacity refreshes).state cs) q
history pools table capacity refreshes e cs q l =
    let s = Kept.set_up-sound pools table capacity refreshes e in
    let x = run-all_exact (Calls.set_up pools table capacity refreshes).state cs nothing s (start_exact pools table capacity refreshes e) in
    exactly (run_all (Calls.set_up pools table capacity refreshes).state cs) (since_all nothing (Calls.set_up pools table capacity refreshes).state cs) q
    (run-all-sound (Calls.set_up pools table capacity refreshes).state cs s) x l
