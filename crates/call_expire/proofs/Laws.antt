-- An expiry in a sound state: each test gives the refusal's number, the store's part is ready where none holds, and what the expiry leaves of the pools and
-- the small numbers is the state that the definition has. Assumes nothing.
use Prim.Native.Nat.{ℕ, ◌+◌, ◌*◌, ◌≤◌, ◌<◌}
use mathlib.Core.Bool.{Bool, true, false, not}
use mathlib.Core.Logic.{inl, inr, ⊎_elim}
use mathlib.Core.Path.{◌≡◌, refl, sym, ap, subst, ◌∙◌}
use mathlib.Core.List.{List, [], ◌∷◌}
use native.Mathlib.Omega.{arith}
use lib.ListN.{length}
use lib.Ieee.{Float}
use Rattle.model.specs.declared.Book.{Book}
use Rattle.model.specs.declared.ExpireAnswer.{ExpireAnswer}
use Rattle.model.specs.Words.{Says}
use Rattle.model.specs.Sizes.{max_stores, max_numbers}
use Rattle.model.specs.State.{Tree, Ranges, Pins, Range, State, nodes_in, used_in, book_in, stores_of, next_id_of, book_of, records_of, held_of, version_of}
use Rattle.model.specs.Sound.{Sound, Finite}
use Rattle.model.specs.Store.{ranges, store_of, lay_ranges, lay_book, ranged, total, with_ranges}
use Rattle.model.specs.Trim.{Trimmed}
use Rattle.model.specs.Expire.{expire}
use Rattle.model.specs.Refusals.{First, first_of, OutList, OutFits, no_store, bad_times, store_expire_refusals}
use Rattle.model.specs.Calls.{Answer, Outcome, refused, done, store_expire}
use Rattle.theory_refuse.proofs.Says.{says_yes, says_no}
use Rattle.theory_refuse.proofs.Refusals.{first-is, store_expire_exact}
use Rattle.theory_refuse.proofs.Refused.{store_expire-kept}
use Rattle.theory_refuse.proofs.Unless.{unless-none, unless-some}
use Rattle.theory_sound.specs.StoreSound.{RangesSound, MarksSound, StoreSound}
use Rattle.theory_calls.proofs.Parts.{sound-parts}
use Rattle.theory_calls.proofs.Accepted.{NoneHolds, none_where}
use Rattle.theory_calls.proofs.Stores.{store-sound}
use Rattle.shape_state.specs.Lent.{state_of}
use Rattle.pool_part.specs.Parts.{mid, back, mid_ranges, back_ranges}
use Rattle.pool_part.proofs.Parts.{ranges-part, ranges-sized}
use Rattle.rule_resolve.specs.Span.{only_depth}
use Rattle.rule_evict.specs.Given.{Ready, GivenOut}
use Rattle.rule_evict.proofs.Laws.{sound-ready}
use Rattle.rule_expire.specs.declared.Expiring.{Expiring}
use Rattle.rule_expire.specs.Expire.{expired}
use Rattle.rule_expire.proofs.Laws.{expired-depth}
use Rattle.rule_bring.specs.Pool.{GivenOutAt}
use Rattle.rule_bring.proofs.Laws.{given-at}
use Rattle.shape_answer.specs.Answers.{outcome}
use Rattle.call_expire.specs.Pool.{PoolReady}

-- ---- the refusals

module _ (st : State) (l : OutList) (s : ℕ) (time seconds : Float) (h : Sound st) (fits : OutFits l) where
  number : (n : ℕ) → First (no_store st s ∷ bad_times time seconds ∷ []) n → n ≡ first_of (store_expire_refusals st l s time seconds)
  number n f = sym (first-is (store_expire_refusals st l s time seconds) (store_expire_exact st l s time seconds) n (inr (λ g. g h, inr (λ g. g fits, f))))

  module _ (stores : ℕ) (is : stores_of st ≡ stores) where
    pub refused-store : stores ≤ s → 2 ≡ first_of (store_expire_refusals st l s time seconds)
    refused-store k = number 2 (inl (omega arith, refl))

    module _ (k : s < stores) where
      used : stores_of st ≤ s → ⊥
      used e = omega arith

      pub refused-time : (b : Bool) → Says b (Finite time) → not b ≡ true → 5 ≡ first_of (store_expire_refusals st l s time seconds)
      refused-time b f e = number 5 (inr (used, inl (inl (says_no b e f), refl)))

      pub refused_seconds : (b : Bool) → Says b (Finite seconds) → not b ≡ true → 5 ≡ first_of (store_expire_refusals st l s time seconds)
      refused_seconds b f e = number 5 (inr (used, inl (inr (says_no b e f), refl)))

      pub accepted : (b d : Bool) → Says b (Finite time) → not b ≡ false → Says d (Finite seconds) → not d ≡ false
          → 0 ≡ first_of (store_expire_refusals st l s time seconds)
      accepted b d f e g q = number 0 (inr (used, inr (⊎_elim (λ n. n (says_yes b e f)) (λ n. n (says_yes d q g)), refl)))

-- ---- the parts of store s

module _ {depth bytes : List ℕ} {s n h : ℕ} {c : Ranges} {ms : List ℕ} {l : OutList} (p : PoolReady depth bytes s n h c ms l) where
  pub pool_part : (a b : ℕ) → a ≡ 128 → b ≡ 256 → Ready depth bytes n h (mid_ranges (128 * s) a c) (mid (256 * s) b ms) l
  pool_part a b ea eb = rw (ea, eb) p.part

  module _ {q : Ranges} {ms₂ : List ℕ} {l₂ : OutList} {v₀ j k o v : ℕ} {t : Bool} where
    pub pool_given : (time seconds : Float) (a b : ℕ) → a ≡ 128 → b ≡ 256 → length ms₂ ≡ length (mid (256 * s) b ms)
        → GivenOut (expired (only_depth depth) bytes time seconds (ranges (mid_ranges (128 * s) a c) 0 n) (mid (256 * s) b ms)) n v₀ (mid_ranges (128 * s) a c) l q ms₂ l₂ j k o v t
        → GivenOutAt s (expired (only_depth depth) bytes time seconds (ranges c (128 * s) n) (mid (256 * s) 256 ms)) n v₀ c ms l (back_ranges (128 * s) a q c) (back (256 * s) b ms₂ ms) l₂ j k o v t
    pool_given time seconds a b ea eb kept u =
        let long : length ms₂ ≡ length (mid (256 * s) 256 ms) = rw eb at kept in
        let f = ranges-part c (128 * s) 128 n p.part.few in
        rw (ea, eb) (given-at _ p.store p.part.few p.marks long (rw f at (rw (ea, eb) at u)))

-- ---- the call

module _ (st : State) (l : OutList) (s : ℕ) (time seconds : Float) where
  pub call-refused : (n : ℕ) → n ≡ first_of (store_expire_refusals st l s time seconds) → (n ≡ 0 → ⊥) → outcome st l (refused n) ≡ store_expire st l s time seconds
  unfolding store_expire
  call-refused n e d = sym (unless-some st l _ (first_of (store_expire_refusals st l s time seconds)) n (sym e) d)

  module _ (h : Sound st) (fits : OutFits l) (n : ℕ) (number : n ≡ first_of (store_expire_refusals st l s time seconds)) (zero : n ≡ 0) where
    none : first_of (store_expire_refusals st l s time seconds) ≡ 0
    none = sym number ∙ zero

    none-holds : NoneHolds (store_expire_refusals st l s time seconds)
    unfolding store_expire
    none-holds = none_where _ _ _ (store_expire-kept st l s time seconds) none

    less : s < stores_of st
    less = let f = none-holds.1.1.0 in omega arith

    own : StoreSound st.tree (next_id_of st) (store_of st s)
    own = store-sound st s h less

    store_in : s < 8
    store_in = omega (arith, less, h.counts.stores)

    -- store s is one of eight, and the list is long enough
    pub book_in_lem : (s < max_stores) × (max_numbers ≤ length st.books)
    book_in_lem = (store_in, h.lent.books)

    few : records_of st s ≤ 128
    few = (h.counts.each s (omega arith) less).records

    read : ranges (mid_ranges (128 * s) 128 st.ranges) 0 (records_of st s) ≡ (store_of st s).ranges
    unfolding store_of
    read = ranges-part st.ranges (128 * s) 128 (records_of st s) few

    ready : Ready st.tree.depth st.bytes (records_of st s) (held_of st s) (mid_ranges (128 * s) 128 st.ranges)
        (mid (256 * s) 256 st.marks) l
    unfolding store_of
    ready =
        sound-ready {t = st.tree} {next = next_id_of st} {top = (store_of st s).book.stamp} (sound-parts st h).tree h.table h.lent.bytes
        (ranges-sized (128 * s) st.ranges h.lent.ranges (omega (arith, store_in))) few
        (subst (λ (rs : List Range). RangesSound st.tree (next_id_of st) (store_of st s).book.stamp rs) (sym read) own.ranges)
        (own.held ∙ ap total (sym read))
        (subst (λ (rs : List Range). MarksSound st.tree rs (store_of st s).marks) (sym read) own.marks) fits

    -- what goes of the store
    abbrev gone : Trimmed
    gone = expired st.tree st.bytes time seconds (store_of st s).ranges (store_of st s).marks

    module _ (b : Book) (is : b ≡ book_of st s) where
      pub pool_in : PoolReady st.tree.depth st.bytes s b.records b.held st.ranges st.marks l
      pool_in = rw is (record { store = store_in; ranges = h.lent.ranges; marks = h.lent.marks; part = ready })

      module _ {c : Ranges} {ms : List ℕ} {lʹ : OutList} {r : Expiring} where
        given_in : GivenOutAt s (expired (only_depth st.tree.depth) st.bytes time seconds (ranges st.ranges (128 * s) b.records) (mid (256 * s) 256 st.marks)) b.records b.version st.ranges st.marks l c ms lʹ r.n r.held r.outs r.version false
            → GivenOutAt s gone (records_of st s) (version_of st s) st.ranges st.marks l c ms lʹ r.n r.held r.outs r.version false
        unfolding store_of
        given_in u = rw (expired-depth st.tree, is) at u

        call-laid : GivenOutAt s gone (records_of st s) (version_of st s) st.ranges st.marks l c ms lʹ r.n r.held r.outs r.version false
            → outcome (state_of st.tree c st.pins ms st.bytes (lay_book s (ranged b r.n r.held b.stamp r.version) st.books)) lʹ (done (record { outs = r.outs })) ≡ store_expire st l s time seconds
        unfolding store_expire with_ranges expire expired store_of
        call-laid u =
            let more : records_of st s ≡ records_of st s + 0 = omega arith in
            let cols = u.cols ∙ ap (λ (k : ℕ). lay_ranges (128 * s) k gone.ranges st.ranges) more in
            (λ j. outcome (state_of st.tree (cols j) st.pins (u.marks j) st.bytes (lay_book s (ranged (is j) (u.records j) (u.held j) (is j).stamp (u.version j)) st.books)) (u.lists j) (done (record { outs = u.outs j })))
            ∙ sym (unless-none st l _ (first_of (store_expire_refusals st l s time seconds)) none)

-- The same of the columns: rs, ps, ms and table are the pools at entry, ns the small numbers, T the tree with so many nodes and hash words
module _ (T : ℕ → ℕ → Tree) (rs : Ranges) (ps : Pins) (ms table ns : List ℕ) (l : OutList) (s : ℕ) (time seconds : Float) where
  abbrev here : State
  here = state_of (T (nodes_in ns) (used_in ns)) rs ps ms table ns

  module _ (h : Sound here) (fits : OutFits l) (n : ℕ) (number : n ≡ first_of (store_expire_refusals here l s time seconds)) (zero : n ≡ 0) (b : Book) (is : b ≡ book_in ns s) where
    pub call-done : {c : Ranges} {ks : List ℕ} {lʹ : OutList} {r : Expiring}
        → GivenOutAt s (expired (only_depth (T (nodes_in ns) (used_in ns)).depth) table time seconds (ranges rs (128 * s) b.records) (mid (256 * s) 256 ms)) b.records b.version rs ms l c ks lʹ r.n r.held r.outs r.version false
        → (new : List ℕ) → new ≡ lay_book s (ranged b r.n r.held b.stamp r.version) ns
        → outcome (state_of (T (nodes_in new) (used_in new)) c ps ks table new) lʹ (done (record { outs = r.outs })) ≡ store_expire here l s time seconds
    unfolding lay_book
    call-done {c} {ks} {lʹ} {r} u new d =
        (λ j. outcome (state_of (T (nodes_in (d j)) (used_in (d j))) c ps ks table (d j)) lʹ (done (record { outs = r.outs })))
        ∙ call-laid here l s time seconds h fits n number zero b is {r = r} (given_in here l s time seconds h fits n number zero b is {r = r} u)

-- ---- the lent columns are the lender's again

pub came_back : {st : State} {a : Answer ExpireAnswer} {x : Outcome OutList ExpireAnswer} {l lʹ : OutList} → l ≡ lʹ → outcome st l a ≡ x → outcome st lʹ a ≡ x
came_back e g = rw (← e) g
