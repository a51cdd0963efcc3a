-- A bring-in on a sound state: the number of the first condition that holds, from the tests that the code makes; and what comes of a bring-in that is
-- refused, given back or kept, as `store_insert` has it. Assumes nothing.
use Prim.Native.Nat.{ℕ, zero, suc, ◌+◌, ◌*◌, ◌≤◌, ◌<◌, zero-le}
use mathlib.Core.Path.{◌≡◌, refl, sym, ap, subst, ◌∙◌}
use mathlib.Core.Logic.{inl, inr}
use mathlib.Core.Bool.{Bool, true, false, not, ◌||◌}
use mathlib.Core.List.{List, [], ◌∷◌, ◌++◌}
use native.Mathlib.Omega.{arith}
use borrow.Author.Tests.{le-leb, lt-leb}
use lib.Dec.{ltb}
use lib.ListN.{length}
use lib.Ieee.{Float}
use Rattle.model.specs.declared.Span.{Span}
use Rattle.model.specs.declared.Book.{Book}
use Rattle.model.specs.declared.BringAnswer.{BringAnswer}
use Rattle.model.specs.Sizes.{max_stores, max_numbers, store_records, max_stamp}
use Rattle.model.specs.State.{State, stores_of, next_id_of, book_of, capacity_of, records_of, stamp_of}
use Rattle.model.specs.Words.{pick}
use Rattle.model.specs.Sound.{Sound, Finite, RangesLent}
use Rattle.model.specs.SoundTest.{finite}
use Rattle.model.specs.Store.{store_of, ranges}
use Rattle.model.specs.Trim.{Out}
use Rattle.model.specs.Bring.{Brought, gaps, bring_need, bring_blocks, give_back}
use Rattle.model.specs.Refusals.{Condition, Exact, First, first_of, OutList, OutFits, SpanIn, span_in, unsound, short_outs, no_store, bad_span, bad_time, few_records, late_stamp, store_insert_refusals}
use Rattle.model.specs.Calls.{refused, done, brought, bring_in, lay_outs, store_insert, Answer, Outcome}
use Rattle.theory_refuse.proofs.Says.{false_says}
use Rattle.theory_refuse.proofs.Refusals.{first_says, store_insert_exact}
use Rattle.theory_refuse.proofs.Unless.{unless-none, unless-some}
use Rattle.theory_bring.proofs.Bring.{bring_cases, bring-none}
use Rattle.theory_calls.proofs.Accepted.{NoneHolds, neither, span_in_lem, is_finite}
use Rattle.test_arguments.specs.Need.{need_number}
use Rattle.test_arguments.proofs.Need.{number_0}
use Rattle.rule_resolve.specs.Span.{Priced, only_depth}
use Rattle.rule_resolve.proofs.Sound.{sound-priced}
use Rattle.rule_fill.specs.declared.Gaps.{Gaps}
use Rattle.rule_fill.specs.Gaps.{gaps_of}
use Rattle.rule_fill.proofs.Missing.{gaps_length}
use Rattle.call_bring.specs.Settled.{whole}
use Rattle.call_bring.specs.Insert.{InsertReady, BroughtIn}
use Rattle.shape_answer.specs.Answers.{outcome}
use Rattle.call_bring.specs.Keep.{argument_refusals, KeepReady}

-- ---- a list of conditions, and its first

hit : (c : Condition) (cs : List Condition) → c.tested ≡ true → c.number ≡ first_of (c ∷ cs)
hit c cs = go c.tested
  where
    go : (b : Bool) → b ≡ true → c.number ≡ elim b [ true ↦ c.number | false ↦ first_of cs ]
    go true e = refl
    go false e = let z : ◌≡◌ {A = ℕ} 0 1 = cc in absurd (omega arith)

pass : (c : Condition) (cs : List Condition) → c.tested ≡ false → first_of (c ∷ cs) ≡ first_of cs
pass c cs = go c.tested
  where
    go : (b : Bool) → b ≡ false → elim b [ true ↦ c.number | false ↦ first_of cs ] ≡ first_of cs
    go true e = let z : ◌≡◌ {A = ℕ} 0 1 = cc in absurd (omega arith)
    go false e = refl

-- the first of the front list is the first of both
first-front : (cs ds : List Condition) (n : ℕ) → 0 < n → n ≡ first_of cs → first_of (cs ++ ds) ≡ n
first-front [] ds n p e = absurd (omega arith)
first-front (c ∷ cs) ds n p e = go c.tested (first-front cs ds n p) e
  where
    go : (b : Bool) → (n ≡ first_of cs → first_of (cs ++ ds) ≡ n) → n ≡ elim b [ true ↦ c.number | false ↦ first_of cs ]
        → elim b [ true ↦ c.number | false ↦ first_of (cs ++ ds) ] ≡ n
    go true f e = sym e
    go false f e = f e

-- where nothing of the front list holds, the rest decides
first-behind : (cs ds : List Condition) → Exact cs → NoneHolds cs → first_of (cs ++ ds) ≡ first_of ds
first-behind [] ds x n = refl
first-behind (c ∷ cs) ds x n = pass c (cs ++ ds) (false_says {P = c.holds} c.tested x.0 n.0) ∙ first-behind cs ds x.1 n.1

-- 0 is the number of no condition, so it says that none holds
abbrev Numbered : List Condition → Type 0
Numbered [] = Unit {0}
Numbered (c ∷ cs) = (0 < c.number) × Numbered cs

none_of : (cs : List Condition) → Numbered cs → First cs 0 → NoneHolds cs
none_of [] k f = tt
none_of (c ∷ cs) k (inl p) = absurd (omega (arith, k.0, p.1))
none_of (c ∷ cs) k (inr p) = (p.0, none_of cs k.1 p.1)

none-holds : (cs : List Condition) → Numbered cs → Exact cs → 0 ≡ first_of cs → NoneHolds cs
none-holds cs k x e = none_of cs k (subst (λ (n : ℕ). First cs n) (sym e) (first_says cs x))

-- ---- the tests for 2, 4 and 5

module _ (st : State) (s : ℕ) (sp : Span) (time : Float) where
  pub no_store_lem : (n : ℕ) → stores_of st ≡ n → n ≤ s → 2 ≡ first_of (argument_refusals st s sp time)
  no_store_lem n e h = hit (no_store st s) (bad_span st sp ∷ bad_time time ∷ []) (le-leb (stores_of st) s (omega arith))

  module _ (n : ℕ) (e : stores_of st ≡ n) (h : s < n) where
    store-passes : first_of (argument_refusals st s sp time) ≡ first_of (bad_span st sp ∷ bad_time time ∷ [])
    store-passes = pass (no_store st s) (bad_span st sp ∷ bad_time time ∷ []) (lt-leb (stores_of st) s (omega arith))

    pub bad-span : (b : Bool) → b ≡ span_in st.tree sp → not b ≡ true → 4 ≡ first_of (argument_refusals st s sp time)
    bad-span b d q = hit (bad_span st sp) (bad_time time ∷ []) (ap not (sym d) ∙ q) ∙ sym store-passes

    module _ (b : Bool) (d : b ≡ span_in st.tree sp) (q : not b ≡ false) where
      span-passes : first_of (argument_refusals st s sp time) ≡ first_of (bad_time time ∷ [])
      span-passes = store-passes ∙ pass (bad_span st sp) (bad_time time ∷ []) (ap not (sym d) ∙ q)

      pub bad-time : (f : Bool) → f ≡ finite time → not f ≡ true → 5 ≡ first_of (argument_refusals st s sp time)
      bad-time f g r = hit (bad_time time) [] (ap not (sym g) ∙ r) ∙ sym span-passes

      pub arguments_pass : (f : Bool) → f ≡ finite time → not f ≡ false → 0 ≡ first_of (argument_refusals st s sp time)
      arguments_pass f g r = sym (span-passes ∙ pass (bad_time time) [] (ap not (sym g) ∙ r))

-- ---- the tests for 8 and 11

-- these two, for `need` new records, stamps and ids
abbrev need_refusals : State → ℕ → ℕ → List Condition
need_refusals st s need = few_records st s need ∷ late_stamp st s need need ∷ []

first-of-two : (a b : Bool) → ◌≡◌ {A = ℕ} (pick a 8 (pick b 11 0)) (elim a [ true ↦ 8 | false ↦ elim b [ true ↦ 11 | false ↦ 0 ] ])
first-of-two true b = refl
first-of-two false true = refl
first-of-two false false = refl

need-first-of : (st : State) (s need : ℕ) → need_number (records_of st s) need (stamp_of st s) need (next_id_of st) ≡ first_of (need_refusals st s need)
need-first-of st s need =
    first-of-two (ltb store_records (records_of st s + need)) (ltb max_stamp (stamp_of st s + need) || ltb max_stamp (next_id_of st + need))

-- the number that the test gave, by a store's numbers that were read
need-tested : (st : State) (s : ℕ) {b : Book} → b ≡ book_of st s → (need : ℕ) {r : ℕ} → r ≡ need_number b.records need b.stamp need (next_id_of st)
    → r ≡ first_of (need_refusals st s need)
need-tested st s is need e = e ∙ ap (λ (k : Book). need_number k.records need k.stamp need (next_id_of st)) is ∙ need-first-of st s need

-- ---- what a sound state gives the calls

in_eight_lem : {st : State} {s : ℕ} → Sound st → s < stores_of st → s < 8
in_eight_lem h l = omega (arith, h.counts.stores)

-- store s is one of eight, and the list is long enough
pub book_in_lem : {st : State} {s : ℕ} → Sound st → s < stores_of st → (s < max_stores) × (max_numbers ≤ length st.books)
book_in_lem h l = (in_eight_lem h l, h.lent.books)

pub nodes-lent : {st : State} → Sound st → st.tree.nodes ≤ length st.tree.len
nodes-lent h = omega (arith, h.counts.nodes, h.lent.tree.len)

-- what the test of 8 and 11 asks
pub need-asked : {st : State} {l : OutList} {s : ℕ} {sp : Span} {time : Float} → KeepReady st l s sp time → (b : Book) → b ≡ book_of st s
    → (b.records ≤ store_records) × (b.stamp ≤ max_stamp) × (next_id_of st ≤ max_stamp)
need-asked {st} {l} {s} {sp} {time} p b is =
    let c = p.sound.counts.each s zero-le p.store in
    (rw is c.records, rw is c.stamp, p.sound.counts.next_id)

pub gaps_asked : {st : State} {l : OutList} {s : ℕ} {sp : Span} {time : Float} → KeepReady st l s sp time → (b : Book) → b ≡ book_of st s
    → (s < 8) × (b.records ≤ 128) × RangesLent st.ranges
gaps_asked {st} {l} {s} {sp} {time} p b is =
    (in_eight_lem p.sound p.store, rw is (p.sound.counts.each s zero-le p.store).records, p.sound.lent.ranges)

-- a store's numbers that were read are its own
module _ {b c : Book} (is : b ≡ c) where
  pub none_read : b.capacity ≡ 0 → c.capacity ≡ 0
  none_read e = ap (λ (k : Book). k.capacity) (sym is) ∙ e

  pub some_read : (b.capacity ≡ 0 → ⊥) → c.capacity ≡ 0 → ⊥
  some_read n e = n (ap (λ (k : Book). k.capacity) is ∙ e)

-- a number that is not above 0 is none
pub is_none : {n k : ℕ} → n ≤ 0 → n ≡ k → 0 ≡ k
is_none h e = omega arith

-- ---- the whole call on a sound state

-- where the arguments pass, the need decides
need_decides : (st : State) (l : OutList) (s : ℕ) (sp : Span) (time : Float) → Sound st → OutFits l → s < stores_of st → SpanIn st.tree sp → Finite time
    → first_of (store_insert_refusals st l s sp time) ≡ first_of (need_refusals st s (bring_need (store_of st s) sp))
need_decides st l s sp time h fits store span known =
    let x = store_insert_exact st l s sp time in
    first-behind (unsound st ∷ short_outs l ∷ argument_refusals st s sp time) (need_refusals st s (bring_need (store_of st s) sp))
    (x.0, (x.1.0, (x.1.1.0, (x.1.1.1.0, (x.1.1.1.1.0, tt)))))
    (λ n. n h, (λ n. n fits, (λ (n : stores_of st ≤ s). omega arith, (λ n. n span, (λ n. n known, tt)))))

-- n is the number of the first condition of the arguments that holds; only the tree's nodes and the stores matter
abbrev pub Tested : State → ℕ → Span → Float → ℕ → Type 0
Tested st s sp time n =
    (x : State) → x.tree.len ≡ st.tree.len → x.tree.nodes ≡ st.tree.nodes → stores_of x ≡ stores_of st → n ≡ first_of (argument_refusals x s sp time)

module _ (st : State) (l : OutList) (s : ℕ) (sp : Span) (time : Float) (h : Sound st) (fits : OutFits l) where
  abbrev need : ℕ
  need = bring_need (store_of st s) sp

  exact : Exact (store_insert_refusals st l s sp time)
  exact = store_insert_exact st l s sp time

  -- a sound state and a list that is long enough pass
  first-left : first_of (store_insert_refusals st l s sp time) ≡ first_of (argument_refusals st s sp time ++ need_refusals st s need)
  first-left = first-behind (unsound st ∷ short_outs l ∷ []) (argument_refusals st s sp time ++ need_refusals st s need) (exact.0, (exact.1.0, tt)) (λ n. n h, (λ n. n fits, tt))

  pub argument_refused : (w n : ℕ) → 0 < n → Tested st s sp time n → outcome st l (refused n) ≡ store_insert st l s sp time w
  unfolding store_insert
  argument_refused w n p e =
      sym (unless-some st l _ _ n (first-left ∙ first-front (argument_refusals st s sp time) (need_refusals st s need) n p (e st refl refl refl)) (λ (z : n ≡ 0). omega arith))

  arguments_exact : Exact (argument_refusals st s sp time)
  arguments_exact = (exact.1.1.0, (exact.1.1.1.0, (exact.1.1.1.1.0, tt)))

  passed : 0 ≡ first_of (argument_refusals st s sp time) → NoneHolds (argument_refusals st s sp time)
  passed e = none-holds (argument_refusals st s sp time) (omega arith, (omega arith, (omega arith, tt))) arguments_exact e

  -- ---- a store, a span and a time that 01 takes

  module _ (n : ℕ) (low : n ≤ 0) (test : Tested st s sp time n) where
    accepted : NoneHolds (argument_refusals st s sp time)
    accepted = passed (is_none low (test st refl refl refl))

    pub store-there : s < stores_of st
    store-there = let h : stores_of st ≤ s → ⊥ = accepted.0 in omega arith

    pub span-there : SpanIn st.tree sp
    span-there = span_in_lem st.tree sp accepted.1.0

    pub time-finite : Finite time
    time-finite = is_finite time accepted.1.1.0

    pub priced : Priced st.tree.depth st.bytes sp
    priced = let i = span-there in sound-priced st h sp i.node (omega arith) i.ends

    pub keep-ready : (capacity_of st s ≡ 0 → ⊥) → KeepReady st l s sp time
    keep-ready some = record { sound = h; fits = fits; store = store-there; span = span-there; finite = time-finite; some = some }

    -- with capacity 0 nothing is needed, so 8 and 11 pass
    module _ (none : capacity_of st s ≡ 0) (w : ℕ) where
      gives : (need ≡ 0) × (brought st s sp time w ≡ give_back st.tree st.bytes (store_of st s) sp w)
      unfolding brought store_of
      gives =
          bring_cases st.tree st.bytes (next_id_of st) (store_of st s) sp time w
          (λ k b. (k ≡ 0) × (b ≡ give_back st.tree st.bytes (store_of st s) sp w)) (λ z. (refl, refl)) (λ n. absurd (n none))

      nothing_needed : 0 ≡ first_of (need_refusals st s need)
      nothing_needed =
          let c = h.counts.each s zero-le store-there in
          number_0 (records_of st s) need (stamp_of st s) need (next_id_of st) (omega (arith, gives.0, c.records)) (omega (arith, gives.0, c.stamp))
          (omega (arith, gives.0, h.counts.next_id))
          ∙ need-first-of st s need

      same-state : bring_in st s sp time w ≡ st
      unfolding bring_in
      same-state = go (capacity_of st s) _ none
        where
          go : (c : ℕ) (b : ℕ → State) → c ≡ 0 → elim c [ zero ↦ st | suc d ↦ b d ] ≡ st
          go zero b q = refl
          go (suc c) b q = absurd (omega arith)

      outs-are : (brought st s sp time w).outs ≡ whole st.tree st.bytes sp w ∷ []
      unfolding give_back
      outs-are = ap (λ (b : Brought). b.outs) gives.1

      no_block : bring_blocks (store_of st s) sp ≡ 0
      unfolding store_of
      no_block = bring-none st.tree st.bytes (next_id_of st) (store_of st s) sp time w none

      pub given_back : (lʹ : OutList) → lʹ ≡ lay_outs (whole (only_depth st.tree.depth) st.bytes sp w ∷ []) l
          → outcome st lʹ (done (record { outs = 1; blocks = 0 })) ≡ store_insert st l s sp time w
      unfolding store_insert
      given_back lʹ q =
          (λ j. outcome (sym same-state j) ((q ∙ ap (λ (os : List Out). lay_outs os l) (sym outs-are)) j)
          (done (record { outs = sym (ap length outs-are) j; blocks = sym no_block j })))
          ∙ sym (unless-none st l _ _ (need_decides st l s sp time h fits store-there span-there time-finite ∙ sym nothing_needed))

-- ---- a store with a capacity

module _ {st : State} {l : OutList} {s : ℕ} {sp : Span} {time : Float} (p : KeepReady st l s sp time) {b : Book} (own : b ≡ book_of st s) (g : Gaps)
    (read : gaps_of g ≡ gaps sp.node (ranges st.ranges (128 * s) b.records) sp.start sp.end) where
  is : gaps_of g ≡ gaps sp.node (store_of st s).ranges sp.start sp.end
  unfolding store_of
  is = read ∙ ap (λ (k : Book). gaps sp.node (ranges st.ranges (128 * s) k.records) sp.start sp.end) own

  abbrev kept : ℕ
  kept = bring_need (store_of st s) sp

  kept-is : g.n ≡ kept
  unfolding store_of
  kept-is =
      sym (gaps_length g.list g.n) ∙ ap length is
      ∙ bring_cases st.tree st.bytes (next_id_of st) (store_of st s) sp time 0
      (λ k b. length (gaps sp.node (store_of st s).ranges sp.start sp.end) ≡ k) (λ z. absurd (p.some z)) (λ z. refl)

  need-first : first_of (store_insert_refusals st l s sp time) ≡ first_of (need_refusals st s g.n)
  need-first =
      need_decides st l s sp time p.sound p.fits p.store p.span p.finite
      ∙ ap (λ (k : ℕ). first_of (need_refusals st s k)) (sym kept-is)

  -- the number that the test of 8 and 11 gives
  abbrev Asked : ℕ → Type 0
  Asked n = n ≡ need_number b.records g.n b.stamp g.n (next_id_of st)

  pub need-refused : (w n : ℕ) → 0 < n → Asked n → outcome st l (refused n) ≡ store_insert st l s sp time w
  unfolding store_insert
  need-refused w n q e = sym (unless-some st l _ _ n (need-first ∙ sym (need-tested st s own g.n e)) (λ (z : n ≡ 0). omega arith))

  module _ {n : ℕ} (low : n ≤ 0) (asked : Asked n) where
    e : 0 ≡ first_of (need_refusals st s g.n)
    e = is_none low (need-tested st s own g.n asked)

    none-late : NoneHolds (need_refusals st s kept)
    none-late =
        none-holds (need_refusals st s kept) (omega arith, (omega arith, tt)) (store_insert_exact st l s sp time).1.1.1.1.1
        (e ∙ ap (λ (k : ℕ). first_of (need_refusals st s k)) kept-is)

    pub insert-ready : InsertReady st l s sp g time
    insert-ready =
        let r = none-late.0 in
        let b = neither none-late.1.0 in
        record {
          sound = p.sound;
          fits = p.fits;
          store = p.store;
          span = p.span;
          finite = p.finite;
          some = p.some;
          gaps = is;
          records = omega (arith, r, kept-is);
          stamps = omega (arith, b.0, kept-is);
          ids = omega (arith, b.1, kept-is);
        }

    pub kept_whole : {w : ℕ} {stʹ : State} {lʹ : OutList} {o b : ℕ} → BroughtIn st l s sp time w stʹ lʹ o b
        → outcome stʹ lʹ (done (record { outs = o; blocks = b })) ≡ store_insert st l s sp time w
    unfolding store_insert
    kept_whole u =
        (λ j. outcome (u.state j) (u.lists j) (done (record { outs = u.outs j; blocks = u.blocks j }))) ∙ sym (unless-none st l _ _ (need-first ∙ sym e))

-- ---- the lent columns are the lender's again

pub came_back : {st : State} {a : Answer BringAnswer} {x : Outcome OutList BringAnswer} {l lʹ : OutList} → l ≡ lʹ → outcome st l a ≡ x → outcome st lʹ a ≡ x
came_back e g = rw (← e) g
