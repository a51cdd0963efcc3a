-- A counted call is the plain call with two conditions more: with sums enough its first number is the plain call's, or 21 where that has none and a sum would
-- pass. One law of `tally`, and a line for each call. Assumes nothing.
use Prim.Native.Nat.{ℕ, zero, suc, ◌≤◌, ◌<◌}
use mathlib.Core.Path.{◌≡◌, refl, sym, ap, subst, ◌∙◌}
use mathlib.Core.Bool.{Bool, true, false}
use mathlib.Core.List.{List, [], ◌∷◌, ◌++◌}
use native.Mathlib.Omega.{arith}
use lib.ListN.{length}
use lib.Dec.{ltb}
use lib.Ieee.{Float}
use borrow.Author.Tests.{le-ltb}
use Rattle.model.specs.declared.Span.{Span}
use Rattle.model.specs.Words.{Says, pick}
use Rattle.model.specs.State.{State, capacity_of}
use Rattle.model.specs.Refusals.{Condition, condition, Exact, first_of, OutList, store_insert_refusals, store_remove_refusals, store_expire_refusals, lookup_refusals}
use Rattle.model.specs.Calls.{Outcome, Answer, refused, done, unless, LookupLists, store_insert, store_remove, store_expire, lookup}
use Rattle.model_sums.specs.Sums.{More, add, Passes, passes, sum_places, max_sum, by_bring, by_expire, by_remove, by_lookup}
use Rattle.model_sums.specs.Tally.{Summed, summed, past_limit, counted, beside, tally, tally_insert_refusals, tally_expire_refusals, tally_remove_refusals, tally_lookup_refusals, tally_insert, tally_expire, tally_remove, tally_lookup}
use Rattle.theory_refuse.specs.Refused.{KeptWhenRefused}
use Rattle.theory_refuse.proofs.Says.{Sure, sure, lt_sure, or_sure, false_says}
use Rattle.theory_refuse.proofs.Refusals.{store_insert_exact, store_remove_exact, store_expire_exact, lookup_exact}
use Rattle.theory_refuse.proofs.Refused.{Numbered, unless-kept}
use Rattle.theory_sums.specs.Tallied.{TallyOf}

-- ---- 21 is tested exactly

passes_sure : (ms : List More) (v : List ℕ) → Sure (passes ms v) (Passes ms v)
unfolding Passes passes
passes_sure [] v = sure false (λ h. h)
passes_sure (m ∷ ms) v = or_sure (lt_sure max_sum _) (passes_sure ms v)

pub passes-says : (ms : List More) (v : List ℕ) → Says (passes ms v) (Passes ms v)
passes-says ms v = (passes_sure ms v).says

-- ---- numbers of plain calls: 1 to 20

abbrev Plain : List Condition → Type 0
Plain [] = Unit {0}
Plain (c ∷ cs) = (1 ≤ c.number) × (c.number < 21) × Plain cs

plain-first : (cs : List Condition) → Plain cs → first_of cs < 21
plain-first [] h = omega arith
plain-first (c ∷ cs) h = go c.tested (plain-first cs h.2)
  where
    go : (b : Bool) → first_of cs < 21 → elim b [ true ↦ c.number | false ↦ first_of cs ] < 21
    go true l = h.1
    go false l = l

-- ---- the number of a counted call

-- n, where it is one; else 21 where b
abbrev pub lastly : ℕ → Bool → ℕ
lastly zero b = pick b 21 0
lastly (suc n) b = suc n

lastly-some : (n : ℕ) (b : Bool) → 1 ≤ n → n ≡ lastly n b
lastly-some zero b l = absurd (omega arith)
lastly-some (suc n) b l = refl

last-first : (cs : List Condition) (ms : List More) (v : List ℕ) → Plain cs → first_of (cs ++ (past_limit ms v ∷ [])) ≡ lastly (first_of cs) (passes ms v)
last-first [] ms v h = go (passes ms v)
  where
    go : (b : Bool) → ◌≡◌ {A = ℕ} (elim b [ true ↦ 21 | false ↦ 0 ]) (pick b 21 0)
    go true = refl
    go false = refl
last-first (c ∷ cs) ms v h = go c.tested (last-first cs ms v h.2)
  where
    go : (b : Bool) → first_of (cs ++ (past_limit ms v ∷ [])) ≡ lastly (first_of cs) (passes ms v)
        → ◌≡◌ {A = ℕ} (elim b [ true ↦ c.number | false ↦ first_of (cs ++ (past_limit ms v ∷ [])) ])
        (lastly (elim b [ true ↦ c.number | false ↦ first_of cs ]) (passes ms v))
    go true ih = lastly-some c.number (passes ms v) h.0
    go false ih = ih

-- the same with the condition for the sums' length, which does not hold
long-first : (cs : List Condition) (ms : List More) (v : List ℕ) → Plain cs → sum_places ≤ length v
    → first_of (counted cs v ms) ≡ lastly (first_of cs) (passes ms v)
long-first [] ms v h long =
    ap (λ (b : Bool). first_of (condition 14 (length v < sum_places) b ∷ past_limit ms v ∷ [])) (le-ltb (length v) sum_places long) ∙ last-first [] ms v h
long-first (c ∷ cs) ms v h long =
    ap (λ (b : Bool). first_of (c ∷ condition 14 (length v < sum_places) b ∷ (cs ++ (past_limit ms v ∷ [])))) (le-ltb (length v) sum_places long)
    ∙ last-first (c ∷ cs) ms v h

-- no number of a counted call, no number of the plain call
none_first : (cs : List Condition) (ms : List More) (v : List ℕ) → Plain cs → first_of (counted cs v ms) ≡ 0 → first_of cs ≡ 0
none_first [] ms v h e = refl
none_first (c ∷ cs) ms v h e = go c.tested (ltb (length v) sum_places) e
  where
    end : (n : ℕ) (b : Bool) → lastly n b ≡ 0 → n ≡ 0
    end zero b e = refl
    end (suc n) b e = absurd (omega arith)

    go : (a b : Bool)
        → ◌≡◌ {A = ℕ} (elim a [ true ↦ c.number | false ↦ elim b [ true ↦ 14 | false ↦ first_of (cs ++ (past_limit ms v ∷ [])) ] ]) 0
        → ◌≡◌ {A = ℕ} (elim a [ true ↦ c.number | false ↦ first_of cs ]) 0
    go true b e = e
    go false true e = absurd (omega arith)
    go false false e = end (first_of cs) (passes ms v) (sym (last-first cs ms v h.2) ∙ e)

-- ---- a counted call

exact_last : (cs : List Condition) (ms : List More) (v : List ℕ) → Exact cs → Exact (cs ++ (past_limit ms v ∷ []))
exact_last [] ms v e = (passes-says ms v, tt)
exact_last (c ∷ cs) ms v e = (e.0, exact_last cs ms v e.1)

numbered-last : (cs : List Condition) (ms : List More) (v : List ℕ) → Plain cs → Numbered (cs ++ (past_limit ms v ∷ []))
numbered-last [] ms v h = omega arith
numbered-last (c ∷ cs) ms v h = (h.0, numbered-last cs ms v h.2)

pub exact_counted : (cs : List Condition) (ms : List More) (v : List ℕ) → Exact cs → Exact (counted cs v ms)
exact_counted [] ms v e = ((lt_sure (length v) sum_places).says, (passes-says ms v, tt))
exact_counted (c ∷ cs) ms v e = (e.0, ((lt_sure (length v) sum_places).says, exact_last cs ms v e.1))

numbered-counted : (cs : List Condition) (ms : List More) (v : List ℕ) → Plain cs → Numbered (counted cs v ms)
numbered-counted [] ms v h = omega arith
numbered-counted (c ∷ cs) ms v h = (h.0, (omega arith, numbered-last cs ms v h.2))

module _ {L A : Type 0} (cs : List Condition) (plain : Plain cs) (adds : Outcome L A → List More) (st : State) (l : Summed L)
    (made : State) (lists : L) (value : A) where
  -- the plain call where n is its number, and the counted one where k is
  abbrev call : ℕ → Outcome L A
  call n = unless n st l.lists (record { state = made; lists = lists; answer = done value })

  abbrev with_sums : ℕ → List More → Outcome L A → Outcome (Summed L) A
  with_sums k ms o = unless k st l (beside o (add ms l.sums))

  abbrev o : Outcome L A
  o = call (first_of cs)

  each_number : (n : ℕ) (b : Bool) (ms : List More) → n < 21 → Says b (Passes ms l.sums) → TallyOf st l ms (call n) (with_sums (lastly n b) ms (call n))
  each_number zero true ms few says =
      record {
        accepted = λ a e. let z : ◌≡◌ {A = ℕ} 0 1 = cc in absurd (omega arith);
        alike = λ n other. (
          λ e. let r : 21 ≡ n = cc in absurd (other (sym r)),
          λ e. let z : ◌≡◌ {A = ℕ} 0 1 = cc in absurd (omega arith),
        );
        late = (λ e. record { value = value; answer = refl; passes = says }, λ h. refl);
        kept = λ n e. (refl, refl);
      }
  each_number zero false ms few says =
      record {
        accepted = λ a e. record { answer = e; state = refl; lists = refl; sums = refl };
        alike = λ n other. (λ e. e, λ e. e);
        late = (λ e. let z : ◌≡◌ {A = ℕ} 0 1 = cc in absurd (omega arith), λ h. absurd (says h.passes));
        kept = λ n e. let z : ◌≡◌ {A = ℕ} 0 1 = cc in absurd (omega arith);
      }
  each_number (suc n) b ms few says =
      record {
        accepted = λ a e. let z : ◌≡◌ {A = ℕ} 0 1 = cc in absurd (omega arith);
        alike = λ m other. (λ e. e, λ e. e);
        late = (
          λ e. let r : suc n ≡ 21 = cc in absurd (omega arith),
          λ h. let e = h.answer in let z : ◌≡◌ {A = ℕ} 0 1 = cc in absurd (omega arith),
        );
        kept = λ m e. (refl, refl);
      }

  tally-of : sum_places ≤ length l.sums → TallyOf st l (adds o) o (tally cs adds st l o)
  tally-of long =
      subst (λ (k : ℕ). TallyOf st l (adds o) o (with_sums k (adds o) o)) (sym (long-first cs (adds o) l.sums plain long))
      (each_number (first_of cs) (passes (adds o) l.sums) (adds o) (plain-first cs plain) (passes-says (adds o) l.sums))

  -- where no sum would pass: the plain call, beside the sums and what it adds
  tally-low : ((n : ℕ) → adds (call (suc n)) ≡ []) → sum_places ≤ length l.sums → (Passes (adds o) l.sums → ⊥)
      → tally cs adds st l o ≡ beside o (add (adds o) l.sums)
  unfolding add
  tally-low none long low =
      ap (λ (k : ℕ). with_sums k (adds o) o)
      (long-first cs (adds o) l.sums plain long ∙ ap (lastly (first_of cs)) (false_says (passes (adds o) l.sums) (passes-says (adds o) l.sums) low))
      ∙ go (first_of cs)
    where
      go : (n : ℕ) → with_sums (lastly n false) (adds (call n)) (call n) ≡ beside (call n) (add (adds (call n)) l.sums)
      go zero = refl
      go (suc n) = sym (ap (λ (ms : List More). beside (call (suc n)) (add ms l.sums)) (none n))

  -- accepted, it leaves what the plain call leaves
  as_made : (k n : ℕ) (ms : List More) → (k ≡ 0 → n ≡ 0) → with_sums k ms (call n) ≡ with_sums k ms (call 0)
  as_made zero n ms h = ap (λ (m : ℕ). with_sums 0 ms (call m)) (h refl)
  as_made (suc k) n ms h = refl

  tally-kept : Exact cs → KeptWhenRefused (counted cs l.sums (adds o)) st l (tally cs adds st l o)
  tally-kept exact =
      let ms = adds o in
      let v = l.sums in
      subst (KeptWhenRefused (counted cs v ms) st l)
      (sym (as_made (first_of (counted cs v ms)) (first_of cs) ms (none_first cs ms v plain)))
      (unless-kept (exact_counted cs ms v exact) (numbered-counted cs ms v plain) made (summed lists (add ms v)) value)

-- ---- the four calls

pub tallied_insert : (st : State) (l : Summed OutList) (s : ℕ) (sp : Span) (time : Float) (write : ℕ) → sum_places ≤ length l.sums
    → TallyOf st l (by_bring (capacity_of st s) s (store_insert st l.lists s sp time write)) (store_insert st l.lists s sp time write)
    (tally_insert st l s sp time write)
unfolding tally_insert store_insert
tallied_insert st l s sp time write = tally-of (store_insert_refusals st l.lists s sp time) (omega arith) (by_bring (capacity_of st s) s) st l _ _ _

pub tallied_expire : (st : State) (l : Summed OutList) (s : ℕ) (now seconds : Float) → sum_places ≤ length l.sums
    → TallyOf st l (by_expire s (store_expire st l.lists s now seconds)) (store_expire st l.lists s now seconds) (tally_expire st l s now seconds)
unfolding tally_expire store_expire
tallied_expire st l s now seconds = tally-of (store_expire_refusals st l.lists s now seconds) (omega arith) (by_expire s) st l _ _ _

pub tallied_remove : (st : State) (l : Summed (List ℕ)) (s : ℕ) (sp : Span) → sum_places ≤ length l.sums
    → TallyOf st l (by_remove s (store_remove st l.lists s sp)) (store_remove st l.lists s sp) (tally_remove st l s sp)
unfolding tally_remove store_remove
tallied_remove st l s sp = tally-of (store_remove_refusals st l.lists s sp) (omega arith) (by_remove s) st l _ _ _

pub tallied_lookup : (st : State) (l : Summed LookupLists) (ts hs : List ℕ) → sum_places ≤ length l.sums
    → TallyOf st l (by_lookup (lookup st l.lists ts hs)) (lookup st l.lists ts hs) (tally_lookup st l ts hs)
unfolding tally_lookup lookup
tallied_lookup st l ts hs = tally-of (lookup_refusals st l.lists.path l.lists.spans ts hs) (omega arith) by_lookup st l _ _ _

pub low-insert : (st : State) (l : Summed OutList) (s : ℕ) (sp : Span) (time : Float) (write : ℕ) → sum_places ≤ length l.sums
    → (Passes (by_bring (capacity_of st s) s (store_insert st l.lists s sp time write)) l.sums → ⊥)
    → tally_insert st l s sp time write
    ≡ beside (store_insert st l.lists s sp time write)
    (add (by_bring (capacity_of st s) s (store_insert st l.lists s sp time write)) l.sums)
unfolding tally_insert store_insert
low-insert st l s sp time write =
    tally-low (store_insert_refusals st l.lists s sp time) (omega arith) (by_bring (capacity_of st s) s) st l _ _ _ (λ n. refl)

pub low-expire : (st : State) (l : Summed OutList) (s : ℕ) (now seconds : Float) → sum_places ≤ length l.sums
    → (Passes (by_expire s (store_expire st l.lists s now seconds)) l.sums → ⊥)
    → tally_expire st l s now seconds
    ≡ beside (store_expire st l.lists s now seconds) (add (by_expire s (store_expire st l.lists s now seconds)) l.sums)
unfolding tally_expire store_expire
low-expire st l s now seconds = tally-low (store_expire_refusals st l.lists s now seconds) (omega arith) (by_expire s) st l _ _ _ (λ n. refl)

pub low-remove : (st : State) (l : Summed (List ℕ)) (s : ℕ) (sp : Span) → sum_places ≤ length l.sums
    → (Passes (by_remove s (store_remove st l.lists s sp)) l.sums → ⊥)
    → tally_remove st l s sp ≡ beside (store_remove st l.lists s sp) (add (by_remove s (store_remove st l.lists s sp)) l.sums)
unfolding tally_remove store_remove
low-remove st l s sp = tally-low (store_remove_refusals st l.lists s sp) (omega arith) (by_remove s) st l _ _ _ (λ n. refl)

pub low-lookup : (st : State) (l : Summed LookupLists) (ts hs : List ℕ) → sum_places ≤ length l.sums
    → (Passes (by_lookup (lookup st l.lists ts hs)) l.sums → ⊥)
    → tally_lookup st l ts hs ≡ beside (lookup st l.lists ts hs) (add (by_lookup (lookup st l.lists ts hs)) l.sums)
unfolding tally_lookup lookup
low-lookup st l ts hs = tally-low (lookup_refusals st l.lists.path l.lists.spans ts hs) (omega arith) by_lookup st l _ _ _ (λ n. refl)

-- a refused one gives back all that it was lent: with 21 where a sum would pass, else with the plain call's number
module _ {L A : Type 0} {st : State} {l : Summed L} {ms : List More} {o : Outcome L A} {t : Outcome (Summed L) A} (k : TallyOf st l ms o t) where
  given_back : (n : ℕ) → t.answer ≡ refused n → t ≡ record { state = st; lists = l; answer = refused n }
  given_back n e =
      let (state, lists) = k.kept n e in
      ap (λ (x : State). record { state = x; lists = t.lists; answer = t.answer }) state
      ∙ ap (λ (x : Summed L). record { state = st; lists = x; answer = t.answer }) lists
      ∙ ap (λ (x : Answer A). record { state = st; lists = l; answer = x }) e

  pub late_is : (a : A) → o.answer ≡ done a → Passes ms l.sums → t ≡ record { state = st; lists = l; answer = refused 21 }
  late_is a e p = given_back 21 (k.late.1 (record { value = a; answer = e; passes = p }))

  pub refused-is : (n : ℕ) → (n ≡ 21 → ⊥) → o.answer ≡ refused n → t ≡ record { state = st; lists = l; answer = refused n }
  refused-is n other e = given_back n ((k.alike n other).1 e)

-- refused exactly where one of its conditions holds, short sums among them, and then it gives back what it was lent

pub tally_insert-kept : (st : State) (l : Summed OutList) (s : ℕ) (sp : Span) (time : Float) (write : ℕ)
    → KeptWhenRefused (tally_insert_refusals st l s sp time write) st l (tally_insert st l s sp time write)
unfolding tally_insert store_insert
tally_insert-kept st l s sp time write =
    tally-kept (store_insert_refusals st l.lists s sp time) (omega arith) (by_bring (capacity_of st s) s) st l _ _ _ (store_insert_exact st l.lists s sp time)

pub tally_expire-kept : (st : State) (l : Summed OutList) (s : ℕ) (now seconds : Float)
    → KeptWhenRefused (tally_expire_refusals st l s now seconds) st l (tally_expire st l s now seconds)
unfolding tally_expire store_expire
tally_expire-kept st l s now seconds =
    tally-kept (store_expire_refusals st l.lists s now seconds) (omega arith) (by_expire s) st l _ _ _ (store_expire_exact st l.lists s now seconds)

pub tally_remove-kept : (st : State) (l : Summed (List ℕ)) (s : ℕ) (sp : Span)
    → KeptWhenRefused (tally_remove_refusals st l s sp) st l (tally_remove st l s sp)
unfolding tally_remove store_remove
tally_remove-kept st l s sp =
    tally-kept (store_remove_refusals st l.lists s sp) (omega arith) (by_remove s) st l _ _ _ (store_remove_exact st l.lists s sp)

pub tally_lookup-kept : (st : State) (l : Summed LookupLists) (ts hs : List ℕ)
    → KeptWhenRefused (tally_lookup_refusals st l ts hs) st l (tally_lookup st l ts hs)
unfolding tally_lookup lookup
tally_lookup-kept st l ts hs =
    tally-kept (lookup_refusals st l.lists.path l.lists.spans ts hs) (omega arith) by_lookup st l _ _ _
    (lookup_exact st l.lists.path l.lists.spans ts hs)
