-- What the code of a counted call needs of its plain call, whichever it is: refused, it is refused; made and with its sums added, it is made; put back where
-- a sum would pass, it is refused with 21. And 2 comes before any sum is looked at; a store that there is can be read. Assumes nothing.
use Prim.Native.Nat.{ℕ, ◌≤◌, ◌<◌}
use mathlib.Core.Path.{◌≡◌, refl, sym, ap, subst, ◌∙◌}
use mathlib.Core.Bool.{true, false}
use mathlib.Core.Logic.{inl, inr}
use mathlib.Core.List.{List, []}
use native.Mathlib.Omega.{arith}
use lib.ListN.{length}
use lib.Ieee.{Float}
use Rattle.model.specs.declared.Span.{Span}
use Rattle.model.specs.Sizes.{max_stores, max_numbers, out_places}
use Rattle.model.specs.State.{State, stores_of}
use Rattle.model.specs.Sound.{Sound, RangesLent}
use Rattle.model.specs.Refusals.{OutList, OutFits, first_of, store_insert_refusals, store_remove_refusals, store_expire_refusals}
use Rattle.model.specs.Calls.{Outcome, Answer, refused, done, store_insert, store_remove, store_expire}
use Rattle.model_sums.specs.Sums.{More, add, Passes, passes}
use Rattle.model_sums.specs.Tally.{Summed, summed, beside}
use Rattle.shape_answer.specs.Answers.{outcome}
use Rattle.theory_refuse.proofs.Says.{says_true, says_false, false_says}
use Rattle.theory_refuse.proofs.Refusals.{first-is, store_insert_exact, store_remove_exact, store_expire_exact}
use Rattle.theory_refuse.proofs.Unless.{unless-some}
use Rattle.theory_sums.specs.Tallied.{TallyOf}
use Rattle.theory_sums.proofs.Tallied.{passes-says, late_is}

-- ---- what the plain call left and answered

module _ {L A : Type 0} {o : Outcome L A} where
  -- with its answer known
  pub answered : {st : State} {l : L} {x y : Answer A} → outcome st l x ≡ o → x ≡ y → outcome st l y ≡ o
  answered {st} {l} is e = ap (outcome st l) (sym e) ∙ is

  pub answer-is : {p : Outcome L A} → p ≡ o → o.answer ≡ p.answer
  answer-is is = ap (λ (x : Outcome L A). x.answer) (sym is)

  -- its columns can be lent again
  pub left-sound : {p : Outcome L A} → p ≡ o → Sound o.state → Sound p.state
  left-sound is h = subst (λ (x : Outcome L A). Sound x.state) (sym is) h

-- ---- how the counted call t ends

-- o is the plain call's outcome, of which the code has p; `by` says what it adds: ms, to the sums v
module _ {L A : Type 0} (by : Outcome L A → List More) (v : List ℕ) {o p : Outcome L A} (is : p ≡ o) {ms : List More} (adds : ms ≡ by p) where
  adds-of : ms ≡ by o
  adds-of = adds ∙ ap by is

  -- where it cannot pass a limit, the test may be left out
  pub counted_far : (Passes (by o) v → ⊥) → passes ms v ≡ false
  counted_far none = false_says (passes ms v) (passes-says ms v) (subst (λ (ns : List More). Passes ns v → ⊥) (sym adds-of) none)

  -- made, and ms added
  pub counted-made : {t : Outcome (Summed L) A} {w : List ℕ} → ((Passes (by o) v → ⊥) → t ≡ beside o (add (by o) v)) → passes ms v ≡ false → w ≡ add ms v
      → beside p w ≡ t
  counted-made low none e =
      (λ i. beside (is i) (e i))
      ∙ ap (λ (ns : List More). beside o (add ns v)) adds-of
      ∙ sym (low (subst (λ (ns : List More). Passes ns v → ⊥) adds-of (says_false none (passes-says ms v))))

  -- put back, with 21
  pub counted-past : {st : State} {l : L} {t : Outcome (Summed L) A} {q : Outcome L A} → TallyOf st (summed l v) (by o) o t → (a : A) → p.answer ≡ done a
      → passes ms v ≡ true → q ≡ outcome st l (refused 21) → beside q v ≡ t
  counted-past tallied a e past f =
      ap (λ (x : Outcome L A). beside x v) f
      ∙ sym (late_is tallied a (answer-is is ∙ e) (subst (λ (ns : List More). Passes ns v) adds-of (says_true past (passes-says ms v))))

-- refused, it adds nothing
pub counted-refused : {L A : Type 0} (by : Outcome L A → List More) (v : List ℕ) {o p : Outcome L A} {t : Outcome (Summed L) A} → p ≡ o → [] ≡ by p
    → ((Passes (by o) v → ⊥) → t ≡ beside o (add (by o) v)) → beside p v ≡ t
unfolding passes add
counted-refused by v is none low = counted-made by v is none low refl refl

-- ---- the store

module _ (st : State) (s : ℕ) (h : Sound st) (less : s < stores_of st) where
  -- it is one of eight
  pub store_low : s < max_stores
  store_low = omega (arith, less, h.counts.stores)

  -- so its numbers can be read, and its part
  pub book-lent : (s < max_stores) × (max_numbers ≤ length st.books)
  book-lent = (store_low, h.lent.books)

  pub part-lent : (s < max_stores) × RangesLent st.ranges × (2048 ≤ length st.marks)
  part-lent = (store_low, h.lent.ranges, h.lent.marks)

-- ---- 2, on a sound state and with lists that are long enough

module _ (st : State) where
  pub insert_nowhere : (l : OutList) (s : ℕ) (sp : Span) (time : Float) (write : ℕ) → Sound st → OutFits l → stores_of st ≤ s
      → outcome st l (refused 2) ≡ store_insert st l s sp time write
  unfolding store_insert
  insert_nowhere l s sp time write h long k =
      sym (unless-some st l _ (first_of (store_insert_refusals st l s sp time)) 2
      (first-is (store_insert_refusals st l s sp time) (store_insert_exact st l s sp time) 2 (inr (λ g. g h, inr (λ g. g long, inl (k, refl))))) (λ e. omega arith))

  pub expire_nowhere : (l : OutList) (s : ℕ) (now seconds : Float) → Sound st → OutFits l → stores_of st ≤ s
      → outcome st l (refused 2) ≡ store_expire st l s now seconds
  unfolding store_expire
  expire_nowhere l s now seconds h long k =
      sym (unless-some st l _ (first_of (store_expire_refusals st l s now seconds)) 2
      (first-is (store_expire_refusals st l s now seconds) (store_expire_exact st l s now seconds) 2 (inr (λ g. g h, inr (λ g. g long, inl (k, refl))))) (λ e. omega arith))

  pub remove_nowhere : (l : List ℕ) (s : ℕ) (sp : Span) → Sound st → out_places ≤ length l → stores_of st ≤ s
      → outcome st l (refused 2) ≡ store_remove st l s sp
  unfolding store_remove
  remove_nowhere l s sp h long k =
      sym (unless-some st l _ (first_of (store_remove_refusals st l s sp)) 2
      (first-is (store_remove_refusals st l s sp) (store_remove_exact st l s sp) 2 (inr (λ g. g h, inr (λ (g : length l < out_places). omega arith, inl (k, refl))))) (λ e. omega arith))
