-- A counter of a sound state: refused where there is no such store, and else what the small numbers say. Assumes nothing.
use Prim.Native.Nat.{ℕ, ◌≤◌, ◌<◌}
use mathlib.Core.Path.{◌≡◌, sym, ap, ◌∙◌}
use mathlib.Core.Bool.{Bool, true, false, not}
use mathlib.Core.List.{List}
use mathlib.Core.Logic.{⊎_elim}
use lib.Dec.{leb}
use borrow.Author.Tests.{le-leb, lt-leb}
use Rattle.model.specs.declared.Book.{Book}
use Rattle.model.specs.State.{State, stores_in, stalls_in, book_in, stores_of, stalls_of, book_of}
use Rattle.model.specs.Sound.{Sound}
use Rattle.model.specs.SoundTest.{sound}
use Rattle.model.specs.Calls.{Answer, refused, done, unless, NoList, store_counter, stalls_call}
use Rattle.theory_refuse.proofs.Says.{true_says, le_or_lt}
use Rattle.theory_refuse.proofs.Sound.{sound-says}
use Rattle.shape_answer.specs.declared.Count.{Count}
use Rattle.shape_answer.specs.declared.Count.TheVariants.{Refused, Done}
use Rattle.shape_answer.specs.Answers.{count_of}
use Rattle.call_count.specs.Counted.{Of}

-- the number by the tests of 1 and 2
abbrev chosen : Bool → Bool → ℕ
chosen a b = elim a [ true ↦ 1 | false ↦ elim b [ true ↦ 2 | false ↦ 0 ] ]

-- the answer with the value v, or the refusal of this number
abbrev answered : State → ℕ → ℕ → Answer ℕ
answered st v n = (unless {L = NoList} {A = ℕ} n st tt (record { state = st; lists = tt; answer = done v })).answer

abbrev value : ℕ → Answer ℕ
value v = done v

is-sound : (st : State) → Sound st → not (sound st) ≡ false
is-sound st h = ap not (true_says (sound st) (sound-says st) h)

-- g is what is counted of a store's numbers
module _ (g : Book → ℕ) (l : List ℕ) (s : ℕ) where
  missing : stores_in l ≤ s → (st : State) → Of l st → refused 2 ≡ (store_counter (λ y k. g (book_of y k)) st s).answer
  missing h st o =
      let b : leb (stores_of st) s ≡ true = ap (λ (y : List ℕ). leb (stores_in y) s) o.books ∙ le-leb (stores_in l) s h in
      let a = is-sound st o.sound in
      sym (λ i. answered st (g (book_of st s)) (chosen (a i) (b i)))

  counted : s < stores_in l → {v : ℕ} → v ≡ g (book_in l s) → (st : State) → Of l st → done v ≡ (store_counter (λ y j. g (book_of y j)) st s).answer
  counted h {v} f st o =
      let b : leb (stores_of st) s ≡ false = ap (λ (y : List ℕ). leb (stores_in y) s) o.books ∙ lt-leb (stores_in l) s h in
      let a = is-sound st o.sound in
      let n : g (book_of st s) ≡ v = ap (λ (y : List ℕ). g (book_in y s)) o.books ∙ sym f in
      sym ((λ i. answered st (g (book_of st s)) (chosen (a i) (b i))) ∙ ap (λ (j : ℕ). value j) n)

  -- a counter's answer, by its two cases
  pub counter-is : (r : Count) → (stores_in l ≤ s → r ≡ Refused 2) → (s < stores_in l → (v : ℕ) × (r ≡ Done v) × (v ≡ g (book_in l s)))
      → (st : State) → Of l st → count_of r ≡ (store_counter (λ y k. g (book_of y k)) st s).answer
  counter-is r none some st o =
      ⊎_elim
      (λ (h : stores_in l ≤ s). ap count_of (none h) ∙ missing h st o)
      (λ (h : s < stores_in l). let k = some h in ap count_of k.1 ∙ counted h k.2 st o)
      (le_or_lt (stores_in l) s)

pub stalls-is : (l : List ℕ) (st : State) → Of l st → done (stalls_in l) ≡ (stalls_call st).answer
unfolding stalls_call
stalls-is l st o =
    let a = is-sound st o.sound in
    sym
    ((λ i. answered st (stalls_of st) (elim (a i) as (λ z. ℕ) [ true ↦ 1 | false ↦ 0 ]))
    ∙ ap (λ (y : List ℕ). value (stalls_in y)) o.books)
