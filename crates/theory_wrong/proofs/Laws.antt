-- A contract is an equation with the definitions' outcome, so whatever it allows reads as that outcome reads: one law for each kind of input. Assumes
-- nothing.
use Prim.Native.Nat.{ℕ, zero, suc, ◌<◌}
use mathlib.Core.Path.{◌≡◌, refl, sym, ap, subst, ◌∙◌}
use mathlib.Core.List.{List, [], ◌∷◌}
use native.Mathlib.Omega.{arith}
use lib.ListN.{length, get_or}
use Rattle.model.specs.State.{State, at}
use Rattle.model.specs.Refusals.{Condition}
use Rattle.model.specs.Calls.{Outcome, Answer, refused, done}
use Rattle.theory_refuse.specs.Refused.{KeptWhenRefused}
use Rattle.theory_outcome.specs.Settled.{Left, Allows}
use Rattle.theory_wrong.specs.Rejected.{given, Rejected, Refusal, refused_by, RefusedRight, Listing, listed_by, row, KeptPast, ListedRight}

-- ---- answers

pub done_refused : {A : Type 0} (v : A) (n : ℕ) → done v ≡ refused n → ⊥
done_refused v n q = let z : ◌≡◌ {A = ℕ} 0 1 = cc in omega arith

-- the number of a refusal, 0 where it is none
abbrev pub number_of : {A : Type 0} → Answer A → ℕ
number_of (refused n) = n
number_of (done v) = 0

same_number : {A : Type 0} {n m : ℕ} → ◌≡◌ {A = Answer A} (refused n) (refused m) → n ≡ m
same_number e = ap number_of e

of_number : {A : Type 0} (a : Answer A) (n : ℕ) → number_of a ≡ n → (n ≡ 0 → ⊥) → a ≡ refused n
of_number (refused m) n e some = ap refused e
of_number (done v) n e some = absurd (some (sym e))

-- what a done answer gives
giving : {A : Type 0} → A → Answer A → A
giving w (refused n) = w
giving w (done v) = v

pub same-value : {A : Type 0} {v w : A} → done v ≡ done w → v ≡ w
unfolding giving
same-value {A} {v} {w} e = ap (giving w) e

-- ---- an input that is to be accepted

-- 1 where an answer is done, 0 where it refuses
abbrev is_done : {A : Type 0} → Answer A → ℕ
is_done a = given (λ v. 1) a

-- that an outcome is done, and what `seen` reads of it: in one term, so that a closed outcome is computed once
abbrev pub shows : {L A : Type 0} → (Outcome L A → ℕ) → Outcome L A → List ℕ
shows seen o = is_done o.answer ∷ seen o ∷ []

-- a contract whose outcome is done, and shows k, rules out a refusal and whatever shows another number
pub rejected : {L A B : Type 0} (f : B → Answer A) (o : Outcome L A) (seen : Outcome L A → ℕ) (slip k : ℕ) → shows seen o ≡ 1 ∷ k ∷ []
    → (k ≡ slip → ⊥) → Rejected f o seen slip
rejected f o seen slip k e apart =
    record {
      refusing =
          λ x p n r.
          let z : ◌≡◌ {A = ℕ} 0 1 = sym (ap is_done r) ∙ ap (λ z. is_done z.answer) p ∙ ap (λ l. at l 0) e in
          omega arith;
      slipping = λ x p w. apart (sym (ap (λ l. at l 1) e) ∙ sym (ap seen p) ∙ w);
    }

-- ---- an input that is to be refused

-- the number that a call is refused with in a state
abbrev pub number_in : {L A : Type 0} → Refusal L A → State → ℕ
number_in r st = number_of (r.call st r.lists).answer

-- a call that gives back what it is lent where it is refused, and is refused with its number
pub refused-right : {L A B : Type 0} (f : B → Answer A) (r : Refusal L A) {cs : State → L → List Condition}
    → ((st : State) (l : L) → KeptWhenRefused (cs st l) st l (r.call st l)) → number_in r r.state ≡ r.number → (r.number ≡ 0 → ⊥) → RefusedRight f r
refused-right f r k is some =
    let e = of_number (refused_by r).answer r.number is some in
    record {
      accepting = λ x p v d. done_refused v r.number (sym d ∙ ap (λ z. z.answer) p ∙ e);
      misnumbering = λ x p n ne q. ne (same_number (sym q ∙ ap (λ z. z.answer) p ∙ e));
      writing_state = λ x p place ne. ne (ap place (ap (λ z. z.state) p ∙ ((k r.state r.lists).keeps r.number e).state));
      writing_list = λ x p place ne. ne (ap place (ap (λ z. z.lists) p ∙ ((k r.state r.lists).keeps r.number e).lists));
    }

-- ---- an answer list

-- how many entries an outcome says that it has, and what stands at the first two places
abbrev pub lists : {L A : Type 0} → Listing L A → Outcome L A → List (List ℕ)
lists r o = (given r.count o.answer ∷ []) ∷ row r.columns o.lists 0 ∷ row r.columns o.lists 1 ∷ []

-- the same of the call in a state
abbrev pub lists_in : {L A : Type 0} → Listing L A → State → List (List ℕ)
lists_in r st = lists r (r.call st r.lists)

-- an outcome of the two entries a and b, which differ in column k
pub listed-right : {L A B : Type 0} (f : B → Answer A) (r : Listing L A) (k : ℕ) {a b : List ℕ}
    → ((st : State) (l : L) → KeptPast r.columns r.count l (r.call st l))
    → r.entries ≡ a ∷ b ∷ [] → lists_in r r.state ≡ (2 ∷ []) ∷ a ∷ b ∷ [] → (at a k ≡ at b k → ⊥) → ListedRight f r
listed-right {L} {A} {B} f r k {a} {b} past es e apart =
    record {
      refusing = λ x p n q. let z : ◌≡◌ {A = ℕ} 0 2 = sym (ap (given r.count) q) ∙ said x p in omega arith;
      miscounting = λ x p v q ne. ne (sym (ap (given r.count) q) ∙ said x p ∙ sym (ap length es));
      writing_past =
          λ x p v q i h ne. ne (ap (λ z. row r.columns z.lists i) p ∙ (past r.state r.lists).keeps v (sym (ap (λ z. z.answer) p) ∙ q) i h);
      reordering =
          λ x p i j hi hj ne q.
          moved i j (subst (λ z. i < length z) es hi) (subst (λ z. j < length z) es hj) ne
          (sym (ap (λ z. row r.columns z.lists i) p) ∙ q ∙ ap (λ z. get_or z j []) es);
    }
  where
    said : (x : Left L B) → Allows f (listed_by r) x → given r.count (f x.answer) ≡ 2
    said x p = ap (λ z. given r.count z.answer) p ∙ ap (λ l. at (get_or l 0 []) 0) e

    moved : (i j : ℕ) → i < 2 → j < 2 → (i ≡ j → ⊥) → row r.columns (listed_by r).lists i ≡ get_or (a ∷ b ∷ []) j [] → ⊥
    moved zero zero hi hj ne q = ne refl
    moved zero (suc zero) hi hj ne q = apart (ap (λ z. at z k) (sym (ap (λ l. get_or l 1 []) e) ∙ q))
    moved zero (suc (suc j)) hi hj ne q = omega arith
    moved (suc zero) zero hi hj ne q = apart (sym (ap (λ z. at z k) (sym (ap (λ l. get_or l 2 []) e) ∙ q)))
    moved (suc zero) (suc zero) hi hj ne q = ne refl
    moved (suc zero) (suc (suc j)) hi hj ne q = omega arith
    moved (suc (suc i)) j hi hj ne q = omega arith
