-- Of a call that is accepted no condition holds, and one that is refused leaves the state as it was: so it is enough to look at accepted calls, with what
-- their conditions say. Assumes nothing.
use Prim.Native.Nat.{ℕ, zero, suc, ◌≤◌, ◌<◌}
use mathlib.Core.Path.{◌≡◌, refl, subst}
use mathlib.Core.Logic.{◌⊎◌, inl, inr}
use mathlib.Core.Bool.{Bool, true, false}
use mathlib.Core.List.{List, [], ◌∷◌}
use native.Mathlib.Omega.{arith}
use lib.ListN.{length}
use lib.Ieee.{Float, nan, inf, fin}
use Rattle.model.specs.declared.Span.{Span}
use Rattle.model.specs.Words.{Each, Some}
use Rattle.model.specs.Sizes.{max_stores, max_capacity, max_marks, max_numbers, table_length}
use Rattle.model.specs.State.{Tree, State, at}
use Rattle.model.specs.Sound.{Sound, Finite}
use Rattle.model.specs.SoundTest.{sound, rising}
use Rattle.model.specs.SetUp.{SetUpFits}
use Rattle.model.specs.Refusals.{Condition, first_of, SpanIn}
use Rattle.model.specs.Calls.{Outcome, done, unless}
use Rattle.theory_refuse.specs.Refused.{SomeHolds, KeptWhenRefused}
use Rattle.theory_refuse.proofs.Says.{Sure, sure, le_sure, lt_sure, eq_sure, all_sure}
use Rattle.theory_refuse.proofs.Sound.{sound-says, tree_lent_sure, ranges_lent_sure, pins_lent_sure, rising-says}

-- no condition of the list holds
abbrev pub NoneHolds : List Condition → Type 0
NoneHolds [] = Unit {0}
NoneHolds (c ∷ cs) = (c.holds → ⊥) × NoneHolds cs

none-holds : (cs : List Condition) → (SomeHolds cs → ⊥) → NoneHolds cs
none-holds [] n = tt
none-holds (c ∷ cs) n = (λ h. n (inl h), none-holds cs (λ h. n (inr h)))

-- ---- a call that leaves st', l' and v where it is accepted, from what is known of it where it is refused

abbrev outcome : {L A : Type 0} → State → L → State → L → A → ℕ → Outcome L A
outcome st l st' l' v n = unless n st l (record { state = st'; lists = l'; answer = done v })

-- the outcome o was accepted: no condition of cs holds, the answer a is v and the state is st'
pub record Accepted {L A : Type 0} (cs : List Condition) (st' : State) (v : A) (o : Outcome L A) (a : A) : Type 0 where
  pub none : NoneHolds cs
  pub answer : v ≡ a
  pub state : o.state ≡ st'

module _ {L A : Type 0} {cs : List Condition} {st : State} {l : L} (st' : State) (l' : L) (v : A) where
  accepted-none : KeptWhenRefused cs st l (outcome st l st' l' v 0) → NoneHolds cs
  accepted-none k = none-holds cs (λ h. let e = (k.refuses h).1 in let z : ◌≡◌ {A = ℕ} 0 1 = cc in omega arith)

  -- what holds of the state before, and of st' where no condition does, holds of the state after
  pub unless_holds : (P : State → Type 0) → KeptWhenRefused cs st l (outcome st l st' l' v (first_of cs)) → P st → (NoneHolds cs → P st')
      → P (outcome st l st' l' v (first_of cs)).state
  unless_holds P k h f = go (first_of cs) k
    where
      go : (n : ℕ) → KeptWhenRefused cs st l (outcome st l st' l' v n) → P (outcome st l st' l' v n).state
      go zero k = f (accepted-none k)
      go (suc n) k = h

  pub unless-sound : KeptWhenRefused cs st l (outcome st l st' l' v (first_of cs)) → Sound st → (NoneHolds cs → Sound st')
      → Sound (outcome st l st' l' v (first_of cs)).state
  unless-sound k h f = unless_holds Sound k h f

  pub unless-done : KeptWhenRefused cs st l (outcome st l st' l' v (first_of cs)) → (a : A) → (outcome st l st' l' v (first_of cs)).answer ≡ done a
      → Accepted cs st' v (outcome st l st' l' v (first_of cs)) a
  unless-done k a = go (first_of cs) k
    where
      go : (n : ℕ) → KeptWhenRefused cs st l (outcome st l st' l' v n) → (outcome st l st' l' v n).answer ≡ done a
          → Accepted cs st' v (outcome st l st' l' v n) a
      go zero k e = record { none = accepted-none k; answer = cc; state = refl }
      go (suc n) k e = let z : ◌≡◌ {A = ℕ} 0 1 = cc in absurd (omega arith)

  -- no condition holds where the first number is 0
  pub none_where : KeptWhenRefused cs st l (outcome st l st' l' v (first_of cs)) → first_of cs ≡ 0 → NoneHolds cs
  none_where k e = accepted-none (subst (λ (n : ℕ). KeptWhenRefused cs st l (outcome st l st' l' v n)) e k)

  -- what holds of v holds of the answer
  pub unless-answer : (P : A → Type 0) → KeptWhenRefused cs st l (outcome st l st' l' v (first_of cs)) → (NoneHolds cs → P v) → (a : A)
      → (outcome st l st' l' v (first_of cs)).answer ≡ done a → P a
  unless-answer P k f a e = let d = unless-done k a e in subst P d.answer (f d.none)

-- a call that leaves the state as it was
pub unless-same : {L A : Type 0} {cs : List Condition} {st : State} {l : L} (l' : L) (v : A) → KeptWhenRefused cs st l (outcome st l st l' v (first_of cs))
    → (outcome st l st l' v (first_of cs)).state ≡ st
unless-same {L} {A} {cs} {st} {l} l' v k = go (first_of cs)
  where
    go : (n : ℕ) → (outcome st l st l' v n).state ≡ st
    go zero = refl
    go (suc n) = refl

-- ---- what holds where a condition does not: numbers that are not too large

pub neither : {a b m n : ℕ} → ((m < a) ⊎ (n < b) → ⊥) → (a ≤ m) × (b ≤ n)
neither {a} {b} {m} {n} f =
    let g : m < a → ⊥ = λ h. f (inl h) in
    let k : n < b → ⊥ = λ h. f (inr h) in
    (omega arith, omega arith)

pub each_fits : (f : ℕ → ℕ) (n most : ℕ) → (Some n (λ k. most < f k) → ⊥) → Each 0 n (λ k. f k ≤ most)
each_fits f n most none k low high = let g : most < f k → ⊥ = λ h. none (k, high, h) in omega arith

-- ---- and a fact whose failing is the condition

stable : {b : Bool} {P : Type 0} → Sure b P → ((P → ⊥) → ⊥) → P
stable {b = true} s n = s.says
stable {b = false} s n = absurd (n s.says)

pub is-sound : (st : State) → ((Sound st → ⊥) → ⊥) → Sound st
is-sound st = stable (sure (sound st) (sound-says st))

pub span_in_lem : (t : Tree) (sp : Span) → ((SpanIn t sp → ⊥) → ⊥) → SpanIn t sp
span_in_lem t sp n =
    record {
      node = stable (lt_sure sp.node t.nodes) (λ f. n (λ h. f h.node));
      filled = stable (lt_sure sp.start sp.end) (λ f. n (λ h. f h.filled));
      ends = stable (le_sure sp.end (at t.len sp.node)) (λ f. n (λ h. f h.ends));
    }

pub is_finite : (x : Float) → ((Finite x → ⊥) → ⊥) → Finite x
is_finite nan n = n (λ h. h)
is_finite (inf sign) n = n (λ h. h)
is_finite (fin sign m e) n = tt

pub set_up_fits_lem : (pools : State) (table capacity : List ℕ) (refreshes : List Bool) → ((SetUpFits pools table capacity refreshes → ⊥) → ⊥)
    → SetUpFits pools table capacity refreshes
set_up_fits_lem pools table capacity refreshes n =
    record {
      some_store = stable (le_sure 1 (length capacity)) (λ f. n (λ h. f h.some_store));
      stores = stable (le_sure (length capacity) max_stores) (λ f. n (λ h. f h.stores));
      policies = stable (eq_sure (length refreshes) (length capacity)) (λ f. n (λ h. f h.policies));
      capacities = stable (all_sure (length capacity) (λ s. le_sure (at capacity s) max_capacity)) (λ f. n (λ h. f h.capacities));
      table_long = stable (eq_sure (length table) table_length) (λ f. n (λ h. f h.table_long));
      rises = stable (sure (rising table) (rising-says table)) (λ f. n (λ h. f h.rises));
      tree = stable (tree_lent_sure pools.tree) (λ f. n (λ h. f h.tree));
      ranges = stable (ranges_lent_sure pools.ranges) (λ f. n (λ h. f h.ranges));
      pins = stable (pins_lent_sure pools.pins) (λ f. n (λ h. f h.pins));
      marks = stable (le_sure max_marks (length pools.marks)) (λ f. n (λ h. f h.marks));
      bytes = stable (le_sure table_length (length pools.bytes)) (λ f. n (λ h. f h.bytes));
      books = stable (le_sure max_numbers (length pools.books)) (λ f. n (λ h. f h.books));
    }
