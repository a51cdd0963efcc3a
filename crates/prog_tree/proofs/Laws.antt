-- Set-up and insertion keep a sound state sound, and each answer is within its lists: from the equation of the call's contract. Assumes nothing.
use Prim.Native.Nat.{ℕ, ◌≤◌, ◌<◌}
use mathlib.Core.Path.{◌≡◌, refl, sym, subst, ap, ◌∙◌}
use mathlib.Core.Bool.{Bool, true, false}
use mathlib.Core.Logic.{inl, inr}
use mathlib.Core.List.{List}
use native.Mathlib.Omega.{arith}
use borrow.Author.Tests.{ltb-true, ltb-false}
use lib.Dec.{ltb}
use lib.ListN.{length}
use Rattle.model.specs.declared.LookupAnswer.{LookupAnswer}
use Rattle.model.specs.State.{State}
use Rattle.model.specs.Sound.{Sound}
use Rattle.model.specs.Refusals.{PathList}
use Rattle.model.specs.Calls.{Outcome, Answer, done, NoList, LookupLists, set_up, resolve_call, insert, lookup}
use Rattle.shape_answer.specs.declared.Plain.{Plain}
use Rattle.shape_answer.specs.declared.Plain.TheVariants as PlainIs
use Rattle.shape_answer.specs.declared.Resolved.{Resolved}
use Rattle.shape_answer.specs.declared.Resolved.TheVariants as ResolvedIs
use Rattle.shape_answer.specs.declared.Inserted.{Inserted}
use Rattle.shape_answer.specs.declared.Inserted.TheVariants as InsertedIs
use Rattle.shape_answer.specs.declared.Looked.{Looked}
use Rattle.shape_answer.specs.declared.Looked.TheVariants as LookedIs
use Rattle.shape_answer.specs.Answers.{outcome, plain_of, resolved_of, inserted_of, looked_of}
use Rattle.theory_refuse.proofs.Refused.{set_up-kept, lookup-kept}
use Rattle.theory_calls.proofs.Calls.{set_up-sound, insert-sound}
use Rattle.theory_calls.proofs.Fits.{resolve-fits, insert-fits, lookup-fits}
use Rattle.text_answer.specs.Text.{PathIn, InsertIn, LookupIn}
use Rattle.prog_tree.specs.Between.{SoundIfSetUp}

-- the state of an outcome
keeps : {L A : Type 0} {st : State} {l : L} {a : Answer A} {o : Outcome L A} → outcome st l a ≡ o → Sound o.state → Sound st
keeps e h = subst Sound (sym (ap (λ o. o.state) e)) h

-- ---- set-up

pub set_up_keeps : (pools st : State) (table capacity : List ℕ) (refreshes : List Bool) (a : Plain)
    → outcome {L = NoList} st tt (plain_of a) ≡ set_up pools table capacity refreshes → SoundIfSetUp pools → SoundIfSetUp st
set_up_keeps pools st table capacity refreshes PlainIs.Done e h = λ some. keeps e (set_up-sound pools table capacity refreshes (sym (ap (λ o. o.answer) e)))
set_up_keeps pools st table capacity refreshes (PlainIs.Refused n) e h =
    let k = (set_up-kept pools table capacity refreshes).keeps n (sym (ap (λ o. o.answer) e)) in
    subst SoundIfSetUp (sym (ap (λ o. o.state) e ∙ k.state)) h

-- ---- the tree

pub resolve_in : (st st' : State) (l l' : PathList) (hs : List ℕ) (a : Resolved) → outcome st' l' (resolved_of a) ≡ resolve_call st l hs → PathIn a
resolve_in st st' l l' hs (ResolvedIs.Refused n) e = tt
resolve_in st st' l l' hs (ResolvedIs.Done d) e = resolve-fits st l hs _ (sym (ap (λ o. o.answer) e))

pub insert_in : (st st' : State) (l l' : PathList) (hs : List ℕ) (a : Inserted) → outcome st' l' (inserted_of a) ≡ insert st l hs → InsertIn a
insert_in st st' l l' hs (InsertedIs.Refused n) e = tt
insert_in st st' l l' hs (InsertedIs.Done d) e = insert-fits st l hs _ (sym (ap (λ o. o.answer) e))

pub insert-keeps : (st st' : State) (l l' : PathList) (hs : List ℕ) (a : Inserted) → outcome st' l' (inserted_of a) ≡ insert st l hs → Sound st → Sound st'
insert-keeps st st' l l' hs a e h = keeps e (insert-sound st l hs h)

-- ---- lookup: no more than eight tiers where it is accepted

module _ (st st' : State) (l l' : LookupLists) (ts hs : List ℕ) where
  few : (p : LookupAnswer) → (lookup st l ts hs).answer ≡ done p → length ts ≤ 8
  few p e = go (ltb 8 (length ts)) refl
    where
      no : 8 < length ts → ⊥
      no h =
          let r = (lookup-kept st l ts hs).refuses (inr (inr (inr (inr (inr (inl h)))))) in
          let q = r.1 in
          let z : ◌≡◌ {A = ℕ} 0 1 = cc in
          omega arith

      go : (b : Bool) → ltb 8 (length ts) ≡ b → length ts ≤ 8
      go true e = absurd (no (ltb-true _ _ e))
      go false e = ltb-false _ _ e

  pub lookup_in : (n : ℕ) → length ts ≡ n → (a : Looked) → outcome st' l' (looked_of a) ≡ lookup st l ts hs → LookupIn n a
  lookup_in n q (LookedIs.Refused m) e = tt
  lookup_in n q (LookedIs.Done d) e =
      let w = sym (ap (λ o. o.answer) e) in
      let f = lookup-fits st l ts hs _ w in
      (f.path, f.spans, omega (arith, few _ w))
