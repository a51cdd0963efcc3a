-- An answer told as a number and a list is the answer, as no call refuses with 0. Assumes nothing.
use Prim.Native.Nat.{ℕ, zero, suc, ◌≤◌}
use mathlib.Core.Path.{◌≡◌, refl, ap, ◌∙◌}
use mathlib.Core.Bool.{Bool}
use mathlib.Core.List.{List}
use native.Mathlib.Omega.{arith}
use lib.ListN.{length}
use lib.Seq.{sets, sets-eq}
use lib.Ieee.{Float}
use Rattle.std.specs.Prelude.{Option, None, Some}
use Rattle.model.specs.declared.Span.{Span}
use Rattle.model.specs.declared.Path.{Path}
use Rattle.model.specs.declared.Cut.{Cut}
use Rattle.model.specs.declared.ResolveAnswer.{ResolveAnswer}
use Rattle.model.specs.declared.InsertAnswer.{InsertAnswer}
use Rattle.model.specs.declared.BringAnswer.{BringAnswer}
use Rattle.model.specs.declared.TouchAnswer.{TouchAnswer}
use Rattle.model.specs.declared.RemoveAnswer.{RemoveAnswer}
use Rattle.model.specs.declared.ExpireAnswer.{ExpireAnswer}
use Rattle.model.specs.State.{State}
use Rattle.model.specs.Refusals.{PathList, OutList, first_of, set_up_refusals, resolve_refusals, insert_refusals, store_insert_refusals, store_used_refusals, store_remove_refusals, store_expire_refusals, pin_refusals, unpin_refusals, lookup_refusals, count_refusals, store_count_refusals}
use Rattle.model.specs.Calls.{Outcome, Answer, refused, done, unless, NoValue, LookupLists, set_up, resolve_call, insert, store_insert, store_used, store_remove, store_expire, pin_source, unpin_source, lookup, held_call, capacity_call, pinned_call, available_call, version_call, stalls_call}
use Rattle.shape_answer.specs.declared.Looked.{Looked}
use Rattle.shape_answer.specs.declared.Looked.TheVariants as LookedIs
use Rattle.shape_answer.specs.Answers.{outcome, looked_of}
use Rattle.rust_values.specs.Told.{told, number_of, laid, told_plain, count_at, count_values, resolve_at, resolve_values, insert_at, insert_values, bring_at, bring_values, touch_at, touch_values, remove_at, remove_values, expire_at, expire_values, lookup_at, lookup_values, Tells}

-- ---- no call refuses with 0

abbrev pub Numbered : {A : Type 0} → Answer A → Type 0
Numbered {A} a = ◌≡◌ {A = Answer A} (refused 0) a → ⊥

-- a refusal's number is one more than some number
unless-numbered : {L A : Type 0} (n : ℕ) (st st' : State) (l l' : L) (v : A)
    → Numbered (unless n st l (record { state = st'; lists = l'; answer = done v })).answer
unless-numbered zero st st' l l' v e = let z : ◌≡◌ {A = ℕ} 0 1 = cc in absurd (omega arith)
unless-numbered (suc n) st st' l l' v e = let z : 0 ≡ suc n = cc in absurd (omega arith)

-- ---- what is told of an answer, in a list of 19, is the answer

abbrev pub Told : {A : Type 0} → (List ℕ → A) → (A → List ℕ) → Answer A → Type 0
Told read values a = (l : List ℕ) → length l ≡ 19 → Numbered a → told read (number_of a) (laid values a l) ≡ a

-- where what is read of a list with a value's numbers in front is the value
by_value : {A : Type 0} (read : List ℕ → A) (values : A → List ℕ) → ((l : List ℕ) → length l ≡ 19 → (v : A) → read (sets l 0 (values v)) ≡ v)
    → (a : Answer A) → Told read values a
by_value read values back (refused zero) l long h = absurd (h refl)
by_value read values back (refused (suc n)) l long h = refl
by_value read values back (done v) l long h = ap done (back l long v)

pub count-told : (a : Answer ℕ) → Told count_at count_values a
count-told = by_value count_at count_values back
  where
    back : (l : List ℕ) → length l ≡ 19 → (v : ℕ) → count_at (sets l 0 (count_values v)) ≡ v
    back l long v = ap count_at (sets-eq (count_values v) l 0 (omega arith))

pub resolve-told : (a : Answer ResolveAnswer) → Told resolve_at resolve_values a
resolve-told = by_value resolve_at resolve_values back
  where
    back : (l : List ℕ) → length l ≡ 19 → (v : ResolveAnswer) → resolve_at (sets l 0 (resolve_values v)) ≡ v
    back l long v = ap resolve_at (sets-eq (resolve_values v) l 0 (omega arith))

pub insert-told : (a : Answer InsertAnswer) → Told insert_at insert_values a
insert-told = by_value insert_at insert_values back
  where
    cut : (l : List ℕ) → length l ≡ 19 → (p : Path) (s : Option Cut)
        → insert_at (sets l 0 (insert_values (record { path = p; split = s }))) ≡ record { path = p; split = s }
    cut l long p None = ap insert_at (sets-eq (insert_values (record { path = p; split = None })) l 0 (omega arith))
    cut l long p (Some c) = ap insert_at (sets-eq (insert_values (record { path = p; split = Some c })) l 0 (omega arith))

    back : (l : List ℕ) → length l ≡ 19 → (v : InsertAnswer) → insert_at (sets l 0 (insert_values v)) ≡ v
    back l long v = cut l long v.path v.split

pub bring-told : (a : Answer BringAnswer) → Told bring_at bring_values a
bring-told = by_value bring_at bring_values back
  where
    back : (l : List ℕ) → length l ≡ 19 → (v : BringAnswer) → bring_at (sets l 0 (bring_values v)) ≡ v
    back l long v = ap bring_at (sets-eq (bring_values v) l 0 (omega arith))

pub touch-told : (a : Answer TouchAnswer) → Told touch_at touch_values a
touch-told = by_value touch_at touch_values back
  where
    back : (l : List ℕ) → length l ≡ 19 → (v : TouchAnswer) → touch_at (sets l 0 (touch_values v)) ≡ v
    back l long v = ap touch_at (sets-eq (touch_values v) l 0 (omega arith))

pub remove-told : (a : Answer RemoveAnswer) → Told remove_at remove_values a
remove-told = by_value remove_at remove_values back
  where
    back : (l : List ℕ) → length l ≡ 19 → (v : RemoveAnswer) → remove_at (sets l 0 (remove_values v)) ≡ v
    back l long v = ap remove_at (sets-eq (remove_values v) l 0 (omega arith))

pub expire-told : (a : Answer ExpireAnswer) → Told expire_at expire_values a
expire-told = by_value expire_at expire_values back
  where
    back : (l : List ℕ) → length l ≡ 19 → (v : ExpireAnswer) → expire_at (sets l 0 (expire_values v)) ≡ v
    back l long v = ap expire_at (sets-eq (expire_values v) l 0 (omega arith))

-- a lookup's sums are eight of each
pub lookup-told : (a : Looked) → Told lookup_at lookup_values (looked_of a)
lookup-told (LookedIs.Refused zero) l long h = absurd (h refl)
lookup-told (LookedIs.Refused (suc n)) l long h = refl
lookup-told (LookedIs.Done v) l long h =
    let room : 19 ≤ length l = omega arith in
    ap (λ m. done (lookup_at m)) (sets-eq (lookup_values v) l 0 room)

-- ---- an exported call, from the equation of the inner one

plain-told : (a : Answer NoValue) → Numbered a → told_plain (number_of a) ≡ a
plain-told (refused zero) h = absurd (h refl)
plain-told (refused (suc n)) h = refl
plain-told (done v) h = refl

pub plainly : {L : Type 0} {st : State} {l : L} {o : Outcome L NoValue} (a : Answer NoValue) {r : ℕ}
    → outcome st l a ≡ o → Numbered o.answer → r ≡ number_of a → outcome st l (told_plain r) ≡ o
plainly {L} {st} {l} {o} a {r} e n q =
    ap (λ k. outcome st l (told_plain k)) q ∙ ap (outcome st l) (plain-told a (λ z. n (z ∙ ap (λ w. w.answer) e))) ∙ e

module _ {A : Type 0} (read : List ℕ → A) (values : A → List ℕ) (a : Answer A) (whole : Told read values a) where
  pub telling : {L : Type 0} {st : State} {l : L} {o : Outcome L A} {r : ℕ} (k : List ℕ) {k' : List ℕ}
      → outcome st l a ≡ o → Numbered o.answer → length k ≡ 19 → r ≡ number_of a → k' ≡ laid values a k
      → Tells read values o st l r k k'
  telling {L} {st} {l} {o} {r} k {k'} e n long q t =
      let same : a ≡ o.answer = ap (λ w. w.answer) e in
      let back = ap (λ s. told read s k') q ∙ ap (told read (number_of a)) t ∙ whole k long (λ z. n (z ∙ same)) in
      record { says = ap (outcome st l) back ∙ e; places = t ∙ ap (λ b. laid values b k) same }

-- ---- each call's refusals have numbers from 1

pub pin-numbered : (st : State) (s : ℕ) (sp : Span) → Numbered (pin_source st s sp).answer
unfolding pin_source
pin-numbered st s sp = unless-numbered (first_of (pin_refusals st s sp)) _ _ _ _ _

pub unpin-numbered : (st : State) (s : ℕ) (sp : Span) → Numbered (unpin_source st s sp).answer
unfolding unpin_source
unpin-numbered st s sp = unless-numbered (first_of (unpin_refusals st s sp)) _ _ _ _ _

pub resolve-numbered : (st : State) (l : PathList) (hs : List ℕ) → Numbered (resolve_call st l hs).answer
unfolding resolve_call
resolve-numbered st l hs = unless-numbered (first_of (resolve_refusals st l hs)) _ _ _ _ _

pub store_insert-numbered : (st : State) (l : OutList) (s : ℕ) (sp : Span) (time : Float) (w : ℕ) → Numbered (store_insert st l s sp time w).answer
unfolding store_insert
store_insert-numbered st l s sp time w = unless-numbered (first_of (store_insert_refusals st l s sp time)) _ _ _ _ _

pub store_used-numbered : (st : State) (s : ℕ) (sps : List Span) (time : Float) (c : Bool) → Numbered (store_used st s sps time c).answer
unfolding store_used
store_used-numbered st s sps time c = unless-numbered (first_of (store_used_refusals st s sps time c)) _ _ _ _ _

pub store_remove-numbered : (st : State) (l : List ℕ) (s : ℕ) (sp : Span) → Numbered (store_remove st l s sp).answer
unfolding store_remove
store_remove-numbered st l s sp = unless-numbered (first_of (store_remove_refusals st l s sp)) _ _ _ _ _

pub store_expire-numbered : (st : State) (l : OutList) (s : ℕ) (now seconds : Float) → Numbered (store_expire st l s now seconds).answer
unfolding store_expire
store_expire-numbered st l s now seconds = unless-numbered (first_of (store_expire_refusals st l s now seconds)) _ _ _ _ _

pub insert-numbered : (st : State) (l : PathList) (hs : List ℕ) → Numbered (insert st l hs).answer
unfolding insert
insert-numbered st l hs = unless-numbered (first_of (insert_refusals st l hs)) _ _ _ _ _

pub set_up-numbered : (st : State) (table capacity : List ℕ) (refreshes : List Bool) → Numbered (set_up st table capacity refreshes).answer
unfolding set_up
set_up-numbered st table capacity refreshes = unless-numbered (first_of (set_up_refusals st table capacity refreshes)) _ _ _ _ _

pub lookup-numbered : (st : State) (l : LookupLists) (ts hs : List ℕ) → Numbered (lookup st l ts hs).answer
unfolding lookup
lookup-numbered st l ts hs = unless-numbered (first_of (lookup_refusals st l.path l.spans ts hs)) _ _ _ _ _

pub held-numbered : (st : State) (s : ℕ) → Numbered (held_call st s).answer
unfolding held_call
held-numbered st s = unless-numbered (first_of (store_count_refusals st s)) _ _ _ _ _

pub capacity-numbered : (st : State) (s : ℕ) → Numbered (capacity_call st s).answer
unfolding capacity_call
capacity-numbered st s = unless-numbered (first_of (store_count_refusals st s)) _ _ _ _ _

pub pinned-numbered : (st : State) (s : ℕ) → Numbered (pinned_call st s).answer
unfolding pinned_call
pinned-numbered st s = unless-numbered (first_of (store_count_refusals st s)) _ _ _ _ _

pub available_numbered : (st : State) (s : ℕ) → Numbered (available_call st s).answer
unfolding available_call
available_numbered st s = unless-numbered (first_of (store_count_refusals st s)) _ _ _ _ _

pub version-numbered : (st : State) (s : ℕ) → Numbered (version_call st s).answer
unfolding version_call
version-numbered st s = unless-numbered (first_of (store_count_refusals st s)) _ _ _ _ _

pub stalls-numbered : (st : State) → Numbered (stalls_call st).answer
unfolding stalls_call
stalls-numbered st = unless-numbered (first_of (count_refusals st)) _ _ _ _ _
