-- The counters by number: from 5 on it is the stalls, none is refused with 0, none changes the state, and each is refused by 1 where that is not sound.
-- Assumes nothing.
use Prim.Native.Nat.{ℕ, zero, suc, ◌≤◌}
use mathlib.Core.Path.{◌≡◌, refl, sym, ap, ◌∙◌}
use native.Mathlib.Omega.{arith}
use Rattle.model.specs.State.{State}
use Rattle.model.specs.Sound.{Sound}
use Rattle.model.specs.Refusals.{first_of, count_refusals, store_count_refusals}
use Rattle.model.specs.Calls.{Answer, refused, done, unless, NoList, held_call, capacity_call, pinned_call, available_call, version_call, stalls_call}
use Rattle.shape_answer.specs.Answers.{outcome}
use Rattle.theory_outcome.proofs.Gates.{held-unsound, capacity-unsound, pinned-unsound, available_unsound, version-unsound, stalls-unsound}
use Rattle.rust_values.specs.Counter.{counter_call}
use Rattle.rust_values.proofs.Telling.{Numbered, held-numbered, capacity-numbered, pinned-numbered, available_numbered, version-numbered, stalls-numbered}

pub stalls-from : (w : ℕ) (st : State) (s : ℕ) → 5 ≤ w → stalls_call st ≡ counter_call w st s
stalls-from zero st s h = absurd (omega arith)
stalls-from (suc zero) st s h = absurd (omega arith)
stalls-from (suc (suc zero)) st s h = absurd (omega arith)
stalls-from (suc (suc (suc zero))) st s h = absurd (omega arith)
stalls-from (suc (suc (suc (suc zero)))) st s h = absurd (omega arith)
stalls-from (suc (suc (suc (suc (suc n))))) st s h = refl

-- an answer of the counter k is that of the number w
pub by_number : (k : ℕ) {w : ℕ} (st : State) (s : ℕ) {a : Answer ℕ} → w ≡ k → a ≡ (counter_call k st s).answer → a ≡ (counter_call w st s).answer
by_number k st s q e = e ∙ sym (ap (λ (n : ℕ). (counter_call n st s).answer) q)

pub counter_numbered : (w : ℕ) (st : State) (s : ℕ) → Numbered (counter_call w st s).answer
counter_numbered zero st s = held-numbered st s
counter_numbered (suc zero) st s = capacity-numbered st s
counter_numbered (suc (suc zero)) st s = pinned-numbered st s
counter_numbered (suc (suc (suc zero))) st s = available_numbered st s
counter_numbered (suc (suc (suc (suc zero)))) st s = version-numbered st s
counter_numbered (suc (suc (suc (suc (suc n))))) st s = stalls-numbered st

unless-kept : (n : ℕ) (st : State) (k : ℕ) → (let o = unless n st tt (outcome {L = NoList} {A = ℕ} st tt (done k)) in outcome {L = NoList} {A = ℕ} st tt o.answer ≡ o)
unless-kept zero st k = refl
unless-kept (suc n) st k = refl

-- a counter's outcome is its answer, with the state as it was
pub counter_kept : (w : ℕ) (st : State) (s : ℕ) → outcome {L = NoList} {A = ℕ} st tt (counter_call w st s).answer ≡ counter_call w st s
unfolding held_call capacity_call pinned_call available_call version_call stalls_call
counter_kept zero st s = unless-kept (first_of (store_count_refusals st s)) st _
counter_kept (suc zero) st s = unless-kept (first_of (store_count_refusals st s)) st _
counter_kept (suc (suc zero)) st s = unless-kept (first_of (store_count_refusals st s)) st _
counter_kept (suc (suc (suc zero))) st s = unless-kept (first_of (store_count_refusals st s)) st _
counter_kept (suc (suc (suc (suc zero)))) st s = unless-kept (first_of (store_count_refusals st s)) st _
counter_kept (suc (suc (suc (suc (suc n))))) st s = unless-kept (first_of (count_refusals st)) st _

-- so what the books alone tell of it is the whole outcome
pub counter_whole : (w : ℕ) (st : State) (s : ℕ) {a : Answer ℕ} → a ≡ (counter_call w st s).answer → outcome {L = NoList} {A = ℕ} st tt a ≡ counter_call w st s
counter_whole w st s e = ap (outcome st tt) e ∙ counter_kept w st s

pub counter_unsound : (w : ℕ) (st : State) (s : ℕ) → (Sound st → ⊥) → outcome {L = NoList} {A = ℕ} st tt (refused 1) ≡ counter_call w st s
counter_unsound zero st s n = held-unsound st n s
counter_unsound (suc zero) st s n = capacity-unsound st n s
counter_unsound (suc (suc zero)) st s n = pinned-unsound st n s
counter_unsound (suc (suc (suc zero))) st s n = available_unsound st n s
counter_unsound (suc (suc (suc (suc zero)))) st s n = version-unsound st n s
counter_unsound (suc (suc (suc (suc (suc k))))) st s n = stalls-unsound st n
