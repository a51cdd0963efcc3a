-- A counter's answer with the state as it was is the counter's whole outcome, since no counter changes anything. Assumes nothing.
use Prim.Native.Nat.{ℕ, zero, suc}
use mathlib.Core.Path.{◌≡◌, ap}
use Rattle.model.specs.State.{State}
use Rattle.model.specs.Refusals.{first_of, count_refusals, store_count_refusals}
use Rattle.model.specs.Calls.{Outcome, Answer, NoList, done, unless, held_call, capacity_call, pinned_call, available_call, version_call, stalls_call}
use Rattle.shape_answer.specs.Answers.{outcome}

-- the outcome of a counter with the answer a
abbrev noted : State → Answer ℕ → Outcome NoList ℕ
noted st a = outcome st tt a

same : (n : ℕ) (st : State) (v : ℕ) (a : Answer ℕ) → a ≡ (unless {L = NoList} n st tt (noted st (done v))).answer
    → noted st a ≡ unless n st tt (noted st (done v))
same zero st v a e = ap (λ r. noted st r) e
same (suc n) st v a e = ap (λ r. noted st r) e

module _ (st : State) (s : ℕ) {a : Answer ℕ} where
  pub held-is : a ≡ (held_call st s).answer → noted st a ≡ held_call st s
  unfolding held_call
  held-is e = same (first_of (store_count_refusals st s)) st _ a e

  pub capacity-is : a ≡ (capacity_call st s).answer → noted st a ≡ capacity_call st s
  unfolding capacity_call
  capacity-is e = same (first_of (store_count_refusals st s)) st _ a e

  pub pinned-is : a ≡ (pinned_call st s).answer → noted st a ≡ pinned_call st s
  unfolding pinned_call
  pinned-is e = same (first_of (store_count_refusals st s)) st _ a e

  pub available_is : a ≡ (available_call st s).answer → noted st a ≡ available_call st s
  unfolding available_call
  available_is e = same (first_of (store_count_refusals st s)) st _ a e

  pub version-is : a ≡ (version_call st s).answer → noted st a ≡ version_call st s
  unfolding version_call
  version-is e = same (first_of (store_count_refusals st s)) st _ a e

pub stalls-is : (st : State) {a : Answer ℕ} → a ≡ (stalls_call st).answer → noted st a ≡ stalls_call st
unfolding stalls_call
stalls-is st {a} e = same (first_of (count_refusals st)) st _ a e
