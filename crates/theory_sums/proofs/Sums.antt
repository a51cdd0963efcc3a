-- Request P1: after any steps from an accepted set-up the law holds of every store of capacity above 0 and no sum is past the limit; each figure is the
-- sum over the answers; and the state is that of the plain calls that 21 did not refuse. Step after step, by what one step does. Assumes nothing.
use Prim.Native.Nat.{ℕ, ◌≤◌, ◌<◌}
use mathlib.Core.Path.{◌≡◌, refl, sym, ap, subst, ◌∙◌}
use mathlib.Core.Bool.{Bool, true, false}
use mathlib.Core.List.{List, [], ◌∷◌}
use native.Mathlib.Omega.{arith}
use lib.ListN.{length, get_or-replicate}
use lib.Dec.{eqb}
use borrow.Author.Tests.{eqb-false}
use Rattle.model.specs.declared.Book.{Book}
use Rattle.model.specs.Sizes.{max_stores}
use Rattle.model.specs.State.{State, at, stores_of, capacity_of, held_of}
use Rattle.model.specs.Sound.{Sound}
use Rattle.model.specs.Calls.{Answer, refused, done, Outcome, set_up}
use Rattle.model_sums.specs.Sums.{sum_places, More, no_sums, brought_at, room_at, age_at, removed_at}
use Rattle.model_sums.specs.Tally.{Summed, summed}
use Rattle.theory_refuse.proofs.Refused.{set_up-kept, store_insert-kept, store_remove-kept, store_expire-kept, lookup-kept}
use Rattle.theory_lay.proofs.SetUp.{new-book}
use Rattle.theory_calls.proofs.Accepted.{unless-done, set_up_fits_lem}
use Rattle.theory_calls.proofs.Calls as Kept
use Rattle.theory_history.specs.History.{Call, reply_of, run, since, nothing, Exactly, run_all, since_all}
use Rattle.theory_history.specs.History as History
use Rattle.theory_history.proofs.History.{history}
use Rattle.theory_sums.specs.Tallied.{TallyOf}
use Rattle.theory_sums.specs.Steps.{Step, brings, expires, removes, looks, plain, Run, started, after, run_steps, unless_late, call_of, calls_of}
use Rattle.theory_sums.specs.Balance.{Balanced, InBalance}
use Rattle.theory_sums.specs.Figures.{Figures, together, figures, Grew}
use Rattle.theory_sums.proofs.Tallied.{tallied_insert, tallied_expire, tallied_remove, tallied_lookup}
use Rattle.theory_sums.proofs.Stepped.{grew_none, step}

-- ---- one step

-- "brought in equals the outgoing counts plus held" is kept by every step, counted or not, accepted or refused
pub keeps : (c : Step) (r : Run) → Sound r.state → sum_places ≤ length r.sums → (q : ℕ) → q < stores_of r.state → 0 < capacity_of r.state q
    → Balanced r.state r.sums q → Balanced (after c r).state (after c r).sums q
keeps c r h long q less some even =
    let k = step c r h long in
    let l : q < max_stores = omega (arith, h.counts.stores) in
    omega (arith, k.moved.held q less some, k.grew.brought q l, k.grew.room q l, k.grew.age q l, k.grew.removed q l)

step-balance : (c : Step) (r : Run) → Sound r.state → sum_places ≤ length r.sums → InBalance r → InBalance (after c r)
step-balance c r h long b =
    let k = step c r h long in
    record {
      balanced =
          λ q less some.
          let l : q < stores_of r.state = rw k.moved.stores at less in
          let s : 0 < capacity_of r.state q = rw (k.moved.capacity q) at some in
          keeps c r h long q l s (b.balanced q l s);
      within = k.within b.within;
    }

-- ---- any steps, from any sound state and sums that are in balance

pub steps-balance : (cs : List Step) (r : Run) → Sound r.state → sum_places ≤ length r.sums → InBalance r → InBalance (run_steps r cs)
unfolding run_steps
steps-balance [] r h long b = b
steps-balance (c ∷ cs) r h long b =
    let k = step c r h long in
    steps-balance cs (after c r) k.sound (rw k.size long) (step-balance c r h long b)

-- ---- figures

grew_then : {u v w : List ℕ} {f g : Figures} → Grew u v f → Grew v w g → Grew u w (together f g)
grew_then h k =
    record {
      brought = λ q l. omega (arith, h.brought q l, k.brought q l);
      room = λ q l. omega (arith, h.room q l, k.room q l);
      age = λ q l. omega (arith, h.age q l, k.age q l);
      back = λ q l. omega (arith, h.back q l, k.back q l);
      removed = λ q l. omega (arith, h.removed q l, k.removed q l);
      bytes = λ q l. omega (arith, h.bytes q l, k.bytes q l);
      dead = λ q l. omega (arith, h.dead q l, k.dead q l);
      lookups = omega (arith, h.lookups, k.lookups);
      blocks = omega (arith, h.blocks, k.blocks);
      read = omega (arith, h.read, k.read);
    }

pub steps-figures : (cs : List Step) (r : Run) → Sound r.state → sum_places ≤ length r.sums → Grew r.sums (run_steps r cs).sums (figures r cs)
unfolding run_steps figures
steps-figures [] r h long = grew_none r.sums
steps-figures (c ∷ cs) r h long = let k = step c r h long in grew_then k.grew (steps-figures cs (after c r) k.sound (rw k.size long))

-- ---- a longer list is taken, and places past the 59 are not written

pub steps-past : (cs : List Step) (r : Run) → Sound r.state → sum_places ≤ length r.sums
    → (length (run_steps r cs).sums ≡ length r.sums) × ((p : ℕ) → sum_places ≤ p → at (run_steps r cs).sums p ≡ at r.sums p)
unfolding run_steps
steps-past [] r h long = (refl, λ p l. refl)
steps-past (c ∷ cs) r h long =
    let k = step c r h long in
    let rest = steps-past cs (after c r) k.sound (rw k.size long) in
    (rest.0 ∙ k.size, λ p l. rest.1 p l ∙ k.past p l)

-- ---- the plain calls

-- a counted call and then cs, unless 21 refused it: the plain call's state is the counted call's
module _ {L A : Type 0} {st : State} {l : Summed L} {ms : List More} {o : Outcome L A} {t : Outcome (Summed L) A} (k : TallyOf st l ms o t)
    (same : (n : ℕ) → o.answer ≡ refused n → o.state ≡ st) (c : Call) (is : (reply_of c st).state ≡ o.state) (cs : List Call) where
  call-run : run st (unless_late t.answer c cs) ≡ run t.state cs
  unfolding run
  call-run = go t.answer refl
    where
      late : (n : ℕ) (b : Bool) → eqb n 21 ≡ b → t.answer ≡ refused n
          → run st (elim b as (λ z. List Call) [ true ↦ cs | false ↦ c ∷ cs ]) ≡ run t.state cs
      late n true e r = ap (λ (x : State). run x cs) (sym (k.kept n r).0)
      late n false e r = ap (λ (x : State). run x cs) (is ∙ same n ((k.alike n (eqb-false n 21 e)).0 r) ∙ sym (k.kept n r).0)

      go : (x : Answer A) → t.answer ≡ x → run st (unless_late x c cs) ≡ run t.state cs
      go (refused n) e = late n (eqb n 21) refl e
      go (done a) e = ap (λ (x : State). run x cs) (is ∙ sym (k.accepted a e).state)

step_call : (c : Step) (r : Run) → sum_places ≤ length r.sums → (cs : List Call) → run r.state (call_of c r cs) ≡ run (after c r).state cs
unfolding run
step_call (brings l s sp time write) r long cs =
    call-run (tallied_insert r.state (summed l r.sums) s sp time write long)
    (λ n e. ((store_insert-kept r.state l s sp time write).keeps n e).state) (History.store_insert l s sp time write) refl cs
step_call (expires l s now seconds) r long cs =
    call-run (tallied_expire r.state (summed l r.sums) s now seconds long)
    (λ n e. ((store_expire-kept r.state l s now seconds).keeps n e).state) (History.store_expire l s now seconds) refl cs
step_call (removes l s sp) r long cs =
    call-run (tallied_remove r.state (summed l r.sums) s sp long) (λ n e. ((store_remove-kept r.state l s sp).keeps n e).state)
    (History.store_remove l s sp) refl cs
step_call (looks l ts hs) r long cs =
    call-run (tallied_lookup r.state (summed l r.sums) ts hs long) (λ n e. ((lookup-kept r.state l ts hs).keeps n e).state)
    (History.lookup l ts hs) refl cs
step_call (plain c u) r long cs = refl

pub steps-state : (cs : List Step) (r : Run) → Sound r.state → sum_places ≤ length r.sums → (run_steps r cs).state ≡ run r.state (calls_of r cs)
unfolding run_steps calls_of run
steps-state [] r h long = refl
steps-state (c ∷ cs) r h long =
    let k = step c r h long in
    steps-state cs (after c r) k.sound (rw k.size long) ∙ sym (step_call c r long (calls_of (after c r) cs))

-- ---- from set-up

fresh-sums : (p : ℕ) → p < sum_places → at no_sums p ≡ 0
fresh-sums p l = get_or-replicate sum_places p 0 0 l

module _ (pools : State) (table capacity : List ℕ) (refreshes : List Bool) (e : (set_up pools table capacity refreshes).answer ≡ done tt) where
  abbrev begun : Run
  begun = started pools table capacity refreshes

  sound : Sound begun.state
  sound = Kept.set_up-sound pools table capacity refreshes e

  long : sum_places ≤ length begun.sums
  long = omega arith

  none-held : (q : ℕ) → q < max_stores → held_of begun.state q ≡ 0
  unfolding set_up
  none-held q less =
      let a = unless-done _ _ _ (set_up-kept pools table capacity refreshes) tt e in
      ap (λ (x : State). held_of x q) a.state
      ∙ ap (λ (b : Book). b.held)
      (new-book pools table capacity refreshes (set_up_fits_lem pools table capacity refreshes a.none.0) q less)

  begun-balance : InBalance begun
  begun-balance =
      record {
        balanced =
            λ q less some.
            let l : q < max_stores = omega (arith, sound.counts.stores) in
            omega (
              arith,
              none-held q l,
              fresh-sums (brought_at q) (omega arith),
              fresh-sums (room_at q) (omega arith),
              fresh-sums (age_at q) (omega arith),
              fresh-sums (removed_at q) (omega arith),
            );
        within = λ p low high. omega (arith, fresh-sums p high);
      }

  -- "for each store of capacity above 0, the library's running sums are proved to keep: brought in equals the outgoing counts plus held"
  pub sums-of_calls : (cs : List Step) → InBalance (run_steps begun cs)
  sums-of_calls cs = steps-balance cs begun sound long begun-balance

  -- "Each figure sums the library's answers"
  pub figures-are_answers : (cs : List Step) → Grew no_sums (run_steps begun cs).sums (figures begun cs)
  figures-are_answers cs = steps-figures cs begun sound long

  -- a report's run is a run of the plain calls, but for those that 21 refused
  pub state-of_calls : (cs : List Step) → (run_steps begun cs).state ≡ run begun.state (calls_of begun cs)
  state-of_calls cs = steps-state cs begun sound long

  -- so what is proved of any calls is proved of a report's: each store holds what was brought in and not since given out or removed
  pub history_of-steps : (cs : List Step) (q : ℕ) → q < stores_of (run_steps begun cs).state
      → Exactly (run_steps begun cs).state (since nothing begun.state (calls_of begun cs)) q
  unfolding run_all since_all
  history_of-steps cs q less =
      let calls = calls_of begun cs in
      subst (λ (x : State). Exactly x (since nothing begun.state calls) q) (sym (state-of_calls cs))
      (history pools table capacity refreshes e (calls ∷ []) q (rw (state-of_calls cs) at less))
