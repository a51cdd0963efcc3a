-- The demands of the public calls: a contract is an equation with the definitions' outcome, so what holds of the definitions holds of all that the calls may
-- leave. Assumes nothing.
use Prim.Native.Nat.{ℕ, ◌≤◌, ◌<◌}
use mathlib.Core.Bool.{Bool}
use mathlib.Core.Path.{◌≡◌, refl, sym, ap, subst, ◌∙◌}
use mathlib.Core.List.{List}
use lib.Ieee.{Float}
use Rattle.model.specs.declared.Span.{Span}
use Rattle.model.specs.State.{State, stores_of}
use Rattle.model.specs.Sound.{Sound}
use Rattle.model.specs.Refusals.{OutList}
use Rattle.model.specs.Calls as Calls
use Rattle.model.specs.Calls.{done, NoList}
use Rattle.shape_answer.specs.declared.Plain.{Plain}
use Rattle.shape_answer.specs.declared.StoreInserted.{StoreInserted}
use Rattle.shape_answer.specs.Answers.{plain_of, store_inserted_of, looked_of}
use Rattle.theory_outcome.specs.Settled.{Left, state_in, Allows}
use Rattle.theory_history.specs.History.{Call, Reply, History, tell, run, since, Steps, run_all, since_all, nothing, Exactly}
use Rattle.theory_history.proofs.History.{history}
use Rattle.theory_room.specs.Room.{ButCapacity}
use Rattle.theory_room.proofs.Room.{more_room}
use Rattle.promise.specs.Calls.{left_by, Ran, rest, call, Made, end, made, told, told_all, RoomForReading}

-- ---- history (demand 2)

ran_is : {st st₁ : State} {cs : List Call} → Ran st cs st₁ → run st cs ≡ st₁
unfolding run
ran_is rest = refl
ran_is (call {cs = cs} c k r) = ap (λ z. run z cs) (sym (ap (λ z. z.state) k.allowed)) ∙ ran_is r

-- what a call left is the reply of the definitions, so both tell one history
told_is : {st st₁ : State} {cs : List Call} (r : Ran st cs st₁) (h : History) → told r h ≡ since h st cs
unfolding told since
told_is rest h = refl
told_is (call {st = st} {cs = cs} c k r) h =
    told_is r (tell c st.tree (left_by k) h) ∙ ap (λ (z : Reply c). since (tell c st.tree z h) z.state cs) k.allowed

made-is : {st st₁ : State} {cs : List Steps} → Made st cs st₁ → run_all st cs ≡ st₁
unfolding run_all
made-is end = refl
made-is (made {cs = cs} c r m) = ap (λ z. run_all z cs) (ran_is r) ∙ made-is m

told-all-is : {st st₁ : State} {cs : List Steps} (m : Made st cs st₁) (h : History) → told_all m h ≡ since_all h st cs
unfolding told_all since_all
told-all-is end h = refl
told-all-is (made {st = st} {st₁ = st₁} {cs = cs} c r m) h =
    told-all-is m (told r h)
    ∙ (ap (λ (z : History). since_all z st₁ cs) (told_is r h) ∙ ap (λ z. since_all (since h st c) z cs) (sym (ran_is r)))

-- "After any calls from set-up, each store's ranges are sorted and disjoint and hold exactly the blocks brought in and not since given out or removed; held
-- is their number"
pub history_of_calls : (pools : State) (table capacity : List ℕ) (refreshes : List Bool) (x : Left NoList Plain)
    → Allows plain_of (Calls.set_up pools table capacity refreshes) x
    → plain_of x.answer ≡ done tt
    → (cs : List Steps) (st : State) (m : Made (state_in x.world) cs st) (q : ℕ)
    → q < stores_of st
    → Exactly st (told_all m nothing) q
history_of_calls pools table capacity refreshes x k e cs st m q l =
    let first : (Calls.set_up pools table capacity refreshes).state ≡ state_in x.world = sym (ap (λ z. z.state) k) in
    let made : run_all (state_in x.world) cs ≡ st = made-is m in
    subst (λ (h : History). Exactly st h q) (sym (told-all-is m nothing))
    (subst (λ z. q < stores_of z → Exactly z (since_all nothing (state_in x.world) cs) q) made
    (subst (λ z. q < stores_of (run_all z cs) → Exactly (run_all z cs) (since_all nothing z cs) q) first
    (history pools table capacity refreshes (sym (ap (λ z. z.answer) k) ∙ e) cs q)) l)

-- ---- more room (demand 3)

-- "Take two equal sound states but for one store's capacity, C in one and D in the other, 0 < C <= D, and make the same insertion into that store"
pub more-room-of_calls : (a b : State) (s C D : ℕ) → Sound a → Sound b → ButCapacity s C D a b → s < stores_of a → 0 < C → C ≤ D
    → (l : OutList) (sp : Span) (time : Float) (write : ℕ) (x y : Left OutList StoreInserted)
    → Allows store_inserted_of (Calls.store_insert a l s sp time write) x
    → Allows store_inserted_of (Calls.store_insert b l s sp time write) y
    → RoomForReading s x y
more-room-of_calls a b s C D ha hb but less some le l sp time write x y p q =
    let m = more_room a b s C D ha hb but less some le l sp time write in
    let xs : state_in x.world ≡ (Calls.store_insert a l s sp time write).state = ap (λ z. z.state) p in
    let ys : state_in y.world ≡ (Calls.store_insert b l s sp time write).state = ap (λ z. z.state) q in
    let xa : store_inserted_of x.answer ≡ (Calls.store_insert a l s sp time write).answer = ap (λ z. z.answer) p in
    let ya : store_inserted_of y.answer ≡ (Calls.store_insert b l s sp time write).answer = ap (λ z. z.answer) q in
    record {
      alike = rw (xa, ya) m.alike;
      kept = λ v e. rw (xs, ys) (m.kept v (sym xa ∙ e));
      reads =
          λ w e k ts hs u v f g.
          let ua : looked_of u.answer ≡ (Calls.lookup (state_in x.world) k ts hs).answer = ap (λ z. z.answer) f in
          let va : looked_of v.answer ≡ (Calls.lookup (state_in y.world) k ts hs).answer = ap (λ z. z.answer) g in
          rw (ua, va, xs, ys) (m.reads_alike w (sym xa ∙ e) k ts hs, m.reads w (sym xa ∙ e) k ts hs);
    }
