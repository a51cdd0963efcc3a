-- What a plain call answers, leaves of the state and adds does not depend on what its answer lists held: so a trial on other lists tells what the call
-- would add. The lists stand in one condition, that they are long enough, and behind the spans that are laid. Assumes nothing.
use Prim.Native.Nat.{ℕ, zero, suc, ◌+◌, ◌≤◌, ◌-◌}
use mathlib.Core.Path.{◌≡◌, refl, sym, ap, subst, ◌∙◌}
use mathlib.Core.Bool.{Bool, true, false}
use mathlib.Core.List.{List, [], ◌∷◌}
use native.Mathlib.Omega.{arith}
use lib.ListN.{length, drop}
use lib.Ieee.{Float}
use borrow.Author.Tests.{le-ltb}
use Rattle.model.specs.declared.Span.{Span}
use Rattle.model.specs.declared.BringAnswer.{BringAnswer}
use Rattle.model.specs.declared.RemoveAnswer.{RemoveAnswer}
use Rattle.model.specs.declared.ExpireAnswer.{ExpireAnswer}
use Rattle.model.specs.Sizes.{out_places}
use Rattle.model.specs.State.{State, next_id_of, stalls_of, capacity_of}
use Rattle.model.specs.Store.{store_of, with_ranges, with_next}
use Rattle.model.specs.Trim.{Out, out_blocks, bytes_of}
use Rattle.model.specs.Bring.{give_back, bring, bring_blocks}
use Rattle.model.specs.Tree.{resolve}
use Rattle.model.specs.Lookup.{lookup_path}
use Rattle.model.specs.Refusals.{Condition, first_of, unsound, short_outs, short_writes, short_path, short_tiers, OutList, OutFits, PathFits, TierFits, store_insert_refusals, store_expire_refusals, store_remove_refusals, lookup_refusals}
use Rattle.model.specs.Calls.{Outcome, Answer, done, unless, front, lay_outs, lay_path, lay_tiers, LookupLists, brought, bring_in, store_insert, store_remove, store_expire, lookup}
use Rattle.model_sums.specs.Sums.{More, more, brought_at, gave_at, age_at, back_at, removed_at, bytes_at, dead_at, add_bring, add_expire, add_remove, more_if, by_bring, by_expire, by_remove, by_lookup}
use Rattle.theory_refuse.proofs.Says.{false_says}
use Rattle.theory_refuse.proofs.Refusals.{store_insert_exact, store_expire_exact, lookup_exact}
use Rattle.theory_calls.proofs.Stores.{removed_by}
use Rattle.theory_sums.proofs.Answers.{over, sum_laid, blocks-laid}
use Rattle.theory_sums.proofs.Made.{insert-made, expire-made, remove-made, aged_by, answer_of}

-- two outcomes of a call on one state: they answer, leave the state and add alike
pub record Alike {L A : Type 0} (by : Outcome L A → List More) (o p : Outcome L A) : Type 0 where
  pub answer : o.answer ≡ p.answer
  pub state : o.state ≡ p.state
  pub adds : by o ≡ by p

-- ---- what is added, by the blocks of the gaps and the spans that are given out

abbrev pub bring_more : ℕ → ℕ → ℕ → List Out → List More
bring_more c s b os =
    more (brought_at s) b
    ∷ more (gave_at c s) (out_blocks os)
    ∷ more (bytes_at s) (over (λ o. o.bytes) os)
    ∷ more (dead_at s) (over (λ o. o.dead) os)
    ∷ []

abbrev pub expire_more : ℕ → List Out → List More
expire_more s os =
    more (age_at s) (out_blocks os) ∷ more (bytes_at s) (over (λ o. o.bytes) os) ∷ more (dead_at s) (over (λ o. o.dead) os) ∷ []

pub bring-laid : (c s b : ℕ) (os : List Out) (l : OutList) → add_bring c s (record { outs = length os; blocks = b }) (lay_outs os l) ≡ bring_more c s b os
bring-laid c s b os l =
    let x = blocks-laid os l in
    let y = sum_laid (λ o. o.bytes) os l.bytes in
    let z = sum_laid (λ o. o.dead) os l.dead in
    cc

pub expire-laid : (s : ℕ) (os : List Out) (l : OutList) → add_expire s (record { outs = length os }) (lay_outs os l) ≡ expire_more s os
expire-laid s os l =
    let x = blocks-laid os l in
    let y = sum_laid (λ o. o.bytes) os l.bytes in
    let z = sum_laid (λ o. o.dead) os l.dead in
    cc

-- ---- a call with the number n, on the lists l and on m

call-alike : {L A : Type 0} (adds : Outcome L A → List More) (st : State) (l m : L) (st' : State) (l' m' : L) (v : A) (j k : ℕ) → j ≡ k
    → adds (record { state = st'; lists = l'; answer = done v }) ≡ adds (record { state = st'; lists = m'; answer = done v })
    → ((n : ℕ) → adds (unless (suc n) st l (record { state = st'; lists = l'; answer = done v }))
    ≡ adds (unless (suc n) st m (record { state = st'; lists = m'; answer = done v })))
    → Alike adds (unless j st l (record { state = st'; lists = l'; answer = done v })) (unless k st m (record { state = st'; lists = m'; answer = done v }))
call-alike {L} {A} adds st l m st' l' m' v j k e same none = subst (λ (i : ℕ). Alike adds (call l l' j) (call m m' i)) e (go j)
  where
    call : L → L → ℕ → Outcome L A
    call x y n = unless n st x (record { state = st'; lists = y; answer = done v })

    go : (n : ℕ) → Alike adds (call l l' n) (call m m' n)
    go zero = record { answer = refl; state = refl; adds = same }
    go (suc n) = record { answer = refl; state = refl; adds = none n }

-- ---- the number: conditions that do not hold may be left out

skip : (c : Condition) (cs : List Condition) → c.tested ≡ false → first_of (c ∷ cs) ≡ first_of cs
skip c cs e = ap (λ (b : Bool). elim b as (λ z. ℕ) [ true ↦ c.number | false ↦ first_of cs ]) e

behind : (c : Condition) (cs ds : List Condition) → first_of cs ≡ first_of ds → first_of (c ∷ cs) ≡ first_of (c ∷ ds)
behind c cs ds e = ap (λ (n : ℕ). elim c.tested as (λ z. ℕ) [ true ↦ c.number | false ↦ n ]) e

-- one that stands second
second : (c d e : Condition) (cs : List Condition) → d.tested ≡ false → e.tested ≡ false → first_of (c ∷ d ∷ cs) ≡ first_of (c ∷ e ∷ cs)
second c d e cs p q = behind c (d ∷ cs) (e ∷ cs) (skip d cs p ∙ sym (skip e cs q))

module _ (st : State) where
  -- ---- what an accepted call adds, by its rule

  pub insert-more : (l : OutList) (s : ℕ) (sp : Span) (time : Float) (write : ℕ) (a : BringAnswer) → (store_insert st l s sp time write).answer ≡ done a
      → by_bring (capacity_of st s) s (store_insert st l s sp time write)
      ≡ bring_more (capacity_of st s) s (bring_blocks (store_of st s) sp) (brought st s sp time write).outs
  insert-more l s sp time write a e =
      let os = (brought st s sp time write).outs in
      let (lists, value) = insert-made st l s sp time write a e in
      ap (λ (x : Answer BringAnswer). more_if x (λ b. add_bring (capacity_of st s) s b (store_insert st l s sp time write).lists)) e
      ∙ ap (λ (b : BringAnswer). add_bring (capacity_of st s) s b (store_insert st l s sp time write).lists) (sym value)
      ∙ ap (add_bring (capacity_of st s) s (record { outs = length os; blocks = bring_blocks (store_of st s) sp })) lists
      ∙ bring-laid (capacity_of st s) s (bring_blocks (store_of st s) sp) os l

  pub expire-more : (l : OutList) (s : ℕ) (now seconds : Float) (a : ExpireAnswer) → (store_expire st l s now seconds).answer ≡ done a
      → by_expire s (store_expire st l s now seconds) ≡ expire_more s (aged_by st s now seconds).outs
  expire-more l s now seconds a e =
      let os = (aged_by st s now seconds).outs in
      let (lists, value) = expire-made st l s now seconds a e in
      ap (λ (x : Answer ExpireAnswer). more_if x (λ b. add_expire s b (store_expire st l s now seconds).lists)) e
      ∙ ap (λ (b : ExpireAnswer). add_expire s b (store_expire st l s now seconds).lists) (sym value)
      ∙ ap (add_expire s (record { outs = length os })) lists
      ∙ expire-laid s os l

  pub remove-more : (l : List ℕ) (s : ℕ) (sp : Span) (a : RemoveAnswer) → (store_remove st l s sp).answer ≡ done a
      → by_remove s (store_remove st l s sp) ≡ more (removed_at s) (removed_by st s sp).blocks ∷ []
  remove-more l s sp a e =
      ap (λ (x : Answer RemoveAnswer). more_if x (add_remove s)) e
      ∙ ap (add_remove s) (sym (remove-made st l s sp a e))

  -- at capacity 0: the whole span, with its bytes, none of them dead
  pub back_more : (s : ℕ) (sp : Span) (time : Float) (write : ℕ) → capacity_of st s ≡ 0
      → bring_more (capacity_of st s) s (bring_blocks (store_of st s) sp) (brought st s sp time write).outs
      ≡ more (brought_at s) 0
      ∷ more (back_at s) (sp.end - sp.start)
      ∷ more (bytes_at s) (bytes_of st.tree st.bytes sp.node sp.start sp.end)
      ∷ more (dead_at s) 0
      ∷ []
  unfolding brought bring bring_blocks give_back store_of out_blocks over
  back_more s sp time write e =
      let b = sp.end - sp.start in
      let y = bytes_of st.tree st.bytes sp.node sp.start sp.end in
      let p : b + 0 ≡ b = omega arith in
      let q : y + 0 ≡ y = omega arith in
      rw (bring, bring_blocks, e, p, q)

  -- ---- the four calls on other lists

  pub insert-alike : (l m : OutList) (s : ℕ) (sp : Span) (time : Float) (write : ℕ) → OutFits l → OutFits m
      → Alike (by_bring (capacity_of st s) s) (store_insert st l s sp time write) (store_insert st m s sp time write)
  unfolding store_insert
  insert-alike l m s sp time write long also =
      let os = (brought st s sp time write).outs in
      let v : BringAnswer = record { outs = length os; blocks = bring_blocks (store_of st s) sp } in
      call-alike (by_bring (capacity_of st s) s) st l m (bring_in st s sp time write) (lay_outs os l) (lay_outs os m) v
      (first_of (store_insert_refusals st l s sp time)) (first_of (store_insert_refusals st m s sp time))
      (second (unsound st) (short_outs l) (short_outs m) (drop 2 (store_insert_refusals st l s sp time))
      (false_says _ (store_insert_exact st l s sp time).1.0 (λ n. n long)) (false_says _ (store_insert_exact st m s sp time).1.0 (λ n. n also)))
      (bring-laid (capacity_of st s) s v.blocks os l ∙ sym (bring-laid (capacity_of st s) s v.blocks os m)) (λ n. refl)

  pub expire-alike : (l m : OutList) (s : ℕ) (now seconds : Float) → OutFits l → OutFits m
      → Alike (by_expire s) (store_expire st l s now seconds) (store_expire st m s now seconds)
  unfolding store_expire
  expire-alike l m s now seconds long also =
      let w = aged_by st s now seconds in
      let v : ExpireAnswer = record { outs = length w.outs } in
      call-alike (by_expire s) st l m (with_ranges s 0 w.store st) (lay_outs w.outs l) (lay_outs w.outs m) v
      (first_of (store_expire_refusals st l s now seconds)) (first_of (store_expire_refusals st m s now seconds))
      (second (unsound st) (short_outs l) (short_outs m) (drop 2 (store_expire_refusals st l s now seconds))
      (false_says _ (store_expire_exact st l s now seconds).1.0 (λ n. n long)) (false_says _ (store_expire_exact st m s now seconds).1.0 (λ n. n also)))
      (expire-laid s w.outs l ∙ sym (expire-laid s w.outs m)) (λ n. refl)

  pub remove-alike : (l m : List ℕ) (s : ℕ) (sp : Span) → out_places ≤ length l → out_places ≤ length m
      → Alike (by_remove s) (store_remove st l s sp) (store_remove st m s sp)
  unfolding store_remove
  remove-alike l m s sp long also =
      let w = removed_by st s sp in
      call-alike (by_remove s) st l m (with_next (next_id_of st + w.need) (stalls_of st) (with_ranges s w.need w.store st)) (front w.writes l)
      (front w.writes m) (record { writes = length w.writes; blocks = w.blocks }) (first_of (store_remove_refusals st l s sp))
      (first_of (store_remove_refusals st m s sp))
      (second (unsound st) (short_writes l) (short_writes m) (drop 2 (store_remove_refusals st l s sp)) (le-ltb (length l) out_places long)
      (le-ltb (length m) out_places also))
      refl (λ n. refl)

  pub lookup-alike : (l m : LookupLists) (ts hs : List ℕ) → PathFits l.path → TierFits l.spans → PathFits m.path → TierFits m.spans
      → Alike by_lookup (lookup st l ts hs) (lookup st m ts hs)
  unfolding lookup
  lookup-alike l m ts hs path tiers path' tiers' =
      let segs = resolve st.tree hs in
      let spans = lookup_path st ts segs in
      call-alike by_lookup st l m st (record { path = lay_path segs l.path; spans = lay_tiers spans l.spans })
      (record { path = lay_path segs m.path; spans = lay_tiers spans m.spans }) (answer_of st ts hs)
      (first_of (lookup_refusals st l.path l.spans ts hs)) (first_of (lookup_refusals st m.path m.spans ts hs))
      (behind (unsound st) (drop 1 (lookup_refusals st l.path l.spans ts hs)) (drop 1 (lookup_refusals st m.path m.spans ts hs))
      (long-lists l path tiers ∙ sym (long-lists m path' tiers'))) refl (λ n. refl)
    where
      long-lists : (k : LookupLists) → PathFits k.path → TierFits k.spans
          → first_of (drop 1 (lookup_refusals st k.path k.spans ts hs)) ≡ first_of (drop 3 (lookup_refusals st k.path k.spans ts hs))
      long-lists k p q =
          let exact = lookup_exact st k.path k.spans ts hs in
          skip (short_path k.path) (drop 2 (lookup_refusals st k.path k.spans ts hs)) (false_says _ exact.1.0 (λ n. n p))
          ∙ skip (short_tiers k.spans) (drop 3 (lookup_refusals st k.path k.spans ts hs)) (false_says _ exact.1.1.0 (λ n. n q))
