-- An accepted call has its rule's outs in front of its lists, and its rule's counts for an answer. Assumes nothing.
use Prim.Native.Nat.{ℕ, zero, suc, ◌+◌}
use mathlib.Core.Path.{◌≡◌, refl}
use mathlib.Core.List.{List}
use native.Mathlib.Omega.{arith}
use lib.ListN.{length}
use lib.Ieee.{Float}
use Rattle.model.specs.declared.Span.{Span}
use Rattle.model.specs.declared.BringAnswer.{BringAnswer}
use Rattle.model.specs.declared.RemoveAnswer.{RemoveAnswer}
use Rattle.model.specs.declared.ExpireAnswer.{ExpireAnswer}
use Rattle.model.specs.declared.LookupAnswer.{LookupAnswer}
use Rattle.model.specs.Sizes.{max_tiers}
use Rattle.model.specs.State.{State, next_id_of, stalls_of}
use Rattle.model.specs.Tree.{resolve}
use Rattle.model.specs.Store.{store_of, with_ranges, with_next}
use Rattle.model.specs.Bring.{bring_blocks}
use Rattle.model.specs.Expire.{Expired, expire}
use Rattle.model.specs.Lookup.{lookup_path, span_blocks, span_bytes, tier_sums, each_tier}
use Rattle.model.specs.Refusals.{first_of, OutList, store_insert_refusals, store_expire_refusals, store_remove_refusals, lookup_refusals}
use Rattle.model.specs.Calls.{done, unless, front, lay_outs, lay_path, lay_tiers, path_of, LookupLists, brought, bring_in, store_insert, store_remove, store_expire, lookup}
use Rattle.theory_calls.proofs.Stores.{removed_by}

made-is : {L A : Type 0} (st : State) (l : L) (st' : State) (l' : L) (v a : A) (n : ℕ)
    → (unless n st l (record { state = st'; lists = l'; answer = done v })).answer ≡ done a
    → ((unless n st l (record { state = st'; lists = l'; answer = done v })).lists ≡ l') × (v ≡ a)
made-is st l st' l' v a zero e = (refl, cc)
made-is st l st' l' v a (suc n) e = let z : ◌≡◌ {A = ℕ} 0 1 = cc in absurd (omega arith)

module _ (st : State) where
  pub insert-made : (l : OutList) (s : ℕ) (sp : Span) (time : Float) (write : ℕ) (a : BringAnswer) → (store_insert st l s sp time write).answer ≡ done a
      → ((store_insert st l s sp time write).lists ≡ lay_outs (brought st s sp time write).outs l)
      × (record { outs = length (brought st s sp time write).outs; blocks = bring_blocks (store_of st s) sp } ≡ a)
  unfolding store_insert
  insert-made l s sp time write a e =
      let os = (brought st s sp time write).outs in
      made-is st l (bring_in st s sp time write) (lay_outs os l) (record { outs = length os; blocks = bring_blocks (store_of st s) sp }) a
      (first_of (store_insert_refusals st l s sp time)) e

  -- what an expiry makes of store s
  abbrev pub aged_by : ℕ → Float → Float → Expired
  aged_by s now seconds = expire st.tree st.bytes (store_of st s) now seconds

  pub expire-made : (l : OutList) (s : ℕ) (now seconds : Float) (a : ExpireAnswer) → (store_expire st l s now seconds).answer ≡ done a
      → ((store_expire st l s now seconds).lists ≡ lay_outs (aged_by s now seconds).outs l) × (record { outs = length (aged_by s now seconds).outs } ≡ a)
  unfolding store_expire
  expire-made l s now seconds a e =
      let w = aged_by s now seconds in
      made-is st l (with_ranges s 0 w.store st) (lay_outs w.outs l) (record { outs = length w.outs }) a
      (first_of (store_expire_refusals st l s now seconds)) e

  pub remove-made : (l : List ℕ) (s : ℕ) (sp : Span) (a : RemoveAnswer) → (store_remove st l s sp).answer ≡ done a
      → record { writes = length (removed_by st s sp).writes; blocks = (removed_by st s sp).blocks } ≡ a
  unfolding store_remove
  remove-made l s sp a e =
      let w = removed_by st s sp in
      (made-is st l (with_next (next_id_of st + w.need) (stalls_of st) (with_ranges s w.need w.store st)) (front w.writes l)
      (record { writes = length w.writes; blocks = w.blocks }) a (first_of (store_remove_refusals st l s sp)) e).1

  -- what a lookup answers, whatever its lists are
  abbrev pub answer_of : List ℕ → List ℕ → LookupAnswer
  answer_of ts hs =
      let path = resolve st.tree hs in
      let spans = lookup_path st ts path in
      record {
        path = path_of path;
        spans = length spans;
        blocks = each_tier (tier_sums span_blocks 0 max_tiers spans);
        bytes = each_tier (tier_sums (span_bytes st) 0 max_tiers spans);
      }

  pub look_made : (l : LookupLists) (ts hs : List ℕ) (a : LookupAnswer) → (lookup st l ts hs).answer ≡ done a → answer_of ts hs ≡ a
  unfolding lookup
  look_made l ts hs a e =
      let path = resolve st.tree hs in
      (made-is st l st (record { path = lay_path path l.path; spans = lay_tiers (lookup_path st ts path) l.spans }) (answer_of ts hs) a
      (first_of (lookup_refusals st l.path l.spans ts hs)) e).1
