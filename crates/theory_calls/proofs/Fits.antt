-- The answer lists are long enough: a call that is accepted gives no more answers than its list has places. The first half asks a sound state and what the
-- refusals test, the second only the answer. Assumes nothing.
use Prim.Native.Nat.{ℕ, zero, suc, ◌+◌, ◌≤◌, ◌<◌}
use mathlib.Core.Path.{◌≡◌}
use mathlib.Core.Bool.{Bool, true, false}
use Rattle.std.specs.Prelude.{Option, None, Some}
use mathlib.Core.List.{List, [], ◌∷◌, ◌++◌}
use native.Mathlib.Omega.{arith}
use lib.ListN.{length, length-append}
use lib.Dec.{eqb}
use lib.Ieee.{Float}
use Rattle.model.specs.declared.Span.{Span}
use Rattle.model.specs.declared.ResolveAnswer.{ResolveAnswer}
use Rattle.model.specs.declared.InsertAnswer.{InsertAnswer}
use Rattle.model.specs.declared.BringAnswer.{BringAnswer}
use Rattle.model.specs.declared.RemoveAnswer.{RemoveAnswer}
use Rattle.model.specs.declared.ExpireAnswer.{ExpireAnswer}
use Rattle.model.specs.declared.LookupAnswer.{LookupAnswer}
use Rattle.model.specs.Sizes.{max_nodes, max_hashes, store_records, path_places, out_places, tier_places}
use Rattle.model.specs.State.{State, stores_of, next_id_of, records_of}
use Rattle.model.specs.Sound.{Sound}
use Rattle.model.specs.Tree.{Seg, resolve, blocks}
use Rattle.model.specs.Store.{store_of, plus}
use Rattle.model.specs.Bring.{bring_need}
use Rattle.model.specs.Expire.{expire}
use Rattle.model.specs.Lookup.{TierSpan, Looked, first_tier, along, lookup_path}
use Rattle.model.specs.Insert.{adds, ends_inside, with_leaf, cut_first, grow, insert_path}
use Rattle.model.specs.Refusals.{PathList, OutList, SpanIn, node_need}
use Rattle.model.specs.Calls.{done, LookupLists, resolve_call, insert, brought, store_insert, store_remove, store_expire, lookup}
use Rattle.theory_refuse.proofs.Refused.{resolve-kept, insert-kept, store_insert-kept, store_remove-kept, store_expire-kept, lookup-kept}
use Rattle.theory_resolve.proofs.Walked.{resolve-within, resolve-few, resolve_255}
use Rattle.theory_lay.proofs.Store.{records_length}
use Rattle.theory_bring.proofs.Bring.{bring-outs}
use Rattle.theory_bring.proofs.Expire.{expire-outs}
use Rattle.theory_touch.proofs.Remove.{remove-writes}
use Rattle.theory_calls.proofs.Accepted.{unless-answer, is-sound, span_in_lem}
use Rattle.theory_calls.proofs.Stores.{store-sound, removed_by}

-- ---- given-out spans and writes

pub bring_in-fits : (st : State) (s : ℕ) (sp : Span) (time : Float) (write : ℕ)
    → records_of st s + bring_need (store_of st s) sp ≤ store_records → length (brought st s sp time write).outs ≤ out_places
unfolding brought
bring_in-fits st s sp time write room =
    bring-outs st.tree st.bytes (next_id_of st) (store_of st s) sp time write (omega (arith, records_length st s))

module _ (st : State) (s : ℕ) (h : Sound st) (less : s < stores_of st) where
  pub expire_in_fits : (now seconds : Float) → length (expire st.tree st.bytes (store_of st s) now seconds).outs ≤ out_places
  expire_in_fits now seconds = expire-outs st.tree st.bytes (store_of st s) now seconds (store-sound st s h less)

  pub remove_in_fits : (sp : Span) → SpanIn st.tree sp → length (removed_by st s sp).writes ≤ out_places
  remove_in_fits sp inside = remove-writes (store_of st s) (next_id_of st) sp (store-sound st s h less) inside h.counts.first_id

-- ---- paths: a node of a path is never the root nor met twice, and there was room for the leaf

leaf_length : (hs : List ℕ) (path : List Seg) (b : Bool) (st : State) → length (cut_first b hs path st).path ≡ suc (length path)
unfolding with_leaf
leaf_length hs path true st = simp length-append (omega arith)
leaf_length hs path false st = simp length-append (omega arith)

pub insert_path-fits : (st : State) (hs : List ℕ) → Sound st → st.tree.nodes + node_need st hs ≤ max_nodes
    → length (insert_path hs (resolve st.tree hs) st).path ≤ path_places
unfolding insert_path node_need
insert_path-fits st hs h nodes = go (adds hs path) nodes
  where
    path : List Seg
    path = resolve st.tree hs

    one : (b : Bool) → 1 ≤ plus b 1
    one true = omega arith
    one false = omega arith

    go : (b : Bool) → st.tree.nodes + (elim b as (λ z. ℕ) [ true ↦ plus (ends_inside st.tree path) 1 | false ↦ 0 ]) ≤ max_nodes
        → length (grow b hs path st).path ≤ path_places
    go true n =
        let b = ends_inside st.tree path in
        omega (arith, leaf_length hs path b st, one b, resolve-few st h hs)
    go false n = resolve_255 st h hs

-- ---- tier spans: no more along a segment than it has blocks, and a path has no more blocks than the list has hashes

along-few : (st : State) (ts : List ℕ) (n z more o : ℕ) (found : Option TierSpan) → length (along st ts n z more o found).spans ≤ more
unfolding along
along-few st ts n z zero o found = omega arith
along-few st ts n z (suc more) o None = omega arith
along-few st ts n z (suc more) o (Some s) = omega (arith, along-few st ts n z more s.end (first_tier st 0 ts n s.end z))

lookup-few : (st : State) (ts : List ℕ) (path : List Seg) → length (lookup_path st ts path) ≤ blocks path
unfolding lookup_path blocks
lookup-few st ts [] = omega arith
lookup-few st ts (s ∷ ss) = go (eqb l.stop s.len) (lookup-few st ts ss)
  where
    l : Looked
    l = along st ts s.node s.len s.len 0 (first_tier st 0 ts s.node 0 s.len)

    few : length l.spans ≤ s.len
    few = along-few st ts s.node s.len s.len 0 (first_tier st 0 ts s.node 0 s.len)

    go : (b : Bool) → length (lookup_path st ts ss) ≤ blocks ss
        → length {A = TierSpan} (elim b as (λ z. List TierSpan) [ true ↦ l.spans ++ lookup_path st ts ss | false ↦ l.spans ]) ≤ s.len + blocks ss
    go true ih = simp length-append (omega (arith, few))
    go false ih = omega (arith, few)

pub lookup_path-fits : (st : State) (ts hs : List ℕ) → Sound st → length hs ≤ max_hashes → length (lookup_path st ts (resolve st.tree hs)) ≤ tier_places
lookup_path-fits st ts hs h short = omega (arith, lookup-few st ts (resolve st.tree hs), resolve-within st h hs)

-- ---- of a call's answer

pub resolve-fits : (st : State) (l : PathList) (hs : List ℕ) (a : ResolveAnswer) → (resolve_call st l hs).answer ≡ done a → a.path.segs ≤ path_places
unfolding resolve_call
resolve-fits st l hs =
    unless-answer _ _ _ (λ a. a.path.segs ≤ path_places) (resolve-kept st l hs)
    (λ (unsound, (short, (many, end))). resolve_255 st (is-sound st unsound) hs)

pub insert-fits : (st : State) (l : PathList) (hs : List ℕ) (a : InsertAnswer) → (insert st l hs).answer ≡ done a → a.path.segs ≤ path_places
unfolding insert
insert-fits st l hs =
    unless-answer _ _ _ (λ a. a.path.segs ≤ path_places) (insert-kept st l hs)
    (λ (unsound, (short, (many, (few_nodes, rest)))). insert_path-fits st hs (is-sound st unsound) (omega arith))

pub store_insert-fits : (st : State) (l : OutList) (s : ℕ) (sp : Span) (time : Float) (write : ℕ) (a : BringAnswer)
    → (store_insert st l s sp time write).answer ≡ done a → a.outs ≤ out_places
unfolding store_insert
store_insert-fits st l s sp time write =
    unless-answer _ _ _ (λ a. a.outs ≤ out_places) (store_insert-kept st l s sp time write)
    (λ (unsound, (short, (no_store, (bad_span, (bad_time, (few_records, rest)))))). bring_in-fits st s sp time write (omega arith))

pub store_remove-fits : (st : State) (l : List ℕ) (s : ℕ) (sp : Span) (a : RemoveAnswer) → (store_remove st l s sp).answer ≡ done a → a.writes ≤ out_places
unfolding store_remove
store_remove-fits st l s sp =
    unless-answer _ _ _ (λ a. a.writes ≤ out_places) (store_remove-kept st l s sp)
    (λ (unsound, (short, (no_store, (bad_span, rest)))). remove_in_fits st s (is-sound st unsound) (omega arith) sp (span_in_lem st.tree sp bad_span))

pub store_expire-fits : (st : State) (l : OutList) (s : ℕ) (now seconds : Float) (a : ExpireAnswer) → (store_expire st l s now seconds).answer ≡ done a
    → a.outs ≤ out_places
unfolding store_expire
store_expire-fits st l s now seconds =
    unless-answer _ _ _ (λ a. a.outs ≤ out_places) (store_expire-kept st l s now seconds)
    (λ (unsound, (short, (no_store, rest))). expire_in_fits st s (is-sound st unsound) (omega arith) now seconds)

-- the path and the tier spans of a lookup
pub record LookupFits (a : LookupAnswer) : Type 0 where
  pub path : a.path.segs ≤ path_places
  pub spans : a.spans ≤ tier_places

pub lookup-fits : (st : State) (l : LookupLists) (ts hs : List ℕ) (a : LookupAnswer) → (lookup st l ts hs).answer ≡ done a → LookupFits a
unfolding lookup
lookup-fits st l ts hs =
    unless-answer _ _ _ LookupFits (lookup-kept st l ts hs)
    (λ (unsound, (short_path, (short_tiers, (no_tier, (many_hashes, rest))))).
    let h = is-sound st unsound in
    record { path = resolve_255 st h hs; spans = lookup_path-fits st ts hs h (omega arith) })
