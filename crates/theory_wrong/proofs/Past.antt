-- "Places of an answer list past the answer's end are not written", for every input of each call with an answer list: an answer is laid over the front of
-- a column, and the rest is what was lent. Assumes nothing.
use Prim.Native.Nat.{ℕ, zero, suc, ◌≤◌}
use mathlib.Core.Path.{◌≡◌, refl, sym, ap, subst, ◌∙◌}
use mathlib.Core.List.{List, [], ◌∷◌, ◌++◌, map}
use native.Mathlib.Omega.{arith}
use lib.ListN.{length, drop, length-map}
use lib.Ieee.{Float}
use Rattle.model.specs.declared.Span.{Span}
use Rattle.model.specs.State.{State, at, next_id_of}
use Rattle.model.specs.Tree.{Seg, resolve}
use Rattle.model.specs.Store.{store_of}
use Rattle.model.specs.Trim.{Out}
use Rattle.model.specs.Remove.{remove}
use Rattle.model.specs.Expire.{expire}
use Rattle.model.specs.Insert.{insert_path}
use Rattle.model.specs.Lookup.{TierSpan, lookup_path}
use Rattle.model.specs.Refusals.{Condition, first_of, PathList, OutList, resolve_refusals, insert_refusals, store_insert_refusals, store_remove_refusals, store_expire_refusals, lookup_refusals}
use Rattle.model.specs.Calls.{done, unless, front, lay_path, lay_outs, lay_tiers, LookupLists, brought, resolve_call, insert, store_insert, store_remove, store_expire, lookup}
use Rattle.theory_wrong.specs.Rejected.{row, KeptPast}
use Rattle.theory_wrong.specs.Inputs.{path_columns, out_columns, write_columns, lookup_path_columns, tier_columns}
use Rattle.theory_wrong.proofs.Laws.{done_refused, same-value}

-- ---- one column

drop_none : (n : ℕ) → drop {A = ℕ} n [] ≡ []
drop_none zero = refl
drop_none (suc n) = refl

front-past : (xs l : List ℕ) (i : ℕ) → length xs ≤ i → at (front xs l) i ≡ at l i
front-past [] l i h = refl
front-past (x ∷ xs) l zero h = absurd (omega arith)
front-past (x ∷ xs) [] (suc i) h = ap (λ z. at (xs ++ z) i) (sym (drop_none (length xs))) ∙ front-past xs [] i (omega arith)
front-past (x ∷ xs) (y ∷ l) (suc i) h = front-past xs l i (omega arith)

column_past : {A : Type 0} (f : A → ℕ) (xs : List A) (l : List ℕ) (i : ℕ) → length xs ≤ i → at (front (map f xs) l) i ≡ at l i
column_past f xs l i h = let e : length (map f xs) ≡ length xs = length-map xs f in front-past (map f xs) l i (omega arith)

-- ---- each list

path-past : (ss : List Seg) (l : PathList) (i : ℕ) → length ss ≤ i → row path_columns (lay_path ss l) i ≡ row path_columns l i
path-past ss l i h =
    let a = column_past (λ s. s.node) ss l.node i h in
    let b = column_past (λ s. s.len) ss l.len i h in
    cc

outs-past : (os : List Out) (l : OutList) (i : ℕ) → length os ≤ i → row out_columns (lay_outs os l) i ≡ row out_columns l i
outs-past os l i h =
    let a = column_past (λ o. o.node) os l.node i h in
    let b = column_past (λ o. o.start) os l.start i h in
    let c = column_past (λ o. o.end) os l.end i h in
    let d = column_past (λ o. o.write) os l.write i h in
    let e = column_past (λ o. o.bytes) os l.bytes i h in
    let f = column_past (λ o. o.dead) os l.dead i h in
    cc

-- ---- each call

-- whatever its refusals are
unless-past : {L A : Type 0} (columns : List (L → List ℕ)) (count : A → ℕ) (cs : List Condition) (st : State) {l : L} (st' : State) (l' : L)
    (v : A)
    → ((i : ℕ) → count v ≤ i → row columns l' i ≡ row columns l i)
    → KeptPast columns count l (unless (first_of cs) st l (record { state = st'; lists = l'; answer = done v }))
unless-past columns count cs st {l} st' l' v past = go (first_of cs)
  where
    go : (k : ℕ) → KeptPast columns count l (unless k st l (record { state = st'; lists = l'; answer = done v }))
    go zero = record { keeps = λ w e i h. past i (subst (λ z. count z ≤ i) (sym (same-value e)) h) }
    go (suc k) = record { keeps = λ w e i h. absurd (done_refused w (suc k) (sym e)) }

pub resolve-past : (st : State) (l : PathList) (hs : List ℕ) → KeptPast path_columns (λ a. a.path.segs) l (resolve_call st l hs)
unfolding resolve_call
resolve-past st l hs = unless-past path_columns (λ a. a.path.segs) (resolve_refusals st l hs) st _ _ _ (path-past (resolve st.tree hs) l)

pub insert-past : (st : State) (l : PathList) (hs : List ℕ) → KeptPast path_columns (λ a. a.path.segs) l (insert st l hs)
unfolding insert
insert-past st l hs = unless-past path_columns (λ a. a.path.segs) (insert_refusals st l hs) st _ _ _ (path-past (insert_path hs (resolve st.tree hs) st).path l)

pub store_insert-past : (st : State) (l : OutList) (s : ℕ) (sp : Span) (time : Float) (write : ℕ)
    → KeptPast out_columns (λ a. a.outs) l (store_insert st l s sp time write)
unfolding store_insert
store_insert-past st l s sp time write = unless-past out_columns (λ a. a.outs) (store_insert_refusals st l s sp time) st _ _ _ (outs-past (brought st s sp time write).outs l)

pub store_expire-past : (st : State) (l : OutList) (s : ℕ) (now seconds : Float)
    → KeptPast out_columns (λ a. a.outs) l (store_expire st l s now seconds)
unfolding store_expire
store_expire-past st l s now seconds = unless-past out_columns (λ a. a.outs) (store_expire_refusals st l s now seconds) st _ _ _ (outs-past (expire st.tree st.bytes (store_of st s) now seconds).outs l)

pub store_remove-past : (st : State) (l : List ℕ) (s : ℕ) (sp : Span) → KeptPast write_columns (λ a. a.writes) l (store_remove st l s sp)
unfolding store_remove
store_remove-past st l s sp = unless-past write_columns (λ a. a.writes) (store_remove_refusals st l s sp) st _ _ _ (λ i h. ap (λ z. z ∷ []) (front-past (remove (store_of st s) (next_id_of st) sp).writes l i h))

pub lookup-path-past : (st : State) (l : LookupLists) (ts hs : List ℕ) → KeptPast lookup_path_columns (λ a. a.path.segs) l (lookup st l ts hs)
unfolding lookup
lookup-path-past st l ts hs = unless-past lookup_path_columns (λ a. a.path.segs) (lookup_refusals st l.path l.spans ts hs) st _ _ _ (path-past (resolve st.tree hs) l.path)

pub lookup-past : (st : State) (l : LookupLists) (ts hs : List ℕ) → KeptPast tier_columns (λ a. a.spans) l (lookup st l ts hs)
unfolding lookup
lookup-past st l ts hs = unless-past tier_columns (λ a. a.spans) (lookup_refusals st l.path l.spans ts hs) st _ _ _ (tiers-past (lookup_path st ts (resolve st.tree hs)))
  where
    tiers-past : (ss : List TierSpan) (i : ℕ) → length ss ≤ i
        → row tier_columns (record { path = l.path; spans = lay_tiers ss l.spans }) i ≡ row tier_columns l i
    tiers-past ss i h =
        let a = column_past (λ s. s.tier) ss l.spans.tier i h in
        let b = column_past (λ s. s.node) ss l.spans.node i h in
        let c = column_past (λ s. s.start) ss l.spans.start i h in
        let d = column_past (λ s. s.end) ss l.spans.end i h in
        cc
