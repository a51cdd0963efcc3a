-- Each condition's test says exactly its fact, call by call; and the number of the first condition that holds is determined by the facts alone.
-- Assumes nothing.
use Prim.Native.Nat.{ℕ, zero, suc, ◌+◌, ◌-◌, ◌*◌, ◌<◌, zero-le}
use mathlib.Core.Path.{◌≡◌, refl, sym, ◌∙◌}
use mathlib.Core.Logic.{inl, inr, ⊎_elim}
use mathlib.Core.Bool.{Bool, true, false, not, ◌||◌}
use mathlib.Core.List.{List, [], ◌∷◌}
use native.Mathlib.Nat.{le_refl, eq-or-lt_of_le}
use native.Mathlib.Omega.{arith}
use lib.ListN.{length, get_or}
use lib.Ieee.{Float}
use Rattle.model.specs.declared.Span.{Span}
use Rattle.model.specs.Words.{Says, Each}
use Rattle.model.specs.Sizes.{max_nodes, max_words, max_hashes, max_stores, max_capacity, max_marks, max_numbers, store_records, store_pins, max_pinned, max_stamp, max_spans, max_tiers, table_length, path_places, out_places, tier_places}
use Rattle.model.specs.State.{Tree, Pins, Pin, State, at, pin_at, stores_of, next_id_of, records_of, stamp_of, entries_of, pinned_of}
use Rattle.model.specs.SoundTest.{sound, rising}
use Rattle.model.specs.Store.{pins, store_of}
use Rattle.model.specs.Bring.{bring_need}
use Rattle.model.specs.Remove.{remove}
use Rattle.model.specs.Pins.{pin_of, same_span, has_pin, pin_need}
use Rattle.model.specs.SetUp.{SetUpFits, set_up_fits}
use Rattle.model.specs.Refusals.{Condition, Exact, first_of, First, PathList, OutList, TierList, path_fits, out_fits, tier_fits, unsound, short_path, short_outs, short_writes, short_tiers, no_store, no_tier, many_hashes, many_spans, many_tiers, SpanIn, span_in, bad_span, no_span, bad_spans, bad_time, bad_times, EntryOf, no_entry, node_need, few_nodes, new_blocks, few_words, few_records, cut_records, cut_entries, few_records_in_cut, few_entries, few_entries_in_cut, late_id, late_stamp, cut_ids, set_up_refusals, resolve_refusals, insert_refusals, store_insert_refusals, touched_by, touch_span, turn_refusals, store_used_refusals, store_remove_refusals, store_expire_refusals, pin_refusals, unpin_refusals, lookup_refusals, count_refusals, store_count_refusals}
use Rattle.theory_refuse.proofs.Says.{Sure, sure, le_sure, lt_sure, eq_sure, map_sure, ◌and◌, not_sure, or_sure, all_sure, any_sure}
use Rattle.theory_refuse.proofs.Sound.{sound-says, tree_lent_sure, ranges_lent_sure, pins_lent_sure, rising-says, finite_sure}

infixr 30 ◌then◌
-- ---- the list

-- where each test says its fact, `first_of` gives the number of the first that holds
pub first_says : (cs : List Condition) → Exact cs → First cs (first_of cs)
first_says [] e = refl
first_says (c ∷ cs) e = go c.tested e.0 (first_says cs e.1)
  where
    go : (b : Bool) → Says b c.holds → First cs (first_of cs) → First (c ∷ cs) (elim b [ true ↦ c.number | false ↦ first_of cs ])
    go true s f = inl (s, refl)
    go false s f = inr (s, f)

-- the facts alone leave one number
pub first_one : (cs : List Condition) (m n : ℕ) → First cs m → First cs n → m ≡ n
first_one [] m n p q = p ∙ sym q
first_one (c ∷ cs) m n (inl p) (inl q) = p.1 ∙ sym q.1
first_one (c ∷ cs) m n (inl p) (inr q) = absurd (q.0 p.0)
first_one (c ∷ cs) m n (inr p) (inl q) = absurd (p.0 q.0)
first_one (c ∷ cs) m n (inr p) (inr q) = first_one cs m n p.1 q.1

pub first-is : (cs : List Condition) → Exact cs → (n : ℕ) → First cs n → first_of cs ≡ n
first-is cs e n f = first_one cs (first_of cs) n (first_says cs e) f

-- ---- each condition

-- the condition's test says its fact
abbrev Tells : Condition → Type 0
Tells c = Sure c.tested c.holds

-- a list's conditions one after the other
◌then◌ : {b : Bool} {P E : Type 0} → Sure b P → E → Says b P × E
s then e = (s.says, e)

unsound-tells : (st : State) → Tells (unsound st)
unsound-tells st = not_sure (sure (sound st) (sound-says st))

short_path-tells : (l : PathList) → Tells (short_path l)
unfolding path_fits
short_path-tells l =
    not_sure (map_sure (λ h. search) (λ h. search) (le_sure path_places (length l.node) and le_sure path_places (length l.len)))

short_outs-tells : (l : OutList) → Tells (short_outs l)
unfolding out_fits
short_outs-tells l =
    not_sure
    (map_sure (λ h. search) (λ h. search)
    (le_sure out_places (length l.node)
    and le_sure out_places (length l.start)
    and le_sure out_places (length l.end)
    and le_sure out_places (length l.write)
    and le_sure out_places (length l.bytes)
    and le_sure out_places (length l.dead)))

short_writes-tells : (l : List ℕ) → Tells (short_writes l)
short_writes-tells l = lt_sure (length l) out_places

short_tiers-tells : (l : TierList) → Tells (short_tiers l)
unfolding tier_fits
short_tiers-tells l =
    not_sure
    (map_sure (λ h. search) (λ h. search)
    (le_sure tier_places (length l.tier)
    and le_sure tier_places (length l.node)
    and le_sure tier_places (length l.start)
    and le_sure tier_places (length l.end)))

no_store-tells : (st : State) (s : ℕ) → Tells (no_store st s)
no_store-tells st s = le_sure (stores_of st) s

no_tier-tells : (st : State) (ts : List ℕ) → Tells (no_tier st ts)
no_tier-tells st ts = any_sure (length ts) (λ i. le_sure (stores_of st) (at ts i))

many_hashes-tells : (hs : List ℕ) → Tells (many_hashes hs)
many_hashes-tells hs = lt_sure max_hashes (length hs)

many_spans-tells : (sps : List Span) → Tells (many_spans sps)
many_spans-tells sps = lt_sure max_spans (length sps)

many_tiers-tells : (ts : List ℕ) → Tells (many_tiers ts)
many_tiers-tells ts = lt_sure max_tiers (length ts)

span_in_sure : (t : Tree) (sp : Span) → Sure (span_in t sp) (SpanIn t sp)
span_in_sure t sp =
    map_sure (λ h. search) (λ h. search)
    (lt_sure sp.node t.nodes and lt_sure sp.start sp.end and le_sure sp.end (at t.len sp.node))

bad_span-tells : (st : State) (sp : Span) → Tells (bad_span st sp)
bad_span-tells st sp = not_sure (span_in_sure st.tree sp)

bad_spans-tells : (st : State) (sps : List Span) → Tells (bad_spans st sps)
bad_spans-tells st sps = any_sure (length sps) (λ i. not_sure (span_in_sure st.tree (get_or sps i no_span)))

bad_time-tells : (t : Float) → Tells (bad_time t)
bad_time-tells t = not_sure (finite_sure t)

bad_times-tells : (now seconds : Float) → Tells (bad_times now seconds)
bad_times-tells now seconds = or_sure (not_sure (finite_sure now)) (not_sure (finite_sure seconds))

-- neither the first nor any of the others
nor_sure : {a : Bool} {P Q : Type 0} (b : Bool) → Sure a P → Sure (not b) Q → Sure (not (a || b)) ((P → ⊥) × Q)
nor_sure {a = true} b s t = sure false (λ h. h.0 s.says)
nor_sure {a = false} b s t = map_sure (λ q. (s.says, q)) (λ h. h.1) t

entry_of_sure : (sp : Span) (p : Pin) → Sure (same_span (pin_of sp 1) p) (EntryOf sp p)
entry_of_sure sp p =
    map_sure (λ h. omega arith) (λ h. omega arith) (eq_sure sp.node p.node and eq_sure sp.start p.start and eq_sure sp.end p.end)

-- none of the n entries from place a on is of the span
none_of_sure : (sp : Span) (c : Pins) (a n : ℕ)
    → Sure (not (has_pin (pin_of sp 1) (pins c a n))) (Each a (a + n) (λ k. EntryOf sp (pin_at c k) → ⊥))
unfolding has_pin pins
none_of_sure sp c a zero = sure true (λ k f l. absurd (omega arith))
none_of_sure sp c a (suc n) =
    map_sure (λ h k f l. ⊎_elim (λ (e : a ≡ k). rw (← e) h.0) (λ (m : a < k). h.1 k m (omega arith)) (eq-or-lt_of_le f))
    (λ h. (h a (le_refl a) (omega arith), λ k f l. h k (omega arith) (omega arith)))
    (nor_sure (has_pin (pin_of sp 1) (pins c (suc a) n)) (entry_of_sure sp (pin_at c a)) (none_of_sure sp c (suc a) n))

-- of each offset below n, so of each place from a on
from_place : (P : ℕ → Type 0) (a n : ℕ) → Each 0 n (λ k. P (a + k)) → Each a (a + n) P
from_place P a n h k f l = let e : a + (k - a) ≡ k = omega arith in rw e at (h (k - a) zero-le (omega arith))

no_entry-tells : (st : State) (s : ℕ) (sp : Span) → Tells (no_entry st s sp)
unfolding store_of
no_entry-tells st s sp =
    let a = store_pins * s in
    let n = entries_of st s in
    map_sure (λ h k f l. h (a + k) (omega arith) (omega arith)) (from_place (λ k. EntryOf sp (pin_at st.pins k) → ⊥) a n) (none_of_sure sp st.pins a n)

few_nodes-tells : (st : State) (hs : List ℕ) → Tells (few_nodes st hs)
few_nodes-tells st hs = lt_sure max_nodes (st.tree.nodes + node_need st hs)

few_words-tells : (st : State) (hs : List ℕ) → Tells (few_words st hs)
few_words-tells st hs = lt_sure max_words (st.tree.used + new_blocks st hs)

few_records-tells : (st : State) (s need : ℕ) → Tells (few_records st s need)
few_records-tells st s need = lt_sure store_records (records_of st s + need)

few_records_in_cut-tells : (st : State) (hs : List ℕ) → Tells (few_records_in_cut st hs)
few_records_in_cut-tells st hs = any_sure (stores_of st) (λ s. lt_sure store_records (records_of st s + cut_records st hs s))

few_entries-tells : (st : State) (s : ℕ) (sp : Span) → Tells (few_entries st s sp)
few_entries-tells st s sp =
    or_sure (lt_sure store_pins (entries_of st s + pin_need (store_of st s) sp))
    (lt_sure max_pinned (pinned_of st s + (sp.end - sp.start)))

few_entries_in_cut-tells : (st : State) (hs : List ℕ) → Tells (few_entries_in_cut st hs)
few_entries_in_cut-tells st hs = any_sure (stores_of st) (λ s. lt_sure store_pins (entries_of st s + cut_entries st hs s))

late_id-tells : (st : State) (ids : ℕ) → Tells (late_id st ids)
late_id-tells st ids = lt_sure max_stamp (next_id_of st + ids)

late_stamp-tells : (st : State) (s stamps ids : ℕ) → Tells (late_stamp st s stamps ids)
late_stamp-tells st s stamps ids =
    or_sure (lt_sure max_stamp (stamp_of st s + stamps)) (lt_sure max_stamp (next_id_of st + ids))

set_up_fits_sure : (pools : State) (table capacity : List ℕ) (refreshes : List Bool)
    → Sure (set_up_fits pools table capacity refreshes) (SetUpFits pools table capacity refreshes)
unfolding set_up_fits
set_up_fits_sure pools table capacity refreshes =
    map_sure (λ h. search) (λ h. search)
    (le_sure 1 (length capacity)
    and le_sure (length capacity) max_stores
    and eq_sure (length refreshes) (length capacity)
    and all_sure (length capacity) (λ s. le_sure (at capacity s) max_capacity)
    and eq_sure (length table) table_length
    and sure (rising table) (rising-says table)
    and tree_lent_sure pools.tree
    and ranges_lent_sure pools.ranges
    and pins_lent_sure pools.pins
    and le_sure max_marks (length pools.marks)
    and le_sure table_length (length pools.bytes)
    and le_sure max_numbers (length pools.books))

-- ---- each public call

pub set_up_exact : (pools : State) (table capacity : List ℕ) (refreshes : List Bool) → Exact (set_up_refusals pools table capacity refreshes)
set_up_exact pools table capacity refreshes = not_sure (set_up_fits_sure pools table capacity refreshes) then tt

pub resolve_exact : (st : State) (l : PathList) (hs : List ℕ) → Exact (resolve_refusals st l hs)
resolve_exact st l hs = unsound-tells st then short_path-tells l then many_hashes-tells hs then tt

pub insert_exact : (st : State) (l : PathList) (hs : List ℕ) → Exact (insert_refusals st l hs)
insert_exact st l hs =
    unsound-tells st
    then short_path-tells l
    then many_hashes-tells hs
    then few_nodes-tells st hs
    then few_words-tells st hs
    then few_records_in_cut-tells st hs
    then few_entries_in_cut-tells st hs
    then late_id-tells st (cut_ids st hs (stores_of st))
    then tt

pub store_insert_exact : (st : State) (l : OutList) (s : ℕ) (sp : Span) (time : Float) → Exact (store_insert_refusals st l s sp time)
store_insert_exact st l s sp time =
    let need = bring_need (store_of st s) sp in
    unsound-tells st
    then short_outs-tells l
    then no_store-tells st s
    then bad_span-tells st sp
    then bad_time-tells time
    then few_records-tells st s need
    then late_stamp-tells st s need need
    then tt

-- each span's turn, on the state that the earlier ones left
turn_exact : (st : State) (s : ℕ) (sps : List Span) (time : Float) (counted : Bool) → Exact (turn_refusals st s sps time counted)
turn_exact st s [] time counted = tt
turn_exact st s (sp ∷ sps) time counted =
    let w = touched_by st s sp time counted in
    few_records-tells st s w.need
    then late_stamp-tells st s w.stamps w.need
    then turn_exact (touch_span st s sp time counted) s sps time counted

pub store_used_exact : (st : State) (s : ℕ) (sps : List Span) (time : Float) (counted : Bool) → Exact (store_used_refusals st s sps time counted)
store_used_exact st s sps time counted =
    unsound-tells st
    then no_store-tells st s
    then many_spans-tells sps
    then bad_spans-tells st sps
    then bad_time-tells time
    then turn_exact st s sps time counted

pub store_remove_exact : (st : State) (l : List ℕ) (s : ℕ) (sp : Span) → Exact (store_remove_refusals st l s sp)
store_remove_exact st l s sp =
    let need = (remove (store_of st s) (next_id_of st) sp).need in
    unsound-tells st
    then short_writes-tells l
    then no_store-tells st s
    then bad_span-tells st sp
    then few_records-tells st s need
    then late_id-tells st need
    then tt

pub store_expire_exact : (st : State) (l : OutList) (s : ℕ) (now seconds : Float) → Exact (store_expire_refusals st l s now seconds)
store_expire_exact st l s now seconds = unsound-tells st then short_outs-tells l then no_store-tells st s then bad_times-tells now seconds then tt

pub pin_exact : (st : State) (s : ℕ) (sp : Span) → Exact (pin_refusals st s sp)
pin_exact st s sp = unsound-tells st then no_store-tells st s then bad_span-tells st sp then few_entries-tells st s sp then tt

pub unpin_exact : (st : State) (s : ℕ) (sp : Span) → Exact (unpin_refusals st s sp)
unpin_exact st s sp = unsound-tells st then no_store-tells st s then bad_span-tells st sp then no_entry-tells st s sp then tt

pub lookup_exact : (st : State) (l : PathList) (spans : TierList) (ts hs : List ℕ) → Exact (lookup_refusals st l spans ts hs)
lookup_exact st l spans ts hs =
    unsound-tells st
    then short_path-tells l
    then short_tiers-tells spans
    then no_tier-tells st ts
    then many_hashes-tells hs
    then many_tiers-tells ts
    then tt

-- a counter of the whole state, and one of a store
pub count_exact : (st : State) → Exact (count_refusals st)
count_exact st = unsound-tells st then tt

pub store_count_exact : (st : State) (s : ℕ) → Exact (store_count_refusals st s)
store_count_exact st s = unsound-tells st then no_store-tells st s then tt
