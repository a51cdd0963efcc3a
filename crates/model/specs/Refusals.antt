-- Document 01, "Refusal numbers": for each public call the list of its conditions, in 01's order. A condition has its number, the fact, and a test that
-- computes; `theory_refuse` proves that each test says exactly its fact. Assumes nothing.
use Rattle.std.specs.Prelude.{ℕ, zero, suc, ◌+◌, ◌-◌, ◌≤◌, ◌<◌, ◌≡◌, ◌⊎◌, Bool, true, false, not, ◌&&◌, ◌||◌, List, [], ◌∷◌, length, get_or, leb, ltb, Float}
use Rattle.model.specs.declared.Span.{Span}
use Rattle.model.specs.Words.{Says, Each, Some, any}
use Rattle.model.specs.Sizes.{max_nodes, max_words, max_hashes, store_records, store_pins, max_pinned, max_stamp, max_spans, max_tiers, path_places, out_places, tier_places}
use Rattle.model.specs.State.{Tree, State, Pin, at, entry_of, stores_of, next_id_of, stalls_of, records_of, stamp_of, entries_of, pinned_of}
use Rattle.model.specs.Sound.{Sound, Finite}
use Rattle.model.specs.SoundTest.{sound, finite}
use Rattle.model.specs.Tree.{resolve, blocks}
use Rattle.model.specs.Store.{store_of, with_ranges, with_next, plus}
use Rattle.model.specs.Bring.{bring_need}
use Rattle.model.specs.Touch.{Touched, touch}
use Rattle.model.specs.Remove.{remove}
use Rattle.model.specs.Pins.{pin_of, has_pin, pin_need}
use Rattle.model.specs.Insert.{adds, ends_inside, match_end, ranges_across, pins_across}
use Rattle.model.specs.SetUp.{SetUpFits, set_up_fits}

pub record Condition : Type 1 where
  pub number : ℕ
  pub holds : Type 0
  pub tested : Bool

abbrev pub condition : ℕ → (P : Type 0) → Bool → Condition
condition n P b = record { number = n; holds = P; tested = b }

-- each test says exactly its fact
abbrev pub Exact : List Condition → Type 0
Exact [] = Unit {0}
Exact (c ∷ cs) = Says c.tested c.holds × Exact cs

-- the first that holds gives the number; 0 where none holds
abbrev pub first_of : List Condition → ℕ
first_of [] = 0
first_of (c ∷ cs) = elim c.tested [ true ↦ c.number | false ↦ first_of cs ]

-- the same as a fact: n is the number of the first condition that holds, or 0 and none does
abbrev pub First : List Condition → ℕ → Type 0
First [] n = n ≡ 0
First (c ∷ cs) n = (c.holds × (n ≡ c.number)) ⊎ ((c.holds → ⊥) × First cs n)

-- ---- answer lists, as they are lent

pub record PathList : Type 0 where
  pub node : List ℕ
  pub len : List ℕ

pub record OutList : Type 0 where
  pub node : List ℕ
  pub start : List ℕ
  pub end : List ℕ
  pub write : List ℕ
  pub bytes : List ℕ
  pub dead : List ℕ

pub record TierList : Type 0 where
  pub tier : List ℕ
  pub node : List ℕ
  pub start : List ℕ
  pub end : List ℕ

pub record PathFits (l : PathList) : Type 0 where
  pub node : path_places ≤ length l.node
  pub len : path_places ≤ length l.len

pub record OutFits (l : OutList) : Type 0 where
  pub node : out_places ≤ length l.node
  pub start : out_places ≤ length l.start
  pub end : out_places ≤ length l.end
  pub write : out_places ≤ length l.write
  pub bytes : out_places ≤ length l.bytes
  pub dead : out_places ≤ length l.dead

pub record TierFits (l : TierList) : Type 0 where
  pub tier : tier_places ≤ length l.tier
  pub node : tier_places ≤ length l.node
  pub start : tier_places ≤ length l.start
  pub end : tier_places ≤ length l.end

unfoldable pub path_fits : PathList → Bool
path_fits l = leb path_places (length l.node) && leb path_places (length l.len)

unfoldable pub out_fits : OutList → Bool
out_fits l =
    leb out_places (length l.node)
    && (leb out_places (length l.start)
    && (leb out_places (length l.end)
    && (leb out_places (length l.write) && (leb out_places (length l.bytes) && leb out_places (length l.dead)))))

unfoldable pub tier_fits : TierList → Bool
tier_fits l =
    leb tier_places (length l.tier)
    && (leb tier_places (length l.node) && (leb tier_places (length l.start) && leb tier_places (length l.end)))

-- ---- 1: "the state isn't sound"

abbrev pub unsound : State → Condition
unsound st = condition 1 (Sound st → ⊥) (not (sound st))

-- ---- 14: "an answer list is shorter than its size above"

abbrev pub short_path : PathList → Condition
short_path l = condition 14 (PathFits l → ⊥) (not (path_fits l))

abbrev pub short_outs : OutList → Condition
short_outs l = condition 14 (OutFits l → ⊥) (not (out_fits l))

abbrev pub short_writes : List ℕ → Condition
short_writes l = condition 14 (length l < out_places) (ltb (length l) out_places)

abbrev pub short_tiers : TierList → Condition
short_tiers l = condition 14 (TierFits l → ⊥) (not (tier_fits l))

-- ---- 2: "no such store (also in a tier list)"

abbrev pub no_store : State → ℕ → Condition
no_store st s = condition 2 (stores_of st ≤ s) (leb (stores_of st) s)

abbrev pub no_tier : State → List ℕ → Condition
no_tier st ts = condition 2 (Some (length ts) (λ i. stores_of st ≤ at ts i)) (any (length ts) (λ i. leb (stores_of st) (at ts i)))

-- ---- 3: "over 1,024 hashes, 64 spans or 8 tiers"

abbrev pub many_hashes : List ℕ → Condition
many_hashes hs = condition 3 (max_hashes < length hs) (ltb max_hashes (length hs))

abbrev pub many_spans : List Span → Condition
many_spans sps = condition 3 (max_spans < length sps) (ltb max_spans (length sps))

abbrev pub many_tiers : List ℕ → Condition
many_tiers ts = condition 3 (max_tiers < length ts) (ltb max_tiers (length ts))

-- ---- 4: "no such node, or not start < end <= node length"

pub record SpanIn (t : Tree) (sp : Span) : Type 0 where
  pub node : sp.node < t.nodes
  pub filled : sp.start < sp.end
  pub ends : sp.end ≤ at t.len sp.node

abbrev pub span_in : Tree → Span → Bool
span_in t sp = ltb sp.node t.nodes && (ltb sp.start sp.end && leb sp.end (at t.len sp.node))

abbrev pub bad_span : State → Span → Condition
bad_span st sp = condition 4 (SpanIn st.tree sp → ⊥) (not (span_in st.tree sp))

abbrev pub no_span : Span
no_span = record { node = 0; start = 0; end = 0 }

abbrev pub bad_spans : State → List Span → Condition
bad_spans st sps =
    condition 4 (Some (length sps) (λ i. SpanIn st.tree (get_or sps i no_span) → ⊥))
    (any (length sps) (λ i. not (span_in st.tree (get_or sps i no_span))))

-- ---- 5: "a time or a number of seconds is infinite or no number"

abbrev pub bad_time : Float → Condition
bad_time t = condition 5 (Finite t → ⊥) (not (finite t))

abbrev pub bad_times : Float → Float → Condition
bad_times now seconds = condition 5 ((Finite now → ⊥) ⊎ (Finite seconds → ⊥)) (not (finite now) || not (finite seconds))

-- ---- 10: "unpin of a span that has no entry"

-- entry p is of exactly the span sp
pub record EntryOf (sp : Span) (p : Pin) : Type 0 where
  pub node : p.node ≡ sp.node
  pub start : p.start ≡ sp.start
  pub end : p.end ≡ sp.end

abbrev pub no_entry : State → ℕ → Span → Condition
no_entry st s sp =
    condition 10 (Each 0 (entries_of st s) (λ k. EntryOf sp (entry_of st s k) → ⊥)) (not (has_pin (pin_of sp 1) (store_of st s).pins))

-- ---- 6: "too few nodes for leaf and cut": one without a cut, two with

unfoldable pub node_need : State → List ℕ → ℕ
unfolding resolve blocks
node_need st hs =
    let path = resolve st.tree hs in
    elim (adds hs path) [ true ↦ plus (ends_inside st.tree path) 1 | false ↦ 0 ]

abbrev pub few_nodes : State → List ℕ → Condition
few_nodes st hs = condition 6 (max_nodes < st.tree.nodes + node_need st hs) (ltb max_nodes (st.tree.nodes + node_need st hs))

-- ---- 7: "used hash words plus the new blocks exceed 4,096"

unfoldable pub new_blocks : State → List ℕ → ℕ
unfolding resolve blocks
new_blocks st hs = length hs - blocks (resolve st.tree hs)

abbrev pub few_words : State → List ℕ → Condition
few_words st hs = condition 7 (max_words < st.tree.used + new_blocks st hs) (ltb max_words (st.tree.used + new_blocks st hs))

-- ---- 8: "a store's used records plus the new ones needed exceed 128"

abbrev pub few_records : State → ℕ → ℕ → Condition
few_records st s need = condition 8 (store_records < records_of st s + need) (ltb store_records (records_of st s + need))

-- does an insert of the list cut a node?
abbrev pub cuts : State → List ℕ → Bool
cuts st hs = let path = resolve st.tree hs in adds hs path && ends_inside st.tree path

abbrev pub if_cut : Bool → ℕ → ℕ
if_cut true n = n
if_cut false n = 0

-- what the cut of an insert needs of store s: records, and pin entries ("Need for 8 and 9 is counted before adding up")
unfoldable pub cut_records : State → List ℕ → ℕ → ℕ
unfolding resolve blocks store_of ranges_across
cut_records st hs s =
    let e = match_end (resolve st.tree hs) in
    if_cut (cuts st hs) (ranges_across e.node e.len (store_of st s).ranges)

unfoldable pub cut_entries : State → List ℕ → ℕ → ℕ
unfolding resolve blocks store_of pins_across
cut_entries st hs s =
    let e = match_end (resolve st.tree hs) in
    if_cut (cuts st hs) (pins_across e.node e.len (store_of st s).pins)

abbrev pub few_records_in_cut : State → List ℕ → Condition
few_records_in_cut st hs =
    condition 8 (Some (stores_of st) (λ s. store_records < records_of st s + cut_records st hs s))
    (any (stores_of st) (λ s. ltb store_records (records_of st s + cut_records st hs s)))

-- ---- 9: "used pin entries plus the new ones needed exceed 32, or pinned would exceed 1,000,000"

abbrev pub few_entries : State → ℕ → Span → Condition
few_entries st s sp =
    let need = pin_need (store_of st s) sp in
    let more = sp.end - sp.start in
    condition 9 ((store_pins < entries_of st s + need) ⊎ (max_pinned < pinned_of st s + more))
    (ltb store_pins (entries_of st s + need) || ltb max_pinned (pinned_of st s + more))

-- a cut moves pins and pins no block more, so only the entries can be too many
abbrev pub few_entries_in_cut : State → List ℕ → Condition
few_entries_in_cut st hs =
    condition 9 (Some (stores_of st) (λ s. store_pins < entries_of st s + cut_entries st hs s))
    (any (stores_of st) (λ s. ltb store_pins (entries_of st s + cut_entries st hs s)))

-- ---- 11: "a stamp or the next id would pass 2^48 - 1"

abbrev pub late_id : State → ℕ → Condition
late_id st ids = condition 11 (max_stamp < next_id_of st + ids) (ltb max_stamp (next_id_of st + ids))

abbrev pub late_stamp : State → ℕ → ℕ → ℕ → Condition
late_stamp st s stamps ids =
    condition 11 ((max_stamp < stamp_of st s + stamps) ⊎ (max_stamp < next_id_of st + ids))
    (ltb max_stamp (stamp_of st s + stamps) || ltb max_stamp (next_id_of st + ids))

-- the new ids of a cut, over the stores below n
unfoldable pub cut_ids : State → List ℕ → ℕ → ℕ
unfolding cut_records
cut_ids st hs zero = 0
cut_ids st hs (suc n) = cut_ids st hs n + cut_records st hs n

-- ---- each public call, in the order 1, 14, 2, 3, 4, 5, 10, 6, 7, 8, 9, 11; 12 alone for set-up

abbrev pub set_up_refusals : State → List ℕ → List ℕ → List Bool → List Condition
set_up_refusals pools table capacity refreshes =
    condition 12 (SetUpFits pools table capacity refreshes → ⊥) (not (set_up_fits pools table capacity refreshes)) ∷ []

abbrev pub resolve_refusals : State → PathList → List ℕ → List Condition
resolve_refusals st l hs = unsound st ∷ short_path l ∷ many_hashes hs ∷ []

abbrev pub insert_refusals : State → PathList → List ℕ → List Condition
insert_refusals st l hs =
    unsound st
    ∷ short_path l
    ∷ many_hashes hs
    ∷ few_nodes st hs
    ∷ few_words st hs
    ∷ few_records_in_cut st hs
    ∷ few_entries_in_cut st hs
    ∷ late_id st (cut_ids st hs (stores_of st))
    ∷ []

abbrev pub store_insert_refusals : State → OutList → ℕ → Span → Float → List Condition
store_insert_refusals st l s sp time =
    unsound st
    ∷ short_outs l
    ∷ no_store st s
    ∷ bad_span st sp
    ∷ bad_time time
    ∷ few_records st s (bring_need (store_of st s) sp)
    ∷ late_stamp st s (bring_need (store_of st s) sp) (bring_need (store_of st s) sp)
    ∷ []

-- what one span of a touch does to store s
abbrev pub touched_by : State → ℕ → Span → Float → Bool → Touched
touched_by st s sp time counted = touch st.tree st.bytes (store_of st s) (next_id_of st) sp time counted

-- the state after one span of a touch
unfoldable pub touch_span : State → ℕ → Span → Float → Bool → State
unfolding touch store_of with_ranges with_next
touch_span st s sp time counted =
    let w = touched_by st s sp time counted in
    with_next (next_id_of st + w.need) (stalls_of st) (with_ranges s w.need w.store st)

-- "then 8 and 11 at each span's turn, on the state the earlier spans left"
abbrev pub turn_refusals : State → ℕ → List Span → Float → Bool → List Condition
turn_refusals st s [] time counted = []
turn_refusals st s (sp ∷ sps) time counted =
    few_records st s (touched_by st s sp time counted).need
    ∷ late_stamp st s (touched_by st s sp time counted).stamps (touched_by st s sp time counted).need
    ∷ turn_refusals (touch_span st s sp time counted) s sps time counted

-- "4 is tested over all spans first"
abbrev pub store_used_refusals : State → ℕ → List Span → Float → Bool → List Condition
store_used_refusals st s sps time counted =
    unsound st ∷ no_store st s ∷ many_spans sps ∷ bad_spans st sps ∷ bad_time time ∷ turn_refusals st s sps time counted

abbrev pub store_remove_refusals : State → List ℕ → ℕ → Span → List Condition
store_remove_refusals st l s sp =
    unsound st
    ∷ short_writes l
    ∷ no_store st s
    ∷ bad_span st sp
    ∷ few_records st s (remove (store_of st s) (next_id_of st) sp).need
    ∷ late_id st (remove (store_of st s) (next_id_of st) sp).need
    ∷ []

abbrev pub store_expire_refusals : State → OutList → ℕ → Float → Float → List Condition
store_expire_refusals st l s now seconds = unsound st ∷ short_outs l ∷ no_store st s ∷ bad_times now seconds ∷ []

abbrev pub pin_refusals : State → ℕ → Span → List Condition
pin_refusals st s sp = unsound st ∷ no_store st s ∷ bad_span st sp ∷ few_entries st s sp ∷ []

abbrev pub unpin_refusals : State → ℕ → Span → List Condition
unpin_refusals st s sp = unsound st ∷ no_store st s ∷ bad_span st sp ∷ no_entry st s sp ∷ []

abbrev pub lookup_refusals : State → PathList → TierList → List ℕ → List ℕ → List Condition
lookup_refusals st l spans ts hs =
    unsound st ∷ short_path l ∷ short_tiers spans ∷ no_tier st ts ∷ many_hashes hs ∷ many_tiers ts ∷ []

-- a counter of the whole state, and one of a store
abbrev pub count_refusals : State → List Condition
count_refusals st = unsound st ∷ []

abbrev pub store_count_refusals : State → ℕ → List Condition
store_count_refusals st s = unsound st ∷ no_store st s ∷ []
