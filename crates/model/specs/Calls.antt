-- Each public call as one function from the state, the lent answer lists and the arguments to its outcome: a refusal's number with state and lists as
-- they were, or the new state, the lists with the answer in front, and the answer. Names as in the Rust. Assumes nothing.
use Rattle.std.specs.Prelude.{ℕ, zero, suc, ◌+◌, ◌-◌, Bool, List, [], ◌∷◌, ◌++◌, map, length, drop, Float}
use Rattle.model.specs.declared.Span.{Span}
use Rattle.model.specs.declared.Path.{Path}
use Rattle.model.specs.declared.ResolveAnswer.{ResolveAnswer}
use Rattle.model.specs.declared.InsertAnswer.{InsertAnswer}
use Rattle.model.specs.declared.BringAnswer.{BringAnswer}
use Rattle.model.specs.declared.TouchAnswer.{TouchAnswer}
use Rattle.model.specs.declared.RemoveAnswer.{RemoveAnswer}
use Rattle.model.specs.declared.ExpireAnswer.{ExpireAnswer}
use Rattle.model.specs.declared.LookupAnswer.{LookupAnswer}
use Rattle.model.specs.Sizes.{max_tiers}
use Rattle.model.specs.State.{State, next_id_of, stalls_of, capacity_of, held_of, version_of, pinned_of}
use Rattle.model.specs.Tree.{Seg, resolve, blocks}
use Rattle.model.specs.Store.{store_of, with_ranges, with_pins, with_next}
use Rattle.model.specs.Trim.{Out, stalls_after}
use Rattle.model.specs.Bring.{Brought, bring, bring_need, bring_blocks}
use Rattle.model.specs.Remove.{remove}
use Rattle.model.specs.Expire.{expire}
use Rattle.model.specs.Pins.{pin, pin_need, unpin}
use Rattle.model.specs.Lookup.{TierSpan, lookup_path, span_blocks, span_bytes, tier_sums, each_tier}
use Rattle.model.specs.Insert.{insert_path}
use Rattle.model.specs.SetUp.{set_up_state}
use Rattle.model.specs.Refusals

-- ---- answers

pub data Answer (A : Type 0) : Type 0 where
  refused : ℕ → Answer A
  done : A → Answer A

pub record Outcome (L A : Type 0) : Type 0 where
  pub state : State
  pub lists : L
  pub answer : Answer A

-- "Every refusal returns its number only; state and answer lists stay the same": n is the refusal's number, 0 for none
abbrev pub unless : {L A : Type 0} → ℕ → State → L → Outcome L A → Outcome L A
unless zero st l o = o
unless (suc n) st l o = record { state = st; lists = l; answer = refused (suc n) }

-- "Places of an answer list past the answer's end are not written"
abbrev pub front : {A : Type 0} → List A → List A → List A
front xs l = xs ++ drop (length xs) l

abbrev pub lay_path : List Seg → Refusals.PathList → Refusals.PathList
lay_path ss l = record { node = front (map (λ s. s.node) ss) l.node; len = front (map (λ s. s.len) ss) l.len }

abbrev pub lay_outs : List Out → Refusals.OutList → Refusals.OutList
lay_outs os l =
    record {
      node = front (map (λ o. o.node) os) l.node;
      start = front (map (λ o. o.start) os) l.start;
      end = front (map (λ o. o.end) os) l.end;
      write = front (map (λ o. o.write) os) l.write;
      bytes = front (map (λ o. o.bytes) os) l.bytes;
      dead = front (map (λ o. o.dead) os) l.dead;
    }

abbrev pub lay_tiers : List TierSpan → Refusals.TierList → Refusals.TierList
lay_tiers ss l =
    record {
      tier = front (map (λ s. s.tier) ss) l.tier;
      node = front (map (λ s. s.node) ss) l.node;
      start = front (map (λ s. s.start) ss) l.start;
      end = front (map (λ s. s.end) ss) l.end;
    }

-- a call without an answer list, and one without a value
abbrev pub NoList : Type 0
NoList = Unit {0}

abbrev pub NoValue : Type 0
NoValue = Unit {0}

-- ---- set-up

unfoldable pub set_up : State → List ℕ → List ℕ → List Bool → Outcome NoList NoValue
unfolding set_up_state
set_up pools table capacity refreshes =
    unless (Refusals.first_of (Refusals.set_up_refusals pools table capacity refreshes)) pools tt
    (record { state = set_up_state pools table capacity refreshes; lists = tt; answer = done tt })

-- ---- the tree

abbrev pub path_of : List Seg → Path
path_of ss = record { segs = length ss; blocks = blocks ss }

unfoldable pub resolve_call : State → Refusals.PathList → List ℕ → Outcome Refusals.PathList ResolveAnswer
unfolding resolve blocks
resolve_call st l hs =
    let path = resolve st.tree hs in
    unless (Refusals.first_of (Refusals.resolve_refusals st l hs)) st l (record { state = st; lists = lay_path path l; answer = done (record { path = path_of path }) })

unfoldable pub insert : State → Refusals.PathList → List ℕ → Outcome Refusals.PathList InsertAnswer
unfolding resolve blocks insert_path
insert st l hs =
    let w = insert_path hs (resolve st.tree hs) st in
    unless (Refusals.first_of (Refusals.insert_refusals st l hs)) st l
    (record { state = w.state; lists = lay_path w.path l; answer = done (record { path = path_of w.path; split = w.split }) })

-- ---- the stores

unfoldable pub brought : State → ℕ → Span → Float → ℕ → Brought
unfolding bring store_of
brought st s sp time write = bring st.tree st.bytes (store_of st s) (next_id_of st) sp time write

-- the state with the span brought in; at capacity 0 "nothing else changes"
unfoldable pub bring_in : State → ℕ → Span → Float → ℕ → State
unfolding brought bring_need with_ranges with_next
bring_in st s sp time write =
    let need = bring_need (store_of st s) sp in
    let w = brought st s sp time write in
    elim (capacity_of st s) [
      | zero ↦ st
      | suc c ↦ with_next (next_id_of st + need) (stalls_after w.stalled (stalls_of st)) (with_ranges s need w.store st)
    ]

unfoldable pub store_insert : State → Refusals.OutList → ℕ → Span → Float → ℕ → Outcome Refusals.OutList BringAnswer
unfolding brought bring_in bring_blocks
store_insert st l s sp time write =
    let outs = (brought st s sp time write).outs in
    unless (Refusals.first_of (Refusals.store_insert_refusals st l s sp time)) st l
    (record {
      state = bring_in st s sp time write;
      lists = lay_outs outs l;
      answer = done (record { outs = length outs; blocks = bring_blocks (store_of st s) sp });
    })

-- "a list of up to 64 spans, in turn"
unfoldable pub touch_spans : State → ℕ → List Span → Float → Bool → State
touch_spans st s [] time counted = st
touch_spans st s (sp ∷ sps) time counted = touch_spans (Refusals.touch_span st s sp time counted) s sps time counted

unfoldable pub bytes_touched : State → ℕ → List Span → Float → Bool → ℕ
bytes_touched st s [] time counted = 0
bytes_touched st s (sp ∷ sps) time counted =
    (Refusals.touched_by st s sp time counted).bytes + bytes_touched (Refusals.touch_span st s sp time counted) s sps time counted

unfoldable pub store_used : State → ℕ → List Span → Float → Bool → Outcome NoList TouchAnswer
unfolding touch_spans bytes_touched
store_used st s sps time counted =
    unless (Refusals.first_of (Refusals.store_used_refusals st s sps time counted)) st tt
    (record { state = touch_spans st s sps time counted; lists = tt; answer = done (record { bytes = bytes_touched st s sps time counted }) })

unfoldable pub store_remove : State → List ℕ → ℕ → Span → Outcome (List ℕ) RemoveAnswer
unfolding remove store_of with_ranges with_next
store_remove st l s sp =
    let w = remove (store_of st s) (next_id_of st) sp in
    unless (Refusals.first_of (Refusals.store_remove_refusals st l s sp)) st l
    (record {
      state = with_next (next_id_of st + w.need) (stalls_of st) (with_ranges s w.need w.store st);
      lists = front w.writes l;
      answer = done (record { writes = length w.writes; blocks = w.blocks });
    })

unfoldable pub store_expire : State → Refusals.OutList → ℕ → Float → Float → Outcome Refusals.OutList ExpireAnswer
unfolding expire store_of with_ranges
store_expire st l s now seconds =
    let w = expire st.tree st.bytes (store_of st s) now seconds in
    unless (Refusals.first_of (Refusals.store_expire_refusals st l s now seconds)) st l
    (record { state = with_ranges s 0 w.store st; lists = lay_outs w.outs l; answer = done (record { outs = length w.outs }) })

unfoldable pub pin_source : State → ℕ → Span → Outcome NoList NoValue
unfolding pin pin_need store_of with_pins
pin_source st s sp =
    unless (Refusals.first_of (Refusals.pin_refusals st s sp)) st tt
    (record { state = with_pins s (pin_need (store_of st s) sp) (pin (store_of st s) sp) st; lists = tt; answer = done tt })

unfoldable pub unpin_source : State → ℕ → Span → Outcome NoList NoValue
unfolding unpin store_of with_pins
unpin_source st s sp =
    unless (Refusals.first_of (Refusals.unpin_refusals st s sp)) st tt
    (record { state = with_pins s 0 (unpin (store_of st s) sp) st; lists = tt; answer = done tt })

-- ---- lookup

pub record LookupLists : Type 0 where
  pub path : Refusals.PathList
  pub spans : Refusals.TierList

unfoldable pub lookup : State → LookupLists → List ℕ → List ℕ → Outcome LookupLists LookupAnswer
unfolding resolve blocks lookup_path tier_sums
lookup st l ts hs =
    let path = resolve st.tree hs in
    let spans = lookup_path st ts path in
    unless (Refusals.first_of (Refusals.lookup_refusals st l.path l.spans ts hs)) st l
    (record {
      state = st;
      lists = record { path = lay_path path l.path; spans = lay_tiers spans l.spans };
      answer =
          done (record {
            path = path_of path;
            spans = length spans;
            blocks = each_tier (tier_sums span_blocks 0 max_tiers spans);
            bytes = each_tier (tier_sums (span_bytes st) 0 max_tiers spans);
          });
    })

-- ---- the counters

-- a counter of store s, and one of the whole state
abbrev pub store_counter : (State → ℕ → ℕ) → State → ℕ → Outcome NoList ℕ
store_counter f st s =
    unless (Refusals.first_of (Refusals.store_count_refusals st s)) st tt (record { state = st; lists = tt; answer = done (f st s) })

unfoldable pub held_call : State → ℕ → Outcome NoList ℕ
held_call st s = store_counter held_of st s

unfoldable pub capacity_call : State → ℕ → Outcome NoList ℕ
capacity_call st s = store_counter capacity_of st s

unfoldable pub pinned_call : State → ℕ → Outcome NoList ℕ
pinned_call st s = store_counter pinned_of st s

-- "the counter of available blocks is capacity less pinned, or 0"
unfoldable pub available_call : State → ℕ → Outcome NoList ℕ
available_call st s = store_counter (λ x k. capacity_of x k - pinned_of x k) st s

unfoldable pub version_call : State → ℕ → Outcome NoList ℕ
version_call st s = store_counter version_of st s

unfoldable pub stalls_call : State → Outcome NoList ℕ
stalls_call st =
    unless (Refusals.first_of (Refusals.count_refusals st)) st tt (record { state = st; lists = tt; answer = done (stalls_of st) })
