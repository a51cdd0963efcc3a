-- The closed inputs on which the contracts are shown to rule out wrong outcomes: three tables, with a line for each public call, from the states of 01's
-- examples. Assumes nothing.
use Rattle.std.specs.Prelude.{ℕ, ◌*◌, true, false, List, [], ◌∷◌, ◌++◌, set, replicate}
use Rattle.std.specs.Float.{nan}
use Rattle.model.specs.declared.Span.{Span}
use Rattle.model.specs.declared.ResolveAnswer.{ResolveAnswer}
use Rattle.model.specs.declared.InsertAnswer.{InsertAnswer}
use Rattle.model.specs.declared.BringAnswer.{BringAnswer}
use Rattle.model.specs.declared.TouchAnswer.{TouchAnswer}
use Rattle.model.specs.declared.RemoveAnswer.{RemoveAnswer}
use Rattle.model.specs.declared.ExpireAnswer.{ExpireAnswer}
use Rattle.model.specs.declared.LookupAnswer.{LookupAnswer}
use Rattle.model.specs.Sizes.{store_numbers, max_records, max_stores, out_places}
use Rattle.model.specs.State.{State, whole, numbers}
use Rattle.model.specs.Refusals.{PathList, OutList}
use Rattle.model.specs.Calls.{Outcome, NoList, NoValue, LookupLists, set_up, resolve_call, insert, store_insert, store_used, store_remove, store_expire, pin_source, unpin_source, lookup, held_call, capacity_call, pinned_call, available_call, version_call, stalls_call}
use Rattle.model.specs.Examples.{pools, paths, outs, tier_spans, multiples, table, list_b, fresh, span, time, one, half, two, call_pin, run2, run5, run7, run13}
use Rattle.model_sums.specs.Sums.{brought_at, no_sums}
use Rattle.model_sums.specs.Tally.{Summed, summed, tally_insert}
use Rattle.theory_wrong.specs.Rejected.{Refusal, Listing}

-- ---- inputs that are to be accepted, beside those of the examples

-- E1's set-up
abbrev pub run0 : Outcome NoList NoValue
run0 = set_up pools table (4 ∷ 0 ∷ []) (true ∷ false ∷ [])

-- capacity 2, held 0-2: bring 0-4, of which two blocks are held; remove 1-4, of which one is
abbrev pub run_more : Outcome OutList BringAnswer
run_more = store_insert half outs 0 (span 0 4) (time 2) 0

abbrev pub run_gone : Outcome (List ℕ) RemoveAnswer
run_gone = store_remove half (replicate out_places 0) 0 (span 1 4)

-- E13's pin, and the unpin of the same span
abbrev pub run_pin : Outcome NoList NoValue
run_pin = call_pin half

abbrev pub call_unpin : State → Outcome NoList NoValue
call_unpin st = unpin_source st 0 (span 0 4)

-- the counters of store 0
abbrev pub call_held : State → Outcome NoList ℕ
call_held st = held_call st 0

abbrev pub call_capacity : State → Outcome NoList ℕ
call_capacity st = capacity_call st 0

abbrev pub call_version : State → Outcome NoList ℕ
call_version st = version_call st 0

abbrev pub call_pinned : State → Outcome NoList ℕ
call_pinned st = pinned_call st 0

abbrev pub call_available : State → Outcome NoList ℕ
call_available st = available_call st 0

-- after E7
abbrev pub run_held : Outcome NoList ℕ
run_held = call_held run7.state

abbrev pub run_capacity : Outcome NoList ℕ
run_capacity = call_capacity run7.state

abbrev pub run_version : Outcome NoList ℕ
run_version = call_version run7.state

-- after E13
abbrev pub run_unpin : Outcome NoList NoValue
run_unpin = call_unpin run13.state

abbrev pub run_pinned : Outcome NoList ℕ
run_pinned = call_pinned run13.state

abbrev pub run_available : Outcome NoList ℕ
run_available = call_available run13.state

abbrev pub run_stalls : Outcome NoList ℕ
run_stalls = stalls_call run13.state

-- ---- inputs that are to be refused, with 01's number: where two conditions hold, "Order: 12 alone for set-up; else 1, 14, 2, 3, 4, 5, 10, .."

-- no store
abbrev pub set_up_refused : Refusal NoList NoValue
set_up_refused = record { call = λ st l. set_up st table [] []; state = pools; lists = tt; number = 12 }

abbrev pub many_hashes : List ℕ
many_hashes = replicate 1025 1

-- no place in the answer list, and over 1,024 hashes: 14 comes before 3
abbrev pub resolve_refused : Refusal PathList ResolveAnswer
resolve_refused =
    record { call = λ st l. resolve_call st l (many_hashes); state = fresh; lists = record { node = []; len = [] }; number = 14 }

-- over 1,024 hashes
abbrev pub insert_refused : Refusal PathList InsertAnswer
insert_refused = record { call = λ st l. insert st l (many_hashes); state = fresh; lists = paths; number = 3 }

-- past the node's end, at a time that is no number: 4 comes before 5
abbrev pub store_insert_refused : Refusal OutList BringAnswer
store_insert_refused = record { call = λ st l. store_insert st l 0 (span 0 6) nan 7; state = run2.state; lists = outs; number = 4 }

-- a held span, then one past the node's end: "4 is tested over all spans first"
abbrev pub two_spans : List Span
two_spans = span 1 3 ∷ span 3 6 ∷ []

abbrev pub store_used_refused : Refusal NoList TouchAnswer
store_used_refused =
    record { call = λ st l. store_used st 0 two_spans (time 20) true; state = run7.state; lists = tt; number = 4 }

-- no place in the answer list, and no such store: 14 comes before 2
abbrev pub store_remove_refused : Refusal (List ℕ) RemoveAnswer
store_remove_refused = record { call = λ st l. store_remove st l 2 (span 0 4); state = fresh; lists = []; number = 14 }

-- a number of seconds that is no number
abbrev pub store_expire_refused : Refusal OutList ExpireAnswer
store_expire_refused = record { call = λ st l. store_expire st l 0 (time 40) nan; state = run7.state; lists = outs; number = 5 }

-- no such store, and an empty span: 2 comes before 4
abbrev pub pin_refused : Refusal NoList NoValue
pin_refused = record { call = λ st l. pin_source st 2 (span 1 1); state = fresh; lists = tt; number = 2 }

-- "unpin of a span that has no entry"
abbrev pub unpin_refused : Refusal NoList NoValue
unpin_refused = record { call = λ st l. unpin_source st 0 (span 0 5); state = run2.state; lists = tt; number = 10 }

-- nine tiers, and one of them no store: 2 comes before 3
abbrev pub nine_tiers : List ℕ
nine_tiers = 0 ∷ 0 ∷ 0 ∷ 0 ∷ 0 ∷ 0 ∷ 0 ∷ 0 ∷ 2 ∷ []

abbrev pub lookup_refused : Refusal LookupLists LookupAnswer
lookup_refused =
    record {
      call = λ st l. lookup st l nine_tiers list_b;
      state = fresh;
      lists = record { path = paths; spans = tier_spans };
      number = 2;
    }

-- a counter of store 2, where there are two
abbrev pub count_refused : (State → ℕ → Outcome NoList ℕ) → Refusal NoList ℕ
count_refused counter = record { call = λ st l. counter st 2; state = fresh; lists = tt; number = 2 }

-- pools that were not set up
abbrev pub stalls_refused : Refusal NoList ℕ
stalls_refused = record { call = λ st l. stalls_call st; state = pools; lists = tt; number = 1 }

-- ---- answers of two entries, in 01's order

abbrev pub path_columns : List (PathList → List ℕ)
path_columns = (λ l. l.node) ∷ (λ l. l.len) ∷ []

abbrev pub out_columns : List (OutList → List ℕ)
out_columns =
    (λ l. l.node) ∷ (λ l. l.start) ∷ (λ l. l.end) ∷ (λ l. l.write) ∷ (λ l. l.bytes) ∷ (λ l. l.dead) ∷ []

abbrev pub write_columns : List (List ℕ → List ℕ)
write_columns = (λ l. l) ∷ []

abbrev pub lookup_path_columns : List (LookupLists → List ℕ)
lookup_path_columns = (λ l. l.path.node) ∷ (λ l. l.path.len) ∷ []

abbrev pub tier_columns : List (LookupLists → List ℕ)
tier_columns = (λ l. l.spans.tier) ∷ (λ l. l.spans.node) ∷ (λ l. l.spans.start) ∷ (λ l. l.spans.end) ∷ []

-- the whole of B, after E5: "(1, 3), (3, 2)"
abbrev pub resolve_listed : Listing PathList ResolveAnswer
resolve_listed =
    record {
      call = λ st l. resolve_call st l list_b;
      state = run5.state;
      lists = paths;
      columns = path_columns;
      count = λ a. a.path.segs;
      entries = (1 ∷ 3 ∷ []) ∷ (3 ∷ 2 ∷ []) ∷ [];
    }

-- E5
abbrev pub insert_listed : Listing PathList InsertAnswer
insert_listed =
    record {
      call = λ st l. insert st l list_b;
      state = run2.state;
      lists = paths;
      columns = path_columns;
      count = λ a. a.path.segs;
      entries = (1 ∷ 3 ∷ []) ∷ (3 ∷ 2 ∷ []) ∷ [];
    }

-- capacity 2, held 1-2 with write 5
abbrev pub holding : State
holding = (store_insert one outs 0 (span 1 2) (time 1) 5).state

-- bring 0-4 with write 6: two blocks go, "by stamp", not by start
abbrev pub store_insert_listed : Listing OutList BringAnswer
store_insert_listed =
    record {
      call = λ st l. store_insert st l 0 (span 0 4) (time 2) 6;
      state = holding;
      lists = outs;
      columns = out_columns;
      count = λ a. a.outs;
      entries = (1 ∷ 1 ∷ 2 ∷ 5 ∷ 100 ∷ 100 ∷ []) ∷ (1 ∷ 0 ∷ 1 ∷ 6 ∷ 100 ∷ 100 ∷ []) ∷ [];
    }

-- capacity 2, held 1-2 with write 5, then 0-1 with write 6
abbrev pub second : State → State
second st = (store_insert st outs 0 (span 0 1) (time 2) 6).state

abbrev pub holding_two : State
holding_two = second holding

-- both are past their seconds, and go "by stamp and id"
abbrev pub store_expire_listed : Listing OutList ExpireAnswer
store_expire_listed =
    record {
      call = λ st l. store_expire st l 0 (time 40) (time 20);
      state = holding_two;
      lists = outs;
      columns = out_columns;
      count = λ a. a.outs;
      entries = (1 ∷ 1 ∷ 2 ∷ 5 ∷ 100 ∷ 100 ∷ []) ∷ (1 ∷ 0 ∷ 1 ∷ 6 ∷ 100 ∷ 100 ∷ []) ∷ [];
    }

-- "Write numbers of overlapped ranges are listed by start", not by stamp
abbrev pub store_remove_listed : Listing (List ℕ) RemoveAnswer
store_remove_listed =
    record {
      call = λ st l. store_remove st l 0 (span 0 2);
      state = holding_two;
      lists = replicate out_places 0;
      columns = write_columns;
      count = λ a. a.writes;
      entries = (6 ∷ []) ∷ (5 ∷ []) ∷ [];
    }

-- lookup's path after E5, with no tier
abbrev pub lookup_path_listed : Listing LookupLists LookupAnswer
lookup_path_listed =
    record {
      call = λ st l. lookup st l [] list_b;
      state = run5.state;
      lists = record { path = paths; spans = tier_spans };
      columns = lookup_path_columns;
      count = λ a. a.path.segs;
      entries = (1 ∷ 3 ∷ []) ∷ (3 ∷ 2 ∷ []) ∷ [];
    }

-- tiers X, Y; X holds 2-4, Y holds 0-2: "along the resolved path from block 0", not by tier
abbrev pub two_tiers : List ℕ
two_tiers = 0 ∷ 1 ∷ []

abbrev pub four_hashes : List ℕ
four_hashes = 1 ∷ 2 ∷ 3 ∷ 4 ∷ []

abbrev pub lookup_listed : Listing LookupLists LookupAnswer
lookup_listed =
    record {
      call = λ st l. lookup st l two_tiers four_hashes;
      state = (store_insert (store_insert two outs 0 (span 2 4) (time 1) 0).state outs 1 (span 0 2) (time 1) 0).state;
      lists = record { path = paths; spans = tier_spans };
      columns = tier_columns;
      count = λ a. a.spans;
      entries = (1 ∷ 1 ∷ 0 ∷ 2 ∷ []) ∷ (0 ∷ 1 ∷ 2 ∷ 4 ∷ []) ∷ [];
    }

-- ---- request P1: a bring-in that keeps the sums

-- capacity 4, held 0-2: bring 0-5, of which two blocks are held
abbrev pub run_tally : Outcome (Summed OutList) BringAnswer
run_tally = tally_insert (store_insert run2.state outs 0 (span 0 2) (time 1) 0).state (summed outs no_sums) 0 (span 0 5) (time 2) 0

-- one store and one node of 129 blocks, of which every second is held, each alone: 64 records, with 65 gaps
abbrev pub combed : State
combed =
    record {
      tree = record {
        parent = pools.tree.parent;
        depth = pools.tree.depth;
        len = set pools.tree.len 1 129;
        run = pools.tree.run;
        words = pools.tree.words;
        nodes = 2;
        used = 129;
      };
      ranges = record {
        node = replicate max_records 1;
        start = multiples 2 max_records 1;
        end = multiples 2 max_records 2;
        id = multiples 1 max_records 1;
        stamp = multiples 1 max_records 1;
        touched = pools.ranges.touched;
        write = pools.ranges.write;
      };
      pins = pools.pins;
      marks = pools.marks;
      bytes = table;
      books =
          whole 2 129 1 65 0
          (numbers
          (record { capacity = 129; policy = 0; records = 64; held = 64; stamp = 64; version = 0; entries = 0; pinned = 0 })
          ++ replicate (store_numbers * max_stores) 0);
    }

-- a bring-in of a span, where the blocks brought in are past their limit
abbrev pub tally_late : Span → ℕ → Refusal (Summed OutList) BringAnswer
tally_late sp n =
    record {
      call = λ st l. tally_insert st l 0 sp (time 1) 0;
      state = combed;
      lists = summed outs (set no_sums (brought_at 0) 9223372036854775808);
      number = n;
    }

-- one gap: 21
abbrev pub tally_insert_late : Refusal (Summed OutList) BringAnswer
tally_insert_late = tally_late (span 0 2) 21

-- 65 gaps, so that "used records plus the new ones needed exceed 128": 8 comes before 21
abbrev pub tally_insert_refused : Refusal (Summed OutList) BringAnswer
tally_insert_refused = tally_late (span 0 129) 8
