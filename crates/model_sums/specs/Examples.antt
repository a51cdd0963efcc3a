-- Request P1's example, run on the calls and read as the report prints it; then where a span is held in part, and at the limit.
-- `proofs/Table.antt` has the one statement. Assumes nothing.
use Rattle.std.specs.Prelude.{ℕ, true, List, [], ◌∷◌, set, drop, replicate}
use Rattle.model.specs.declared.Span.{Span}
use Rattle.model.specs.declared.BringAnswer.{BringAnswer}
use Rattle.model.specs.declared.RemoveAnswer.{RemoveAnswer}
use Rattle.model.specs.declared.ExpireAnswer.{ExpireAnswer}
use Rattle.model.specs.declared.LookupAnswer.{LookupAnswer}
use Rattle.model.specs.Sizes.{out_places}
use Rattle.model.specs.State.{State, at, held_of}
use Rattle.model.specs.Refusals.{OutList}
use Rattle.model.specs.Calls.{Answer, refused, done, Outcome, LookupLists, store_used}
use Rattle.model.specs.Examples.{Row, outs, paths, tier_spans, list_a, span, time, run2}
use Rattle.model_sums.specs.Sums.{brought_at, room_at, age_at, back_at, removed_at, bytes_at, dead_at, lookups_at, blocks_at, read_at, no_sums}
use Rattle.model_sums.specs.Tally.{Summed, summed, tally_insert, tally_expire, tally_remove, tally_lookup}

-- ---- E6 to E11, a lookup before E9, and last a span that the node does not have

-- a bring-in on the state and the sums that another call left
abbrev bring : State → List ℕ → ℕ → Span → ℕ → ℕ → Outcome (Summed OutList) BringAnswer
bring st v s sp t write = tally_insert st (summed outs v) s sp (time t) write

abbrev pub sum6 : Outcome (Summed OutList) BringAnswer
sum6 = bring run2.state no_sums 1 (span 0 5) 10 7

abbrev pub sum7 : Outcome (Summed OutList) BringAnswer
sum7 = bring sum6.state sum6.lists.sums 0 (span 0 5) 10 7

abbrev pub touched : State
touched = (store_used sum7.state 0 (span 1 3 ∷ []) (time 20) true).state

abbrev pub looked : Outcome (Summed LookupLists) LookupAnswer
looked = tally_lookup touched (summed (record { path = paths; spans = tier_spans }) sum7.lists.sums) (0 ∷ []) list_a

abbrev pub sum9 : Outcome (Summed OutList) BringAnswer
sum9 = bring looked.state looked.lists.sums 0 (span 4 5) 30 0

abbrev pub sum10 : Outcome (Summed OutList) ExpireAnswer
sum10 = tally_expire sum9.state (summed outs sum9.lists.sums) 0 (time 40) (time 20)

abbrev pub sum11 : Outcome (Summed (List ℕ)) RemoveAnswer
sum11 = tally_remove sum10.state (summed (replicate out_places 0) sum10.lists.sums) 0 (span 1 2)

abbrev pub last : Outcome (Summed OutList) BringAnswer
last = bring sum11.state sum11.lists.sums 0 (span 4 6) 30 0

-- ---- as the report prints it

-- 0 for an answer that is no refusal
abbrev pub number_of : {A : Type 0} → Answer A → ℕ
number_of (refused n) = n
number_of (done a) = 0

-- in, room, age, back, removed, held, bytes, dead
abbrev pub store_line : State → List ℕ → ℕ → List ℕ
store_line st v s =
    at v (brought_at s)
    ∷ at v (room_at s)
    ∷ at v (age_at s)
    ∷ at v (back_at s)
    ∷ at v (removed_at s)
    ∷ held_of st s
    ∷ at v (bytes_at s)
    ∷ at v (dead_at s)
    ∷ []

abbrev pub lookup_line : List ℕ → List ℕ
lookup_line v = at v lookups_at ∷ at v blocks_at ∷ at v read_at ∷ []

-- the whole report of two stores, and a call's refusal
abbrev pub report : {L A : Type 0} → Outcome (Summed L) A → List (List ℕ)
report o =
    (number_of o.answer ∷ [])
    ∷ store_line o.state o.lists.sums 0
    ∷ store_line o.state o.lists.sums 1
    ∷ lookup_line o.lists.sums
    ∷ []

-- a refusal's number, and what stands at place p of the sums then
abbrev pub sum_says : {L A : Type 0} → ℕ → Outcome (Summed L) A → List (List ℕ)
sum_says p o = (number_of o.answer ∷ at o.lists.sums p ∷ []) ∷ []

-- ---- at the limit

-- E6, which adds 500 bytes, where so many have been given out before
abbrev pub late : ℕ → Span → Outcome (Summed OutList) BringAnswer
late n sp = bring run2.state (set no_sums (bytes_at 1) n) 1 sp 10 7

-- an expiry that gives out nothing, where so many blocks have gone by age before
abbrev pub none : ℕ → Outcome (Summed OutList) ExpireAnswer
none n = tally_expire run2.state (summed outs (set no_sums (age_at 1) n)) 1 (time 40) (time 20)

-- ---- the table: the report; four of five blocks held; 2^63 - 1 is reached, and 2^63 is not; a sum handed in past the limit; another refusal comes first;
-- 58 places for the sums

abbrev pub rows : List Row
rows =
    record {
      computed = report last;
      document = (4 ∷ [])
          ∷ (6 ∷ 2 ∷ 1 ∷ 0 ∷ 1 ∷ 2 ∷ 300 ∷ 200 ∷ [])
          ∷ (0 ∷ 0 ∷ 0 ∷ 5 ∷ 0 ∷ 0 ∷ 500 ∷ 0 ∷ [])
          ∷ (1 ∷ 4 ∷ 400 ∷ [])
          ∷ [];
    }
    ∷ record {
      computed = report (bring sum7.state sum7.lists.sums 0 (span 0 5) 15 0);
      document = (0 ∷ [])
          ∷ (6 ∷ 2 ∷ 0 ∷ 0 ∷ 0 ∷ 4 ∷ 200 ∷ 200 ∷ [])
          ∷ (0 ∷ 0 ∷ 0 ∷ 5 ∷ 0 ∷ 0 ∷ 500 ∷ 0 ∷ [])
          ∷ (0 ∷ 0 ∷ 0 ∷ [])
          ∷ [];
    }
    ∷ record { computed = sum_says (bytes_at 1) (late 9223372036854775307 (span 0 5)); document = (0 ∷ 9223372036854775807 ∷ []) ∷ [] }
    ∷ record { computed = sum_says (bytes_at 1) (late 9223372036854775308 (span 0 5)); document = (21 ∷ 9223372036854775308 ∷ []) ∷ [] }
    ∷ record { computed = sum_says (age_at 1) (none 9223372036854775807); document = (0 ∷ 9223372036854775807 ∷ []) ∷ [] }
    ∷ record { computed = sum_says (age_at 1) (none 9223372036854775808); document = (21 ∷ 9223372036854775808 ∷ []) ∷ [] }
    ∷ record { computed = sum_says (bytes_at 1) (late 9223372036854775308 (span 0 6)); document = (4 ∷ 9223372036854775308 ∷ []) ∷ [] }
    ∷ record { computed = sum_says 0 (bring run2.state (drop 1 no_sums) 1 (span 0 5) 10 7); document = (14 ∷ 0 ∷ []) ∷ [] }
    ∷ []
