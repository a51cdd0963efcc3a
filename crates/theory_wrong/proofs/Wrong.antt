-- Wrong outcomes of each public call on an input that is to be accepted: a refusal, and a slip; for a bring-in and a removal a second one. The right outcomes are computed, in two chains and one
-- run apart: what is shown from a run on is a function of its outcome, so that each run is computed once. Assumes nothing.
use Prim.Native.Nat.{ℕ}
use mathlib.Core.Path.{◌≡◌, refl, ap}
use mathlib.Core.List.{List, [], ◌∷◌}
use native.Mathlib.Omega.{arith}
use lib.ListN.{get_or}
use lib.Ieee.{lt, sub, add, neg, sum, round, size, units, span, climb, odd, of_int}
use lib.Count.{count_trailing_zeros}
use Rattle.model.specs.declared.ResolveAnswer.{ResolveAnswer}
use Rattle.model.specs.declared.InsertAnswer.{InsertAnswer}
use Rattle.model.specs.declared.BringAnswer.{BringAnswer}
use Rattle.model.specs.declared.TouchAnswer.{TouchAnswer}
use Rattle.model.specs.declared.ExpireAnswer.{ExpireAnswer}
use Rattle.model.specs.declared.LookupAnswer.{LookupAnswer}
use Rattle.model.specs.Words.{any}
use Rattle.model.specs.State.{at, stores_of, held_of, entries_of, book_in}
use Rattle.model.specs.SoundTest.{sound}
use Rattle.model.specs.SetUp.{set_up_fits}
use Rattle.model.specs.Pins.{pin_need}
use Rattle.model.specs.Bring.{bring_need, bring_blocks}
use Rattle.model.specs.Refusals.{PathList, OutList, path_fits, out_fits, tier_fits, node_need, new_blocks, cut_records, cut_entries, cut_ids, touch_span}
use Rattle.model.specs.Calls.{Outcome, NoList, NoValue, LookupLists, set_up, resolve_call, insert, store_insert, store_used, store_remove, store_expire, pin_source, unpin_source, lookup, held_call, capacity_call, pinned_call, available_call, version_call, stalls_call}
use Rattle.model.specs.Examples.{multiples, call2, call3, call5, call7, call8, call9, call10, call11, call13, run3, run5, run7, run8, run10, run11, run12}
use Rattle.shape_answer.specs.Answers.{plain_of, count_of, resolved_of, inserted_of, store_inserted_of, store_used_of, store_removed_of, store_expired_of, looked_of}
use Rattle.theory_wrong.specs.Rejected.{given, number, Rejected}
use Rattle.theory_wrong.specs.Inputs.{run_more, run_gone, call_held, call_capacity, call_version, call_unpin, call_pinned, call_available, run0, run_pin, run_unpin, run_held, run_capacity, run_version, run_pinned, run_available, run_stalls}
use Rattle.theory_wrong.proofs.Laws.{shows, rejected}

-- ---- what is looked at

abbrev stores_left : Outcome NoList NoValue → ℕ
stores_left o = stores_of o.state

abbrev blocks_found : Outcome PathList ResolveAnswer → ℕ
blocks_found o = given (λ a. a.path.blocks) o.answer

abbrev nodes_left : Outcome PathList InsertAnswer → ℕ
nodes_left o = o.state.tree.nodes

abbrev first_start : Outcome OutList BringAnswer → ℕ
first_start o = at o.lists.start 0

abbrev bytes_read : Outcome NoList TouchAnswer → ℕ
bytes_read o = given (λ a. a.bytes) o.answer

abbrev outs_given : Outcome OutList ExpireAnswer → ℕ
outs_given o = given (λ a. a.outs) o.answer

abbrev held_left : {L A : Type 0} → Outcome L A → ℕ
held_left o = held_of o.state 0

abbrev entries_left : Outcome NoList NoValue → ℕ
entries_left o = entries_of o.state 0

abbrev spans_found : Outcome LookupLists LookupAnswer → ℕ
spans_found o = given (λ a. a.spans) o.answer

-- ---- set-up, then E2 to E11

abbrev from10 : Outcome OutList ExpireAnswer → List (List ℕ)
from10 o = shows outs_given o ∷ shows held_left (call11 o.state) ∷ []

abbrev from9 : Outcome OutList BringAnswer → List (List ℕ)
from9 o = from10 (call10 o.state)

abbrev from8 : Outcome NoList TouchAnswer → List (List ℕ)
from8 o = shows bytes_read o ∷ from9 (call9 o.state)

abbrev from7 : Outcome OutList BringAnswer → List (List ℕ)
from7 o =
    shows first_start o
    ∷ shows number (call_held o.state)
    ∷ shows number (call_capacity o.state)
    ∷ shows number (call_version o.state)
    ∷ from8 (call8 o.state)

abbrev from2 : Outcome PathList InsertAnswer → List (List ℕ)
from2 o = shows blocks_found (call3 o.state) ∷ shows nodes_left (call5 o.state) ∷ from7 (call7 o.state)

abbrev from0 : Outcome NoList NoValue → List (List ℕ)
from0 o = shows stores_left o ∷ from2 (call2 o.state)

-- done, and the number
abbrev right : ℕ → List ℕ
right k = 1 ∷ k ∷ []

chain : from0 run0 ≡ right 2 ∷ right 2 ∷ right 4 ∷ right 4 ∷ right 4 ∷ right 4 ∷ right 1 ∷ right 200 ∷ right 1 ∷ right 2 ∷ []
unfolding book_in multiples set_up resolve_call insert store_insert store_used store_expire store_remove held_call capacity_call version_call any sound set_up_fits bring_need path_fits out_fits node_need new_blocks cut_records cut_entries cut_ids touch_span lt sub add neg sum round size units span climb odd count_trailing_zeros of_int
chain = refl

-- ---- E13

abbrev from13 : Outcome OutList BringAnswer → List (List ℕ)
from13 o =
    shows held_left (call_unpin o.state)
    ∷ shows number (call_pinned o.state)
    ∷ shows number (call_available o.state)
    ∷ shows number (stalls_call o.state) ∷ []

abbrev from_pin : Outcome NoList NoValue → List (List ℕ)
from_pin o = shows entries_left o ∷ from13 (call13 o.state)

chain-pin : from_pin run_pin ≡ right 1 ∷ right 4 ∷ right 4 ∷ right 0 ∷ right 1 ∷ []
unfolding book_in multiples set_up insert store_insert pin_source unpin_source pinned_call available_call stalls_call any sound set_up_fits pin_need bring_need path_fits out_fits node_need new_blocks cut_records cut_entries cut_ids lt sub add neg sum round size units span climb odd count_trailing_zeros of_int
chain-pin = refl

-- ---- each call

-- set-up leaves two stores, not none
pub set_up_wrong : Rejected plain_of run0 stores_left 0
set_up_wrong = rejected plain_of run0 stores_left 0 2 (ap (λ l. get_or l 0 []) chain) (λ e. omega arith)

-- two blocks of the list are stored, not none
pub resolve_wrong : Rejected resolved_of run3 blocks_found 0
resolve_wrong = rejected resolved_of run3 blocks_found 0 2 (ap (λ l. get_or l 1 []) chain) (λ e. omega arith)

-- a cut and a leaf make two nodes more: the two that there were are not all
pub insert_wrong : Rejected inserted_of run5 nodes_left 2
insert_wrong = rejected inserted_of run5 nodes_left 2 4 (ap (λ l. get_or l 2 []) chain) (λ e. omega arith)

-- the range's tail, from 4, is given out, and not its head
pub store_insert_wrong : Rejected store_inserted_of run7 first_start 0
store_insert_wrong = rejected store_inserted_of run7 first_start 0 4 (ap (λ l. get_or l 3 []) chain) (λ e. omega arith)

-- 200 bytes are read, not none
pub store_used_wrong : Rejected store_used_of run8 bytes_read 0
store_used_wrong = rejected store_used_of run8 bytes_read 0 200 (ap (λ l. get_or l 7 []) chain) (λ e. omega arith)

-- one range is past its seconds: the one at exactly 20 stays
pub store_expire_wrong : Rejected store_expired_of run10 outs_given 2
store_expire_wrong = rejected store_expired_of run10 outs_given 2 1 (ap (λ l. get_or l 8 []) chain) (λ e. omega arith)

-- a block went: not all three are held still
pub store_remove_wrong : Rejected store_removed_of run11 held_left 3
store_remove_wrong = rejected store_removed_of run11 held_left 3 2 (ap (λ l. get_or l 9 []) chain) (λ e. omega arith)

-- two blocks come in: not all four of the span
pub store_insert-blocks_wrong : Rejected store_inserted_of run_more (λ o. given (λ a. a.blocks) o.answer) 4
unfolding book_in multiples set_up insert store_insert any sound set_up_fits bring_need bring_blocks path_fits out_fits node_need new_blocks cut_records cut_entries cut_ids lt sub add neg sum round size units span climb odd count_trailing_zeros of_int
store_insert-blocks_wrong = rejected store_inserted_of run_more (λ o. given (λ a. a.blocks) o.answer) 4 2 refl (λ e. omega arith)

-- one block went: not all three of the span
pub store_remove-blocks_wrong : Rejected store_removed_of run_gone (λ o. given (λ a. a.blocks) o.answer) 3
unfolding book_in multiples set_up insert store_insert store_remove any sound set_up_fits bring_need path_fits out_fits node_need new_blocks cut_records cut_entries cut_ids lt sub add neg sum round size units span climb odd count_trailing_zeros of_int
store_remove-blocks_wrong = rejected store_removed_of run_gone (λ o. given (λ a. a.blocks) o.answer) 3 1 refl (λ e. omega arith)

-- the span has an entry afterwards
pub pin_wrong : Rejected plain_of run_pin entries_left 0
pin_wrong = rejected plain_of run_pin entries_left 0 1 (ap (λ l. get_or l 0 []) chain-pin) (λ e. omega arith)

-- four blocks are held by a store of capacity 2, and an unpin does not trim to 2
pub unpin_wrong : Rejected plain_of run_unpin held_left 2
unpin_wrong = rejected plain_of run_unpin held_left 2 4 (ap (λ l. get_or l 1 []) chain-pin) (λ e. omega arith)

-- one tier answers in one span: not each block's nearest tier in two
pub lookup_wrong : Rejected looked_of run12 spans_found 2
unfolding book_in multiples set_up insert store_insert lookup any sound set_up_fits bring_need path_fits out_fits tier_fits node_need new_blocks cut_records cut_entries cut_ids lt sub add neg sum round size units span climb odd count_trailing_zeros of_int
lookup_wrong = rejected looked_of run12 spans_found 2 1 refl (λ e. omega arith)

-- ---- the counters

-- 4 blocks are held, not none
pub held_wrong : Rejected count_of run_held number 0
held_wrong = rejected count_of run_held number 0 4 (ap (λ l. get_or l 4 []) chain) (λ e. omega arith)

-- the store has room for 4
pub capacity_wrong : Rejected count_of run_capacity number 0
capacity_wrong = rejected count_of run_capacity number 0 4 (ap (λ l. get_or l 5 []) chain) (λ e. omega arith)

-- one span was given out
pub version_wrong : Rejected count_of run_version number 0
version_wrong = rejected count_of run_version number 0 1 (ap (λ l. get_or l 6 []) chain) (λ e. omega arith)

-- a span of 4 blocks is pinned once
pub pinned_wrong : Rejected count_of run_pinned number 0
pinned_wrong = rejected count_of run_pinned number 0 4 (ap (λ l. get_or l 2 []) chain-pin) (λ e. omega arith)

-- more is pinned than the capacity of 2: nothing is available
pub available_wrong : Rejected count_of run_available number 2
available_wrong = rejected count_of run_available number 2 0 (ap (λ l. get_or l 3 []) chain-pin) (λ e. omega arith)

-- trimming stalled once
pub stalls_wrong : Rejected count_of run_stalls number 0
stalls_wrong = rejected count_of run_stalls number 0 1 (ap (λ l. get_or l 4 []) chain-pin) (λ e. omega arith)
