-- Each call with an answer list, on an input whose answer has two entries: no other number of them, no write past the answer's end, no other order. That
-- nothing is written past the end is a law of every input (Past.antt); here the entries are computed. Assumes nothing.
use Prim.Native.Nat.{ℕ}
use mathlib.Core.Path.{◌≡◌, refl, ap}
use mathlib.Core.List.{List, [], ◌∷◌}
use native.Mathlib.Omega.{arith}
use lib.ListN.{get_or}
use lib.Ieee.{lt, sub, add, neg, sum, round, size, units, span, climb, odd, of_int}
use lib.Count.{count_trailing_zeros}
use Rattle.model.specs.Words.{any}
use Rattle.model.specs.State.{State, book_in}
use Rattle.model.specs.SoundTest.{sound}
use Rattle.model.specs.SetUp.{set_up_fits}
use Rattle.model.specs.Bring.{bring_need}
use Rattle.model.specs.Refusals.{path_fits, out_fits, tier_fits, node_need, new_blocks, cut_records, cut_entries, cut_ids}
use Rattle.model.specs.Calls.{set_up, resolve_call, insert, store_insert, store_remove, store_expire, lookup}
use Rattle.model.specs.Examples.{multiples, list_b, time, call5, run2}
use Rattle.model.specs.Examples
use Rattle.shape_answer.specs.Answers.{resolved_of, inserted_of, store_inserted_of, store_removed_of, store_expired_of, looked_of}
use Rattle.theory_wrong.specs.Rejected.{Listing, ListedRight}
use Rattle.theory_wrong.specs.Inputs.{holding, second, resolve_listed, insert_listed, store_insert_listed, store_remove_listed, store_expire_listed, lookup_path_listed, lookup_listed, two_tiers, four_hashes}
use Rattle.theory_wrong.proofs.Laws.{lists_in, listed-right}
use Rattle.theory_wrong.proofs.Past.{resolve-past, insert-past, store_insert-past, store_remove-past, store_expire-past, lookup-path-past, lookup-past}

-- ---- what each call's answer has, from a state on: a function of it, so that each state is computed once

abbrev in5 : State → List (List (List ℕ))
in5 st = lists_in resolve_listed st ∷ lists_in lookup_path_listed st ∷ []

abbrev in2 : State → List (List (List ℕ))
in2 st = lists_in insert_listed st ∷ in5 (call5 st).state

abbrev in_two : State → List (List (List ℕ))
in_two st = lists_in store_expire_listed st ∷ lists_in store_remove_listed st ∷ []

abbrev in_one : State → List (List (List ℕ))
in_one st = lists_in store_insert_listed st ∷ in_two (second st)

-- two entries, and these
abbrev two : {L A : Type 0} → Listing L A → List (List ℕ)
two r = (2 ∷ []) ∷ r.entries

chain : in2 run2.state ≡ two insert_listed ∷ two resolve_listed ∷ two lookup_path_listed ∷ []
unfolding book_in multiples set_up set_up_fits insert any sound path_fits node_need new_blocks cut_records cut_entries cut_ids resolve_call lookup tier_fits
chain = refl

chain-holding : in_one holding ≡ two store_insert_listed ∷ two store_expire_listed ∷ two store_remove_listed ∷ []
unfolding book_in multiples set_up set_up_fits insert any sound path_fits node_need new_blocks cut_records cut_entries cut_ids store_insert bring_need out_fits store_expire store_remove lt sub add neg sum round size units span climb odd count_trailing_zeros of_int
chain-holding = refl

-- ---- each call

pub resolve-listed : ListedRight resolved_of resolve_listed
resolve-listed = listed-right resolved_of resolve_listed 0 (λ st l. resolve-past st l list_b) refl (ap (λ l. get_or l 1 []) chain) (λ e. omega arith)

pub insert-listed : ListedRight inserted_of insert_listed
insert-listed = listed-right inserted_of insert_listed 0 (λ st l. insert-past st l list_b) refl (ap (λ l. get_or l 0 []) chain) (λ e. omega arith)

pub store_insert-listed : ListedRight store_inserted_of store_insert_listed
store_insert-listed = listed-right store_inserted_of store_insert_listed 1 (λ st l. store_insert-past st l 0 (Examples.span 0 4) (time 2) 6) refl (ap (λ l. get_or l 0 []) chain-holding) (λ e. omega arith)

pub store_expire-listed : ListedRight store_expired_of store_expire_listed
store_expire-listed = listed-right store_expired_of store_expire_listed 1 (λ st l. store_expire-past st l 0 (time 40) (time 20)) refl (ap (λ l. get_or l 1 []) chain-holding) (λ e. omega arith)

pub store_remove-listed : ListedRight store_removed_of store_remove_listed
store_remove-listed = listed-right store_removed_of store_remove_listed 0 (λ st l. store_remove-past st l 0 (Examples.span 0 2)) refl (ap (λ l. get_or l 2 []) chain-holding) (λ e. omega arith)

pub lookup-path-listed : ListedRight looked_of lookup_path_listed
lookup-path-listed = listed-right looked_of lookup_path_listed 0 (λ st l. lookup-path-past st l [] list_b) refl (ap (λ l. get_or l 2 []) chain) (λ e. omega arith)

pub lookup-listed : ListedRight looked_of lookup_listed
unfolding book_in multiples set_up set_up_fits insert any sound path_fits node_need new_blocks cut_records cut_entries cut_ids store_insert bring_need out_fits lookup tier_fits lt sub add neg sum round size units span climb odd count_trailing_zeros of_int
lookup-listed = listed-right looked_of lookup_listed 0 (λ st l. lookup-past st l two_tiers four_hashes) refl refl (λ e. omega arith)
