-- Each public call on an input that is to be refused: neither an acceptance, nor another number, nor a refusal that writes. That what is refused gives back
-- what was lent is a law of every input; here the number is computed. Assumes nothing.
use Prim.Native.Nat.{ℕ, ◌-◌}
use mathlib.Core.Path.{◌≡◌, refl, ap}
use mathlib.Core.Bool.{true}
use mathlib.Core.List.{List, [], ◌∷◌}
use native.Mathlib.Omega.{arith}
use lib.Ieee.{nan, lt, sub, add, neg, sum, round, size, units, span, climb, odd, of_int}
use lib.Count.{count_trailing_zeros}
use Rattle.model.specs.Words.{any}
use Rattle.model.specs.State.{State, at, book_in, capacity_of, held_of, pinned_of, version_of}
use Rattle.model.specs.SoundTest.{sound}
use Rattle.model.specs.SetUp.{set_up_fits}
use Rattle.model.specs.Pins.{has_pin}
use Rattle.model.specs.Bring.{bring_need}
use Rattle.model.specs.Refusals.{path_fits, out_fits, tier_fits, node_need, new_blocks, cut_records, cut_entries, cut_ids}
use Rattle.model.specs.Calls.{store_counter, set_up, resolve_call, insert, store_insert, store_used, store_remove, store_expire, pin_source, unpin_source, lookup, held_call, capacity_call, pinned_call, available_call, version_call, stalls_call}
use Rattle.model.specs.Examples.{table, fresh, multiples, list_b, time, call2, call7}
use Rattle.model.specs.Examples
use Rattle.theory_refuse.proofs.Refused.{set_up-kept, resolve-kept, insert-kept, store_insert-kept, store_used-kept, store_remove-kept, store_expire-kept, pin-kept, unpin-kept, lookup-kept, held_kept, capacity-kept, pinned-kept, available_kept, version-kept, stalls-kept}
use Rattle.shape_answer.specs.Answers.{plain_of, count_of, resolved_of, inserted_of, store_inserted_of, store_used_of, store_removed_of, store_expired_of, looked_of}
use Rattle.theory_wrong.specs.Rejected.{RefusedRight}
use Rattle.theory_wrong.specs.Inputs.{set_up_refused, resolve_refused, insert_refused, store_insert_refused, store_used_refused, store_remove_refused, store_expire_refused, pin_refused, unpin_refused, lookup_refused, count_refused, stalls_refused, many_hashes, two_spans, nine_tiers}
use Rattle.theory_wrong.proofs.Laws.{number_of, number_in, refused-right}

-- ---- the numbers, of calls in the states that E2 and E7 leave and before them: what is said from a state on is a function of it, so that each is computed once

abbrev in7 : State → List ℕ
in7 st = number_in store_used_refused st ∷ number_in store_expire_refused st ∷ []

abbrev in2 : State → List ℕ
in2 st = number_in store_insert_refused st ∷ number_in unpin_refused st ∷ in7 (call7 st).state

abbrev in0 : State → List ℕ
in0 st =
    number_in resolve_refused st
    ∷ number_in insert_refused st
    ∷ number_in store_remove_refused st
    ∷ number_in pin_refused st
    ∷ number_in lookup_refused st
    ∷ in2 (call2 st).state

chain : in0 fresh
    ≡ resolve_refused.number
    ∷ insert_refused.number
    ∷ store_remove_refused.number
    ∷ pin_refused.number
    ∷ lookup_refused.number
    ∷ store_insert_refused.number
    ∷ unpin_refused.number
    ∷ store_used_refused.number
    ∷ store_expire_refused.number ∷ []
unfolding book_in multiples set_up set_up_fits resolve_call insert lookup any sound path_fits tier_fits node_need new_blocks cut_records cut_entries cut_ids store_insert bring_need out_fits store_used store_remove store_expire pin_source unpin_source has_pin lt sub add neg sum round size units span climb odd count_trailing_zeros of_int
chain = refl

-- ---- each call

pub set_up-refused : RefusedRight plain_of set_up_refused
unfolding book_in multiples set_up set_up_fits
set_up-refused = refused-right plain_of set_up_refused (λ st l. set_up-kept st table [] []) refl (λ e. omega arith)

pub resolve-refused : RefusedRight resolved_of resolve_refused
resolve-refused = refused-right resolved_of resolve_refused (λ st l. resolve-kept st l many_hashes) (ap (λ l. at l 0) chain) (λ e. omega arith)

pub insert-refused : RefusedRight inserted_of insert_refused
insert-refused = refused-right inserted_of insert_refused (λ st l. insert-kept st l many_hashes) (ap (λ l. at l 1) chain) (λ e. omega arith)

pub store_insert-refused : RefusedRight store_inserted_of store_insert_refused
store_insert-refused = refused-right store_inserted_of store_insert_refused (λ st l. store_insert-kept st l 0 (Examples.span 0 6) nan 7) (ap (λ l. at l 5) chain) (λ e. omega arith)

pub store_used-refused : RefusedRight store_used_of store_used_refused
store_used-refused = refused-right store_used_of store_used_refused (λ st l. store_used-kept st 0 two_spans (time 20) true) (ap (λ l. at l 7) chain) (λ e. omega arith)

pub store_remove-refused : RefusedRight store_removed_of store_remove_refused
store_remove-refused = refused-right store_removed_of store_remove_refused (λ st l. store_remove-kept st l 2 (Examples.span 0 4)) (ap (λ l. at l 2) chain) (λ e. omega arith)

pub store_expire-refused : RefusedRight store_expired_of store_expire_refused
store_expire-refused = refused-right store_expired_of store_expire_refused (λ st l. store_expire-kept st l 0 (time 40) nan) (ap (λ l. at l 8) chain) (λ e. omega arith)

pub pin-refused : RefusedRight plain_of pin_refused
pin-refused = refused-right plain_of pin_refused (λ st l. pin-kept st 2 (Examples.span 1 1)) (ap (λ l. at l 3) chain) (λ e. omega arith)

pub unpin-refused : RefusedRight plain_of unpin_refused
unpin-refused = refused-right plain_of unpin_refused (λ st l. unpin-kept st 0 (Examples.span 0 5)) (ap (λ l. at l 6) chain) (λ e. omega arith)

pub lookup-refused : RefusedRight looked_of lookup_refused
lookup-refused = refused-right looked_of lookup_refused (λ st l. lookup-kept st l nine_tiers list_b) (ap (λ l. at l 4) chain) (λ e. omega arith)

-- ---- the counters

-- refused alike, whatever is counted
counter_number : (counts : State → ℕ → ℕ) → number_of (store_counter counts fresh 2).answer ≡ 2
unfolding book_in multiples set_up set_up_fits sound
counter_number counts = refl

pub held-refused : RefusedRight count_of (count_refused held_call)
unfolding held_call
held-refused = refused-right count_of (count_refused held_call) (λ st l. held_kept st 2) (counter_number held_of) (λ e. omega arith)

pub capacity-refused : RefusedRight count_of (count_refused capacity_call)
unfolding capacity_call
capacity-refused = refused-right count_of (count_refused capacity_call) (λ st l. capacity-kept st 2) (counter_number capacity_of) (λ e. omega arith)

pub pinned-refused : RefusedRight count_of (count_refused pinned_call)
unfolding pinned_call
pinned-refused = refused-right count_of (count_refused pinned_call) (λ st l. pinned-kept st 2) (counter_number pinned_of) (λ e. omega arith)

pub available_refused : RefusedRight count_of (count_refused available_call)
unfolding available_call
available_refused = refused-right count_of (count_refused available_call) (λ st l. available_kept st 2) (counter_number (λ st s. capacity_of st s - pinned_of st s)) (λ e. omega arith)

pub version-refused : RefusedRight count_of (count_refused version_call)
unfolding version_call
version-refused = refused-right count_of (count_refused version_call) (λ st l. version-kept st 2) (counter_number version_of) (λ e. omega arith)

pub stalls-refused : RefusedRight count_of stalls_refused
unfolding sound stalls_call
stalls-refused = refused-right count_of stalls_refused (λ st l. stalls-kept st) refl (λ e. omega arith)
