-- An instance that is computed: after the list A a store of capacity 4 keeps four of its five blocks, one of capacity 5 keeps all five, and a lookup of A
-- gives as many. Assumes nothing.
use Prim.Native.Nat.{ℕ}
use mathlib.Core.Path.{◌≡◌, refl}
use mathlib.Core.List.{List, [], ◌∷◌}
use lib.Ieee.{lt, sub, add, neg, sum, round, size, units, span, climb, odd, of_int}
use lib.Count.{count_trailing_zeros}
use Rattle.model.specs.State.{State, held_of, book_in}
use Rattle.model.specs.Words.{any}
use Rattle.model.specs.SoundTest.{sound}
use Rattle.model.specs.SetUp.{set_up_fits}
use Rattle.model.specs.Bring.{bring_need}
use Rattle.model.specs.Refusals.{path_fits, out_fits, tier_fits, node_need, new_blocks, cut_records, cut_entries, cut_ids}
use Rattle.model.specs.Calls.{set_up, insert, store_insert, lookup}
use Rattle.model.specs.Examples as E
use Rattle.theory_room.specs.Room.{with_capacity, sum_of, blocks_in}

-- the blocks that store 0 holds after the span 0 to 5 is brought in, and those that a lookup of A gives then
abbrev figures : State → List ℕ
figures st =
    let after = (store_insert st E.outs 0 (E.span 0 5) (E.time 10) 7).state in
    held_of after 0
    ∷ blocks_in (lookup after (record { path = E.paths; spans = E.tier_spans }) (0 ∷ []) E.list_a).answer
    ∷ []

pub four_and_five : (figures (E.run2).state ≡ 4 ∷ 4 ∷ []) × (figures (with_capacity 0 5 (E.run2).state) ≡ 5 ∷ 5 ∷ [])
unfolding book_in with_capacity sum_of E.multiples set_up insert store_insert lookup any sound set_up_fits bring_need path_fits out_fits tier_fits node_need new_blocks cut_records cut_entries cut_ids lt sub add neg sum round size units span climb odd count_trailing_zeros of_int
four_and_five = (refl, refl)
