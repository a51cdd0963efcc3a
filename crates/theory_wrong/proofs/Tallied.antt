-- Wrong outcomes of the counted bring-in that request P1 names: five blocks counted as brought in where two of the span were held, and 21 given where 8 holds.
-- Assumes nothing.
use Prim.Native.Nat.{ℕ}
use mathlib.Core.Path.{refl}
use native.Mathlib.Omega.{arith}
use lib.Ieee.{lt, sub, add, neg, sum, round, size, units, span, climb, odd, of_int}
use lib.Count.{count_trailing_zeros}
use Rattle.model.specs.declared.BringAnswer.{BringAnswer}
use Rattle.model.specs.Words.{any, sum_to}
use Rattle.model.specs.State.{at, book_in}
use Rattle.model.specs.SoundTest.{sound}
use Rattle.model.specs.SetUp.{set_up_fits}
use Rattle.model.specs.Bring.{bring_need, bring_blocks}
use Rattle.model.specs.Refusals.{OutList, path_fits, out_fits, node_need, new_blocks, cut_records, cut_entries, cut_ids}
use Rattle.model.specs.Calls.{Outcome, set_up, insert, store_insert}
use Rattle.model.specs.Examples.{multiples, time}
use Rattle.model.specs.Examples as Examples
use Rattle.model_sums.specs.Sums as Sums
use Rattle.model_sums.specs.Sums.{passes, brought_at}
use Rattle.model_sums.specs.Tally.{Summed, tally_insert}
use Rattle.theory_sums.proofs.Tallied.{tally_insert-kept}
use Rattle.shape_answer.specs.Answers.{store_inserted_of}
use Rattle.theory_wrong.specs.Rejected.{Rejected, RefusedRight}
use Rattle.theory_wrong.specs.Inputs.{run_tally, tally_insert_refused, tally_insert_late}
use Rattle.theory_wrong.proofs.Laws.{rejected, refused-right}

-- blocks brought into store 0, as the sums have them
abbrev brought_in : Outcome (Summed OutList) BringAnswer → ℕ
brought_in o = at o.lists.sums (brought_at 0)

-- three blocks come in: not all five of the span
pub tally_insert_wrong : Rejected store_inserted_of run_tally brought_in 5
unfolding book_in multiples set_up insert store_insert tally_insert Sums.add passes sum_to any sound set_up_fits bring_need bring_blocks path_fits out_fits node_need new_blocks cut_records cut_entries cut_ids lt sub add neg sum round size units span climb odd count_trailing_zeros of_int
tally_insert_wrong = rejected store_inserted_of run_tally brought_in 5 3 refl (λ e. omega arith)

-- refused by 8 and by no other number, 21 among them, with nothing written
pub tally_insert-refused : RefusedRight store_inserted_of tally_insert_refused
unfolding book_in multiples store_insert tally_insert Sums.add passes sum_to any sound bring_need bring_blocks out_fits lt sub add neg sum round size units span climb odd count_trailing_zeros of_int
tally_insert-refused =
    refused-right store_inserted_of tally_insert_refused (λ st l. tally_insert-kept st l 0 (Examples.span 0 129) (time 1) 0) refl (λ e. omega arith)

-- where 8 does not hold, the same state and sums give 21
pub tally_insert-late : RefusedRight store_inserted_of tally_insert_late
unfolding book_in multiples store_insert tally_insert Sums.add passes sum_to any sound bring_need bring_blocks out_fits lt sub add neg sum round size units span climb odd count_trailing_zeros of_int
tally_insert-late =
    refused-right store_inserted_of tally_insert_late (λ st l. tally_insert-kept st l 0 (Examples.span 0 2) (time 1) 0) refl (λ e. omega arith)
