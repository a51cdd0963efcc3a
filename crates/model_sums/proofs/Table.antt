-- Request P1's example and the rows at the limit, computed: the sums are the figures that the report prints.
use mathlib.Core.Path.{refl}
use lib.Ieee.{lt, sub, add, neg, sum, round, size, units, span, climb, odd, of_int}
use lib.Count.{count_trailing_zeros}
use Rattle.model.specs.Words.{any, sum_to}
use Rattle.model.specs.State.{book_in}
use Rattle.model.specs.SoundTest.{sound}
use Rattle.model.specs.SetUp.{set_up_fits}
use Rattle.model.specs.Bring.{bring_need, bring_blocks}
use Rattle.model.specs.Refusals.{path_fits, out_fits, tier_fits, node_need, new_blocks, cut_records, cut_entries, cut_ids, touch_span}
use Rattle.model.specs.Calls.{set_up, insert, store_used}
use Rattle.model.specs.Examples.{Agree, multiples}
use Rattle.model_sums.specs.Sums as Sums
use Rattle.model_sums.specs.Sums.{passes}
use Rattle.model_sums.specs.Tally.{tally_insert, tally_expire, tally_remove, tally_lookup}
use Rattle.model_sums.specs.Examples.{rows}

pub report_example : Agree rows
unfolding book_in multiples set_up insert store_used tally_insert tally_expire tally_remove tally_lookup Sums.add passes sum_to any sound set_up_fits bring_need bring_blocks path_fits out_fits tier_fits node_need new_blocks cut_records cut_entries cut_ids touch_span lt sub add neg sum round size units span climb odd count_trailing_zeros of_int
report_example = (refl, (refl, (refl, (refl, (refl, (refl, (refl, (refl, tt))))))))
