-- `text_times::whole_size` meets its contract: below 2 ^ 53 the whole part is exact, and the value is whole where it equals it.
use Rattle.std.proofs.Common.{T, sym, subst}
use lib.Ieee.{of_bits}
use Rattle.text_times.proofs.Sizes.{size-above, size_then, size-none, limit_64}
use Rattle.text_times.proofs.whole_size.Goals as goal

pub truncating_f64_to_u64-n-requires : goal.truncating_f64_to_u64-n-requires
unfolding of_bits
truncating_f64_to_u64-n-requires c = record {
  lower_bound = size-above _ _ c.abs-y.ensures.value (subst T (sym c.if-y.true) tt);
  upper_bound = limit_64 _ (subst T (sym c.if-y.true) tt);
}

pub returns-then-y : goal.returns-then-y
unfolding of_bits
returns-then-y c = size_then _ _ c.abs-y.ensures.value _ _ _ (subst T (sym c.if-y.true) tt) c.truncating_f64_to_u64-n.ensures c.nearest_u64_to_f64.ensures c.then_some.ensures

pub returns : goal.returns
unfolding of_bits
returns c = size-none _ _ c.abs-y.ensures.value c.if-y.false
