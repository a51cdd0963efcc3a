-- `text_times::of_bits` meets its contract: what lies above the infinities is a NaN's pattern.
use Rattle.std.proofs.Common.{◌∙◌}
use Rattle.text_times.proofs.Values.{nan_made, nan_pattern, no_nan_pattern}
use Rattle.text_times.proofs.of_bits.Goals as goal

pub returns-then-b-gt9218868437227405312 : goal.returns-then-b-gt9218868437227405312
returns-then-b-gt9218868437227405312 c = nan_made ∙ nan_pattern _ c.if-b-gt9218868437227405312.true

pub float_from_bits-result : goal.float_from_bits-result
float_from_bits-result c = no_nan_pattern _ c.if-b-gt9218868437227405312.false
