-- `text_times::time_text` meets its contract: a NaN has the pattern of the definition, and any other value its sign, its size and its own pattern.
use Rattle.std.proofs.Common.{sym, ◌∙◌}
use Rattle.text_times.proofs.Sizes.{same_sign}
use Rattle.text_times.proofs.Texts.{put_as, nan_text, time-text}
use Rattle.text_times.proofs.time_text.Goals as goal

pub returns-then-is_nan : goal.returns-then-is_nan
returns-then-is_nan c = put_as _ _ _ _ _ _ (nan_text _ (sym c.is_nan.ensures.value ∙ c.if-is_nan.true)) c.put_pattern.ensures

pub returns : goal.returns
returns c = put_as _ _ _ _ _ _ (time-text _ _ _ (c.is_sign_negative.ensures ∙ same_sign _) c.whole_size.ensures) c.put_size.ensures
