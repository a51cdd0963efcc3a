-- `text_times::read_time` meets its contract: the three names, then any other word.
use Rattle.std.proofs.Common.{◌∙◌}
use Rattle.text_times.proofs.Values.{inf_made, minus_inf_made, nan_made}
use Rattle.text_times.proofs.Reading.{compared, time_inf, time_minus_inf, time_nan, time-word}
use Rattle.text_times.proofs.read_time.Goals as goal

pub returns-then-eq : goal.returns-then-eq
returns-then-eq c = time_inf _ _ (compared _ _ _ _ _ c.as_slice.ensures c.eq.ensures c.if-eq.true) inf_made

pub returns-then-eq-2 : goal.returns-then-eq-2
returns-then-eq-2 c =
    time_minus_inf _ _ (compared _ _ _ _ _ c.as_slice.ensures c.eq.ensures c.if-eq.false)
    (compared _ _ _ _ _ c.as_slice-2.ensures c.eq-2.ensures c.if-eq-2.true)
    minus_inf_made

pub returns-then-eq-3 : goal.returns-then-eq-3
returns-then-eq-3 c =
    time_nan _ _ (compared _ _ _ _ _ c.as_slice.ensures c.eq.ensures c.if-eq.false)
    (compared _ _ _ _ _ c.as_slice-2.ensures c.eq-2.ensures c.if-eq-2.false)
    (compared _ _ _ _ _ c.as_slice-3.ensures c.eq-3.ensures c.if-eq-3.true)
    nan_made

pub returns : goal.returns
returns c =
    c.read_word.ensures
    ∙ time-word _ (compared _ _ _ _ _ c.as_slice.ensures c.eq.ensures c.if-eq.false)
    (compared _ _ _ _ _ c.as_slice-2.ensures c.eq-2.ensures c.if-eq-2.false)
    (compared _ _ _ _ _ c.as_slice-3.ensures c.eq-3.ensures c.if-eq-3.false)
