-- `text_times::put_size` meets its contract: one law for each kind of text.
use Rattle.std.proofs.Common.{arith}
use Rattle.text_print.proofs.Laws.{put-more}
use Rattle.text_times.proofs.Texts.{put_as, text-other, text-plain, text-zero, text_minus}
use Rattle.text_times.proofs.put_size.Goals as goal

pub returns-in_default : goal.returns-in_default
returns-in_default c = put_as _ _ _ _ _ _ (text-other _ _ _ c.in_default.is) c.put_pattern.ensures

pub returns-then-not-neg : goal.returns-then-not-neg
returns-then-not-neg c = put_as _ _ _ _ _ _ (text-plain _ _ _ _ (c.if-not-neg.true) c.in-Some.is) c.put_number.ensures.put

pub returns-then-n-eq0 : goal.returns-then-n-eq0
returns-then-n-eq0 c = put_as _ _ _ _ _ _ (text-zero _ _ _ _ (c.if-not-neg.false) c.in-Some.is c.if-n-eq0.true) c.put_pattern-then-n-eq0.ensures

pub returns : goal.returns
returns c = put_as _ _ _ _ _ _ (text_minus _ _ _ _ (c.if-not-neg.false) c.in-Some.is c.if-n-eq0.false) (put-more _ _ _ _ _ _ _ _ (omega arith) c.put_byte-next.ensures c.put_number-2.ensures.put)
