-- `call_remove::refusal` meets its contract: the test of 4 gives its number, and where it fails, the need decides. Assumes nothing.
use mathlib.Core.Path.{sym, ◌∙◌}
use native.Mathlib.Omega.{arith}
use Rattle.test_arguments.proofs.Need.{number_fits}
use Rattle.call_remove.proofs.Laws.{none-zero, placed_in, span_good, refused-span, need-refused}
use Rattle.std.proofs.Common.{ap}
use mathlib.Core.Bool.{not}
use Rattle.call_remove.proofs.refusal.Goals as goal

pub returns-then-not-span_in : goal.returns-then-not-span_in
returns-then-not-span_in c = record { value = λ st l v long. refused-span v c.args.sp l long c.span_in.ensures (ap not c.if-not-span_in.true); fits_at = none-zero (omega arith) }

pub need_at-need-requires : goal.need_at-need-requires
need_at-need-requires c = placed_in c.requires.1

pub returns : goal.returns
returns c = let f = c.need_at-need in record {
  value = λ st l v long. need-refused v c.args.sp l long (span_good v c.args.sp c.span_in.ensures (ap not c.if-not-span_in.false)) f.result f.ensures c.need_number.ensures;
  fits_at = λ e. record {
    need = f.result;
    are = f.ensures;
    records = (number_fits c.args.n f.result 0 0 c.args.next (sym e ∙ c.need_number.ensures)).0;
  };
}
