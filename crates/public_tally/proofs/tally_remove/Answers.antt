-- `public_tally::tally_remove` meets its contract: refused by 1 or 14, or what the inner call answers. Assumes nothing.
use Rattle.model_sums.specs.Tally.{summed}
use Rattle.theory_refuse.proofs.Says.{says_yes, says_no}
use Rattle.theory_sums.proofs.Gates.{tally_remove-unsound, tally_remove-short-sums, tally_remove-short}
use Rattle.std.proofs.Common.{ap}
use mathlib.Core.Bool.{not}
use Rattle.public_tally.proofs.tally_remove.Goals as goal

pub returns-then-not-sound_state : goal.returns-then-not-sound_state
returns-then-not-sound_state c = tally_remove-unsound _ (says_no c.sound_state.result (ap not c.if-not-sound_state.true) c.sound_state.ensures) (summed c.args.list.now c.args.sums.now) c.args.s c.args.sp

pub returns-then-sums-lt59 : goal.returns-then-sums-lt59
returns-then-sums-lt59 c = tally_remove-short-sums _ (says_yes c.sound_state.result (ap not c.if-not-sound_state.false) c.sound_state.ensures) (summed c.args.list.now c.args.sums.now) c.args.s c.args.sp c.if-sums-lt59.true

pub returns-then-not-writes_fit : goal.returns-then-not-writes_fit
returns-then-not-writes_fit c = tally_remove-short _ (says_yes c.sound_state.result (ap not c.if-not-sound_state.false) c.sound_state.ensures) (summed c.args.list.now c.args.sums.now) c.args.s c.args.sp c.if-sums-lt59.false (says_no c.writes_fit.result (ap not c.if-not-writes_fit.true) c.writes_fit.ensures)

pub tally_remove-requires : goal.tally_remove-requires
tally_remove-requires c = (says_yes c.sound_state.result (ap not c.if-not-sound_state.false) c.sound_state.ensures, says_yes c.writes_fit.result (ap not c.if-not-writes_fit.false) c.writes_fit.ensures, c.if-sums-lt59.false)

pub returns : goal.returns
returns c = c.tally_remove.ensures
