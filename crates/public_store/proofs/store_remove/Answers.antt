-- `public_store::store_remove` meets its contract: refused by 1 or 14, or what the inner call answers. Assumes nothing.
use Rattle.theory_refuse.proofs.Says.{says_yes, says_no}
use Rattle.theory_outcome.proofs.Gates.{store_remove-unsound, store_remove-short}
use Rattle.std.proofs.Common.{ap}
use mathlib.Core.Bool.{not}
use Rattle.public_store.proofs.store_remove.Goals as goal

pub returns-then-not-sound_state : goal.returns-then-not-sound_state
returns-then-not-sound_state c = store_remove-unsound _ (says_no c.sound_state.result (ap not c.if-not-sound_state.true) c.sound_state.ensures) c.args.list.now c.args.s c.args.sp

pub returns-then-not-writes_fit : goal.returns-then-not-writes_fit
returns-then-not-writes_fit c = store_remove-short _ (says_yes c.sound_state.result (ap not c.if-not-sound_state.false) c.sound_state.ensures) c.args.list.now c.args.s c.args.sp (says_no c.writes_fit.result (ap not c.if-not-writes_fit.true) c.writes_fit.ensures)

pub store_remove-requires : goal.store_remove-requires
store_remove-requires c = (says_yes c.sound_state.result (ap not c.if-not-sound_state.false) c.sound_state.ensures, says_yes c.writes_fit.result (ap not c.if-not-writes_fit.false) c.writes_fit.ensures)

pub returns : goal.returns
returns c = c.store_remove.ensures
