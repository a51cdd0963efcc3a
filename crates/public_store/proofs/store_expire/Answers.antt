-- `public_store::store_expire` meets its contract: refused by 1 or 14, or what the inner call answers. Assumes nothing.
use Rattle.theory_refuse.proofs.Says.{says_yes, says_no}
use Rattle.shape_answer.specs.Lists.{out_list}
use Rattle.theory_outcome.proofs.Gates.{store_expire-unsound, store_expire-short}
use Rattle.std.proofs.Common.{ap}
use mathlib.Core.Bool.{not}
use Rattle.public_store.proofs.store_expire.Goals as goal

pub returns-then-not-sound_state : goal.returns-then-not-sound_state
returns-then-not-sound_state c = store_expire-unsound _ (says_no c.sound_state.result (ap not c.if-not-sound_state.true) c.sound_state.ensures) (out_list c.args.out_node.now c.args.out_start.now c.args.out_end.now c.args.out_write.now c.args.out_bytes.now c.args.out_dead.now) c.args.s c.args.time c.args.seconds

pub returns-then-not-outs_fit : goal.returns-then-not-outs_fit
returns-then-not-outs_fit c = store_expire-short _ (says_yes c.sound_state.result (ap not c.if-not-sound_state.false) c.sound_state.ensures) (out_list c.args.out_node.now c.args.out_start.now c.args.out_end.now c.args.out_write.now c.args.out_bytes.now c.args.out_dead.now) c.args.s c.args.time c.args.seconds (says_no c.outs_fit.result (ap not c.if-not-outs_fit.true) c.outs_fit.ensures)

pub store_expire-requires : goal.store_expire-requires
store_expire-requires c = (says_yes c.sound_state.result (ap not c.if-not-sound_state.false) c.sound_state.ensures, says_yes c.outs_fit.result (ap not c.if-not-outs_fit.false) c.outs_fit.ensures)

pub returns : goal.returns
returns c = c.store_expire.ensures
