-- `public_store::store_insert` meets its contract: refused by 1 or 14, or what the inner call answers. Assumes nothing.
use Rattle.theory_refuse.proofs.Says.{says_yes, says_no}
use Rattle.shape_answer.specs.Lists.{out_list}
use Rattle.theory_outcome.proofs.Gates.{store_insert-unsound, store_insert-short}
use Rattle.std.proofs.Common.{ap}
use mathlib.Core.Bool.{not}
use Rattle.public_store.proofs.store_insert.Goals as goal

pub returns-then-not-sound_state : goal.returns-then-not-sound_state
returns-then-not-sound_state c = store_insert-unsound _ (says_no c.sound_state.result (ap not c.if-not-sound_state.true) c.sound_state.ensures) (out_list c.args.out_node.now c.args.out_start.now c.args.out_end.now c.args.out_write.now c.args.out_bytes.now c.args.out_dead.now) c.args.s c.args.sp c.args.time c.args.w

pub returns-then-not-outs_fit : goal.returns-then-not-outs_fit
returns-then-not-outs_fit c = store_insert-short _ (says_yes c.sound_state.result (ap not c.if-not-sound_state.false) c.sound_state.ensures) (out_list c.args.out_node.now c.args.out_start.now c.args.out_end.now c.args.out_write.now c.args.out_bytes.now c.args.out_dead.now) c.args.s c.args.sp c.args.time c.args.w (says_no c.outs_fit.result (ap not c.if-not-outs_fit.true) c.outs_fit.ensures)

pub store_insert-requires : goal.store_insert-requires
store_insert-requires c = (says_yes c.sound_state.result (ap not c.if-not-sound_state.false) c.sound_state.ensures, says_yes c.outs_fit.result (ap not c.if-not-outs_fit.false) c.outs_fit.ensures)

pub returns : goal.returns
returns c = c.store_insert.ensures
