-- `public_tally::tally_insert` meets its contract: refused by 1 or 14, or what the inner call answers. Assumes nothing.
use Rattle.model_sums.specs.Tally.{summed}
use Rattle.theory_refuse.proofs.Says.{says_yes, says_no}
use Rattle.theory_sums.proofs.Gates.{tally_insert-unsound, tally_insert-short-sums, tally_insert-short}
use Rattle.shape_answer.specs.Lists.{out_list}
use Rattle.std.proofs.Common.{ap}
use mathlib.Core.Bool.{not}
use Rattle.public_tally.proofs.tally_insert.Goals as goal

pub returns-then-not-sound_state : goal.returns-then-not-sound_state
returns-then-not-sound_state c = tally_insert-unsound _ (says_no c.sound_state.result (ap not c.if-not-sound_state.true) c.sound_state.ensures) (summed (out_list c.args.out_node.now c.args.out_start.now c.args.out_end.now c.args.out_write.now c.args.out_bytes.now c.args.out_dead.now) c.args.sums.now) c.args.s c.args.sp c.args.time c.args.w

pub returns-then-sums-lt59 : goal.returns-then-sums-lt59
returns-then-sums-lt59 c = tally_insert-short-sums _ (says_yes c.sound_state.result (ap not c.if-not-sound_state.false) c.sound_state.ensures) (summed (out_list c.args.out_node.now c.args.out_start.now c.args.out_end.now c.args.out_write.now c.args.out_bytes.now c.args.out_dead.now) c.args.sums.now) c.args.s c.args.sp c.args.time c.args.w c.if-sums-lt59.true

pub returns-then-not-outs_fit : goal.returns-then-not-outs_fit
returns-then-not-outs_fit c = tally_insert-short _ (says_yes c.sound_state.result (ap not c.if-not-sound_state.false) c.sound_state.ensures) (summed (out_list c.args.out_node.now c.args.out_start.now c.args.out_end.now c.args.out_write.now c.args.out_bytes.now c.args.out_dead.now) c.args.sums.now) c.args.s c.args.sp c.args.time c.args.w c.if-sums-lt59.false (says_no c.outs_fit.result (ap not c.if-not-outs_fit.true) c.outs_fit.ensures)

pub tally_insert-requires : goal.tally_insert-requires
tally_insert-requires c = (says_yes c.sound_state.result (ap not c.if-not-sound_state.false) c.sound_state.ensures, says_yes c.outs_fit.result (ap not c.if-not-outs_fit.false) c.outs_fit.ensures, c.if-sums-lt59.false)

pub returns : goal.returns
returns c = c.tally_insert.ensures
