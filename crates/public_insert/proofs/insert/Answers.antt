-- `public_insert::insert` meets its contract: refused by 1 or 14, or what the inner call answers. Assumes nothing.
use Rattle.theory_refuse.proofs.Says.{says_yes, says_no}
use Rattle.shape_answer.specs.Lists.{path_list_of}
use Rattle.theory_outcome.proofs.Gates.{insert-unsound, insert-short}
use Rattle.std.proofs.Common.{ap}
use mathlib.Core.Bool.{not}
use Rattle.public_insert.proofs.insert.Goals as goal

pub returns-then-not-sound_state : goal.returns-then-not-sound_state
returns-then-not-sound_state c = insert-unsound _ (says_no c.sound_state.result (ap not c.if-not-sound_state.true) c.sound_state.ensures) (path_list_of c.args.path_node.now c.args.path_len.now) c.args.hashes.now

pub returns-then-not-path_fits : goal.returns-then-not-path_fits
returns-then-not-path_fits c = insert-short _ (says_yes c.sound_state.result (ap not c.if-not-sound_state.false) c.sound_state.ensures) (path_list_of c.args.path_node.now c.args.path_len.now) c.args.hashes.now (says_no c.path_fits.result (ap not c.if-not-path_fits.true) c.path_fits.ensures)

pub insert-requires : goal.insert-requires
insert-requires c = (says_yes c.sound_state.result (ap not c.if-not-sound_state.false) c.sound_state.ensures, says_yes c.path_fits.result (ap not c.if-not-path_fits.false) c.path_fits.ensures)

pub returns : goal.returns
returns c = c.insert.ensures
