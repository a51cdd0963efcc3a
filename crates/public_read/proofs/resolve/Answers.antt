-- `public_read::resolve` meets its contract: refused by 1 or 14, or what the inner call answers. Assumes nothing.
use Rattle.theory_refuse.proofs.Says.{says_true, says_false}
use Rattle.theory_outcome.proofs.Gates.{resolve-unsound, resolve-short}
use Rattle.shape_answer.specs.Lists.{path_list_of}
use Rattle.public_read.proofs.resolve.Goals as goal

pub returns-then-not-sound_state : goal.returns-then-not-sound_state
returns-then-not-sound_state c = resolve-unsound _ (says_false c.if-not-sound_state.true c.sound_state.ensures) (path_list_of c.args.path_node.now c.args.path_len.now) c.args.hashes.now

pub returns-then-not-path_fits : goal.returns-then-not-path_fits
returns-then-not-path_fits c = resolve-short _ (says_true c.if-not-sound_state.false c.sound_state.ensures) (path_list_of c.args.path_node.now c.args.path_len.now) c.args.hashes.now (says_false c.if-not-path_fits.true c.path_fits.ensures)

pub resolve-requires : goal.resolve-requires
resolve-requires c = ((says_true c.if-not-sound_state.false c.sound_state.ensures), (says_true c.if-not-path_fits.false c.path_fits.ensures))
