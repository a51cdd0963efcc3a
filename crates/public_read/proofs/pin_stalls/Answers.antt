-- `public_read::pin_stalls` meets its contract: refused by 1, or what the inner call answers. Assumes nothing.
use mathlib.Core.Path.{refl}
use Rattle.theory_refuse.proofs.Says.{says_true, says_false}
use Rattle.public_read.proofs.Laws.{stalls-is}
use Rattle.theory_outcome.proofs.Gates.{stalls-unsound}
use Rattle.public_read.proofs.pin_stalls.Goals as goal

pub returns-then-not-sound_state : goal.returns-then-not-sound_state
returns-then-not-sound_state c = stalls-unsound _ (says_false c.if-not-sound_state.true c.sound_state.ensures)

pub pin_stalls-requires : goal.pin_stalls-requires
pin_stalls-requires c = (says_true c.if-not-sound_state.false c.sound_state.ensures).lent.books

pub returns : goal.returns
returns c = stalls-is _ (c.pin_stalls.ensures _ (record { books = refl; sound = (says_true c.if-not-sound_state.false c.sound_state.ensures) }))
