-- `public_pin::pin_source` meets its contract: refused by 1, or what the inner call answers. Assumes nothing.
use Rattle.theory_refuse.proofs.Says.{says_true, says_false}
use Rattle.theory_outcome.proofs.Gates.{pin-unsound}
use Rattle.public_pin.proofs.pin_source.Goals as goal

pub returns-then-not-sound_state : goal.returns-then-not-sound_state
returns-then-not-sound_state c = pin-unsound _ (says_false c.if-not-sound_state.true c.sound_state.ensures) c.args.s c.args.sp

pub pin_source-requires : goal.pin_source-requires
pin_source-requires c = says_true c.if-not-sound_state.false c.sound_state.ensures
