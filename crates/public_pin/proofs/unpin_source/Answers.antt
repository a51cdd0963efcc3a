-- `public_pin::unpin_source` meets its contract: refused by 1, or what the inner call answers. Assumes nothing.
use Rattle.theory_refuse.proofs.Says.{says_true, says_false}
use Rattle.theory_outcome.proofs.Gates.{unpin-unsound}
use Rattle.public_pin.proofs.unpin_source.Goals as goal

pub returns-then-not-sound_state : goal.returns-then-not-sound_state
returns-then-not-sound_state c = unpin-unsound _ (says_false c.if-not-sound_state.true c.sound_state.ensures) c.args.s c.args.sp

pub unpin_source-requires : goal.unpin_source-requires
unpin_source-requires c = says_true c.if-not-sound_state.false c.sound_state.ensures

-- must-fail/answer_left_open.edit reads this answer
pub returns : goal.returns
returns c = c.unpin_source.ensures
