-- `public_read::store_available_for_stage` meets its contract: refused by 1, or what the inner call answers. Assumes nothing.
use mathlib.Core.Path.{refl}
use Rattle.theory_refuse.proofs.Says.{says_true, says_false}
use Rattle.public_read.proofs.Laws.{available_is}
use Rattle.theory_outcome.proofs.Gates.{available_unsound}
use Rattle.public_read.proofs.store_available_for_stage.Goals as goal

pub returns-then-not-sound_state : goal.returns-then-not-sound_state
returns-then-not-sound_state c = available_unsound _ (says_false c.if-not-sound_state.true c.sound_state.ensures) c.args.s

pub store_available_for_stage-requires : goal.store_available_for_stage-requires
store_available_for_stage-requires c = let h = says_true c.if-not-sound_state.false c.sound_state.ensures in
    (h.counts.stores, h.lent.books)

pub returns : goal.returns
returns c = available_is _ c.args.s (c.store_available_for_stage.ensures _ (record { books = refl; sound = (says_true c.if-not-sound_state.false c.sound_state.ensures) }))
