-- `public_read::store_capacity_blocks` meets its contract: refused by 1, or what the inner call answers. Assumes nothing.
use mathlib.Core.Path.{refl}
use Rattle.theory_refuse.proofs.Says.{says_true, says_false}
use Rattle.public_read.proofs.Laws.{capacity-is}
use Rattle.theory_outcome.proofs.Gates.{capacity-unsound}
use Rattle.public_read.proofs.store_capacity_blocks.Goals as goal

pub returns-then-not-sound_state : goal.returns-then-not-sound_state
returns-then-not-sound_state c = capacity-unsound _ (says_false c.if-not-sound_state.true c.sound_state.ensures) c.args.s

pub store_capacity_blocks-requires : goal.store_capacity_blocks-requires
store_capacity_blocks-requires c = let h = says_true c.if-not-sound_state.false c.sound_state.ensures in
    (h.counts.stores, h.lent.books)

pub returns : goal.returns
returns c = capacity-is _ c.args.s (c.store_capacity_blocks.ensures _ (record { books = refl; sound = (says_true c.if-not-sound_state.false c.sound_state.ensures) }))
