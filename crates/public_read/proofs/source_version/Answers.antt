-- `public_read::source_version` meets its contract: refused by 1, or what the inner call answers. Assumes nothing.
use mathlib.Core.Path.{refl}
use Rattle.theory_refuse.proofs.Says.{says_true, says_false}
use Rattle.public_read.proofs.Laws.{version-is}
use Rattle.theory_outcome.proofs.Gates.{version-unsound}
use Rattle.public_read.proofs.source_version.Goals as goal

pub returns-then-not-sound_state : goal.returns-then-not-sound_state
returns-then-not-sound_state c = version-unsound _ (says_false c.if-not-sound_state.true c.sound_state.ensures) c.args.s

pub source_version-requires : goal.source_version-requires
source_version-requires c = let h = says_true c.if-not-sound_state.false c.sound_state.ensures in
    (h.counts.stores, h.lent.books)

pub returns : goal.returns
returns c = version-is _ c.args.s (c.source_version.ensures _ (record { books = refl; sound = (says_true c.if-not-sound_state.false c.sound_state.ensures) }))
