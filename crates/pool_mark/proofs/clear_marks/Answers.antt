-- `pool_mark::clear_marks` meets its contract: the places filled are those in front. Assumes nothing.
use Rattle.std.proofs.Common.{length-take-le, refl}
use Rattle.pool_mark.proofs.clear_marks.Goals as goal

pub returns : goal.returns
returns c = rw (c.fill.ensures.after (λ y e. e), length-take-le 2048 c.args.marks.now c.requires) refl
