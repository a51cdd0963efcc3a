-- `rust_values::told::tell_sums` meets its contract: eight numbers over a part of the list. Assumes nothing.
use mathlib.Core.Path.{refl, sym, ◌∙◌}
use native.Mathlib.Omega.{arith}
use lib.Seq.{sets-eq}
use Rattle.std.proofs.lemmas.Slice.{put_mid-paste}
use Rattle.model.specs.Lookup.{sums_in}
use Rattle.rust_values.proofs.told.tell_sums.Goals as goal

pub returns : goal.returns
returns c = let vs = sums_in c.args.t in
    put_mid-paste _ _ _ _ vs 8 c.copy_from_slice.ensures.after (omega arith) refl
    ∙ sym (sets-eq vs c.args.answer.now c.args.at (omega (arith, c.requires, c.told-answer)))
