-- `rule_overlap::remove_need` meets its contract: of the overlapped records only the first can reach past both ends of the span.
use mathlib.Core.Path.{◌≡◌, refl, ◌∙◌}
use mathlib.Core.Bool.{◌&&◌}
use lib.Dec.{ltb}
use borrow.Author.Tests.{le-ltb, lt-ltb}
use Rattle.model.specs.State.{at}
use Rattle.rule_overlap.proofs.Laws.{cut-both, byte-plus, and-then, and-else}
use Rattle.rule_overlap.proofs.remove_need.Goals.{then-lo-n, else-lo-n, then-ranges-lo, else-ranges-lo}
use Rattle.rule_overlap.proofs.remove_need.Goals as goal

pub returns : goal.returns
returns c =
    let lo = c.first_overlap-lo.result in
    let head : c.if-lo-n.value ≡ (ltb lo c.args.n && ltb (at c.args.ranges.start.now lo) c.args.sp.start) = elim c.if-lo-n.branch [
      | then-lo-n w ↦ and-then refl (lt-ltb _ _ w.if-lo-n.true) w.value-is
      | else-lo-n w ↦ and-else _ refl (le-ltb _ _ w.if-lo-n.false) w.value-is
    ] in
    cut-both _ _ _ _ _ _ _ _ c.requires c.first_overlap-lo.ensures (elim c.if-ranges-lo.branch [
      | then-ranges-lo w ↦ and-then head w.if-ranges-lo.true w.from-is
      | else-ranges-lo w ↦ and-else _ head w.if-ranges-lo.false w.from-is
    ]) (c.from.ensures ∙ byte-plus _)
