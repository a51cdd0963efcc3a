-- `call_touch::first_refusal` meets its contract: up to the first bad span all are of the tree. Assumes nothing.
use Prim.Native.Nat.{ℕ}
use mathlib.Core.Path.{◌≡◌, refl, sym, ap, ◌∙◌}
use borrow.Author.Rules.{rules}
use lib.ListN.{length, take}
use Rattle.call_touch_span.specs.Turn.{first_number}
use Rattle.call_touch.proofs.Laws.{array_long}
use Rattle.call_touch.proofs.Running.{fine_none, fine_more, fine_not}
use Rattle.call_touch.proofs.first_refusal.Goals as goal

pub loop-sp-init : goal.loop-sp-init
loop-sp-init c = fine_none c.args.len.now c.args.nodes (take c.args.count c.args.spans)

pub returns-then-not-span_in : goal.returns-then-not-span_in
returns-then-not-span_in c =
    let a = c.args in
    let long : length a.spans ≡ 64 = search rules in
    fine_not a.len.now a.nodes (take a.count a.spans) c.loop-sp.sp-index c.span_in.result _ refl c.span_in.ensures c.loop-sp-test.true c.if-not-span_in.true _ _ _
    (c.first_number-first.ensures ∙ ap (λ (k : ℕ). first_number a.stores a.s k a.time) (sym (array_long a.spans a.count long c.requires.1))) c.four_first.ensures

pub loop-sp-preserved : goal.loop-sp-preserved
loop-sp-preserved c =
    fine_more c.args.len.now c.args.nodes (take c.args.count c.args.spans) c.loop-sp.sp-index c.span_in.result _ refl c.span_in.ensures c.if-not-span_in.false c.loop-sp.invariant
