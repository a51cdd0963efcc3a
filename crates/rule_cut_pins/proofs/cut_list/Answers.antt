-- `rule_cut_pins::cut_list` meets its contract, by the law of `Cutting`. Assumes nothing.
use Prim.Native.Nat.{◌-◌}
use mathlib.Core.Path.{ap}
use native.Mathlib.Omega.{arith}
use Rattle.model.specs.declared.Span.{Span}
use Rattle.model.specs.State.{at}
use Rattle.model.specs.Pins.{pin_of}
use Rattle.shape_state.specs.Pins.{pinned}
use Rattle.rule_cut_pins.specs.Entries.{pins_in}
use Rattle.rule_cut_pins.proofs.Fewer.{cut-start, pieces-small, cut-turn, cut-end}
use Rattle.rule_cut_pins.proofs.cut_list.Goals as goal

pub loop-i-init : goal.loop-i-init
loop-i-init c = record { few = omega arith; cutting = cut-start }

pub add_pieces-requires : goal.add_pieces-requires
add_pieces-requires c =
    let a = c.args in
    let o = c.loop-i.invariant in
    let k = at a.part.count.now (c.loop-i.i - 1) in
    (o.few, pieces-small a.j a.k a.m (pinned a.part) a.n c.requires.4 (pins_in c.loop-i.cut) c.loop-i.i o.cutting c.loop-i-test.true (pin_of c.span_at.result k) (ap (λ (s : Span). pin_of s k) c.span_at.ensures))

pub loop-i-preserved : goal.loop-i-preserved
loop-i-preserved c =
    let a = c.args in
    let o = c.loop-i.invariant in
    let k = at a.part.count.now (c.loop-i.i - 1) in
    record {
      few = c.add_pieces.ensures.few;
      cutting =
          cut-turn a.j a.k a.m (pinned a.part) a.n c.requires.4 (pins_in c.loop-i.cut) c.loop-i.i o.cutting c.loop-i-test.true
          (pin_of c.span_at.result k) (ap (λ (s : Span). pin_of s k) c.span_at.ensures) (pins_in c.add_pieces.new.self) c.add_pieces.ensures.list;
    }

pub returns-clause-list : goal.returns-clause-list
returns-clause-list c = let a = c.args in
    cut-end a.j a.k a.m (pinned a.part) a.n c.requires.4 (pins_in c.loop-i.cut) c.loop-i.i c.loop-i.invariant.cutting c.loop-i-test.false
