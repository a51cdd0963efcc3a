-- `rule_cut_pins::cut_pins` meets its contract: entries that a cut leaves as they are are not touched; else the list is cut by value, and laid back over
-- the places that were used or are needed. Assumes nothing.
use Prim.Native.Nat.{◌+◌}
use Rattle.std.proofs.Common.{rules, ◌≡◌, sym, ap, subst, ◌∙◌, length}
use native.Mathlib.Omega.{arith}
use Rattle.model.specs.State.{Pins}
use Rattle.model.specs.Store.{pins, lay_pins}
use Rattle.model.specs.Insert.{cut_pins}
use Rattle.pool_pin.specs.Columns.{lent}
use Rattle.rule_cut_pins.specs.Entries.{pins_across_in, unmoved, Small}
use Rattle.rule_cut_pins.proofs.Fewer.{cut-few, small_cut, many, part_of}
use Rattle.rule_cut_pins.proofs.Staying.{left_alone}
use Rattle.rule_cut_pins.proofs.cut_pins.Goals as goal

pub returns-then-all_stay-clause-columns : goal.returns-then-all_stay-clause-columns
returns-then-all_stay-clause-columns c =
    let a = c.args in
    let old = lent a.part.now in
    let e = sym (ap (λ (x : Pins). unmoved a.j (pins x 0 a.n)) c.view-seen.ensures) ∙ sym c.all_stay.ensures ∙ c.if-all_stay.true in
    (left_alone a.j a.k a.m a.n old c.requires.2 c.requires.0 e).0

pub returns-then-all_stay-clause-entries : goal.returns-then-all_stay-clause-entries
returns-then-all_stay-clause-entries c =
    let a = c.args in
    let old = lent a.part.now in
    let e = sym (ap (λ (x : Pins). unmoved a.j (pins x 0 a.n)) c.view-seen.ensures) ∙ sym c.all_stay.ensures ∙ c.if-all_stay.true in
    (left_alone a.j a.k a.m a.n old c.requires.2 c.requires.0 e).1

pub cut_list-cut-requires : goal.cut_list-cut-requires
cut_list-cut-requires c =
    let a = c.args in
    let old = lent a.part.now in
    let s = c.requires.2 in
    let e = c.view-seen.ensures in
    let more = pins_across_in a.j a.k a.n old in (
      part_of a.n more c.requires.0 (ap (λ (x : Pins). length x.node) e ∙ s.node),
      part_of a.n more c.requires.0 (ap (λ (x : Pins). length x.start) e ∙ s.start),
      part_of a.n more c.requires.0 (ap (λ (x : Pins). length x.end) e ∙ s.end),
      part_of a.n more c.requires.0 (ap (λ (x : Pins). length x.count) e ∙ s.count),
      subst (λ (x : Pins). Small (cut_pins a.j a.k a.m (pins x 0 a.n))) (sym e) (small_cut a.j a.k a.m old a.n c.requires.0 c.requires.1),
    )

pub lay-requires : goal.lay-requires
lay-requires c =
    let a = c.args in
    let old = lent a.part.now in
    let e = sym c.view-seen.ensures in
    let across = c.pins_across-across.ensures old (ap (λ (x : Pins). x.node) e) (ap (λ (x : Pins). x.start) e) (ap (λ (x : Pins). x.end) e) in
    let cut = c.cut_list-cut.result in
    let long : length cut.list ≡ 32 = search rules in
    let list = c.cut_list-cut.ensures.list ∙ ap (λ (x : Pins). cut_pins a.j a.k a.m (pins x 0 a.n)) c.view-seen.ensures in
    let as-many : cut.n ≡ length (cut_pins a.j a.k a.m (pins old 0 a.n)) = many cut _ c.cut_list-cut.ensures.few long list in
    rw across (omega (arith, as-many, cut-few a.j a.k a.m old a.n), c.requires.0, c.requires.2)

pub returns-clause-columns : goal.returns-clause-columns
returns-clause-columns c =
    let a = c.args in
    let old = lent a.part.now in
    let e = sym c.view-seen.ensures in
    let across = c.pins_across-across.ensures old (ap (λ (x : Pins). x.node) e) (ap (λ (x : Pins). x.start) e) (ap (λ (x : Pins). x.end) e) in
    let list = c.cut_list-cut.ensures.list ∙ ap (λ (x : Pins). cut_pins a.j a.k a.m (pins x 0 a.n)) c.view-seen.ensures in
    c.lay.ensures.columns ∙ (λ i. lay_pins 0 (a.n + across i) (list i) old)

pub returns-clause-entries : goal.returns-clause-entries
returns-clause-entries c =
    let a = c.args in
    let cut = c.cut_list-cut.result in
    let long : length cut.list ≡ 32 = search rules in
    many cut _ c.cut_list-cut.ensures.few long (c.cut_list-cut.ensures.list ∙ ap (λ (x : Pins). cut_pins a.j a.k a.m (pins x 0 a.n)) c.view-seen.ensures)
