-- `call_touch::take_turns` meets its contract: each turn is the next of the list, and the first that is refused ends them. Assumes nothing.
use mathlib.Core.Path.{refl}
use lib.ListN.{take}
use Rattle.shape_state.specs.Lent.{ranges_of}
use Rattle.call_touch_span.specs.Turn.{books_with}
use Rattle.call_touch.proofs.Running.{running_start, running_at, running_next, running_stop, running_end}
use Rattle.call_touch.proofs.take_turns.Goals as goal

pub loop-sp-init : goal.loop-sp-init
loop-sp-init c =
    let a = c.args in
    (c.requires.0.starts.number, λ o x q. running_start o x (take a.count a.spans) a.depth.now a.bytes.now (ranges_of a.node.now a.start.now a.end.now a.id.now a.stamp.now a.touched.now a.write.now) a.marks.now a.s a.refreshes a.time a.counted a.y q)

pub one_turn-z-requires : goal.one_turn-z-requires
one_turn-z-requires c =
    let a = c.args in
    let l = c.loop-sp in
    let old = (ranges_of a.node.now a.start.now a.end.now a.id.now a.stamp.now a.touched.now a.write.now) in
    let now = (ranges_of l.node l.start l.end l.id l.stamp l.touched l.write) in
    let o = c.requires.0.others in
    let x = c.requires.0.books in
    let q = c.requires.0.starts in
    record { others = o; books = books_with a.s l.z x; ready = running_at o x (take a.count a.spans) a.depth.now a.bytes.now old a.marks.now a.s a.refreshes a.time a.counted a.y q l.sp-index now l.marks l.z (l.invariant.1 o x q) _ c.loop-sp-test.true refl }

pub returns-then-z-ne0 : goal.returns-then-z-ne0
returns-then-z-ne0 c =
    let a = c.args in
    let l = c.loop-sp in
    let old = (ranges_of a.node.now a.start.now a.end.now a.id.now a.stamp.now a.touched.now a.write.now) in
    let now = (ranges_of l.node l.start l.end l.id l.stamp l.touched l.write) in
    let k = c.one_turn-z in
    λ o x q. running_stop o x (take a.count a.spans) a.depth.now a.bytes.now old a.marks.now a.s a.refreshes a.time a.counted a.y q l.sp-index now l.marks l.z (l.invariant.1 o x q) _ c.loop-sp-test.true refl (ranges_of k.new.node k.new.start k.new.end k.new.id k.new.stamp k.new.touched k.new.write) k.new.marks k.result
    (k.ensures o (books_with a.s l.z x) (running_at o x (take a.count a.spans) a.depth.now a.bytes.now old a.marks.now a.s a.refreshes a.time a.counted a.y q l.sp-index now l.marks l.z (l.invariant.1 o x q) _ c.loop-sp-test.true refl)) c.if-z-ne0.true

pub loop-sp-preserved : goal.loop-sp-preserved
loop-sp-preserved c =
    let a = c.args in
    let l = c.loop-sp in
    let old = (ranges_of a.node.now a.start.now a.end.now a.id.now a.stamp.now a.touched.now a.write.now) in
    let now = (ranges_of l.node l.start l.end l.id l.stamp l.touched l.write) in
    let k = c.one_turn-z in (
      c.if-z-ne0.false,
      λ o x q. running_next o x (take a.count a.spans) a.depth.now a.bytes.now old a.marks.now a.s a.refreshes a.time a.counted a.y q l.sp-index now l.marks l.z (l.invariant.1 o x q) _ c.loop-sp-test.true refl (ranges_of k.new.node k.new.start k.new.end k.new.id k.new.stamp k.new.touched k.new.write) k.new.marks k.result
          (k.ensures o (books_with a.s l.z x) (running_at o x (take a.count a.spans) a.depth.now a.bytes.now old a.marks.now a.s a.refreshes a.time a.counted a.y q l.sp-index now l.marks l.z (l.invariant.1 o x q) _ c.loop-sp-test.true refl)) c.if-z-ne0.false,
    )

pub returns : goal.returns
returns c =
    let a = c.args in
    let l = c.loop-sp in
    let old = (ranges_of a.node.now a.start.now a.end.now a.id.now a.stamp.now a.touched.now a.write.now) in
    let now = (ranges_of l.node l.start l.end l.id l.stamp l.touched l.write) in
    λ o x q. running_end o x (take a.count a.spans) a.depth.now a.bytes.now old a.marks.now a.s a.refreshes a.time a.counted a.y q l.sp-index now l.marks l.z (l.invariant.1 o x q) c.loop-sp-test.false l.auto.sp-index-end l.invariant.0
