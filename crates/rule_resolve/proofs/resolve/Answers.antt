-- `rule_resolve::resolve` meets its contract: at each turn the segments written and those that the definition still has to find are together the path, and that path
-- has no more segments than the lists have places.
use mathlib.Core.Path.{refl}
use native.Mathlib.Omega.{arith}
use Rattle.rule_resolve.proofs.Walk.{walk_start, walk-on, walk-part, walk_end, next-none, next-nothing, entered}
use borrow.Author.Rules.{rules}
use Rattle.rule_resolve.proofs.resolve.Goals as goal

pub loop-pos-init : goal.loop-pos-init
loop-pos-init c = (refl, refl, λ depth used. walk_start _ _ _)

pub matched-m-requires : goal.matched-m-requires
matched-m-requires c =
    let p = c.requires.by_index in
    ((entered p.2 c.requires.path_fits c.loop-pos-test.true (c.in-Some.ensures _ _ _) (c.loop-pos.invariant.2 p.0 p.1)).0, c.loop-pos-test.true)

pub offset_bounds-path_node-segs : goal.offset_bounds-path_node-segs
offset_bounds-path_node-segs c =
    let p = c.requires.by_index in
    let h = entered p.2 c.requires.path_fits c.loop-pos-test.true (c.in-Some.ensures _ _ _) (c.loop-pos.invariant.2 p.0 p.1) in
    search rules

pub bounds-path_node-segs : goal.bounds-path_node-segs
bounds-path_node-segs c =
    let p = c.requires.by_index in
    let h = entered p.2 c.requires.path_fits c.loop-pos-test.true (c.in-Some.ensures _ _ _) (c.loop-pos.invariant.2 p.0 p.1) in
    search rules

pub offset_bounds-path_len-segs : goal.offset_bounds-path_len-segs
offset_bounds-path_len-segs c =
    let p = c.requires.by_index in
    let h = entered p.2 c.requires.path_fits c.loop-pos-test.true (c.in-Some.ensures _ _ _) (c.loop-pos.invariant.2 p.0 p.1) in
    search rules

pub bounds-path_len-segs : goal.bounds-path_len-segs
bounds-path_len-segs c =
    let p = c.requires.by_index in
    let h = entered p.2 c.requires.path_fits c.loop-pos-test.true (c.in-Some.ensures _ _ _) (c.loop-pos.invariant.2 p.0 p.1) in
    search rules

pub overflow_add-segs : goal.overflow_add-segs
overflow_add-segs c =
    let p = c.requires.by_index in
    let h = entered p.2 c.requires.path_fits c.loop-pos-test.true (c.in-Some.ensures _ _ _) (c.loop-pos.invariant.2 p.0 p.1) in
    search rules

pub loop-pos-preserved : goal.loop-pos-preserved
loop-pos-preserved c =
    let p = c.requires.by_index in
    let h = entered p.2 c.requires.path_fits c.loop-pos-test.true (c.in-Some.ensures _ _ _) (c.loop-pos.invariant.2 p.0 p.1) in
    (search rules, search rules, λ depth used. walk-on (c.loop-pos.invariant.2 depth used) (c.in-Some.ensures _ _ _) c.loop-pos-test.true (c.matched-m.ensures.by_index _ _ _ _) c.matched-m.ensures.within.0 h.1 h.2 c.matched-m.ensures.within.1 (omega arith))

pub returns-after-loop-pos : goal.returns-after-loop-pos
returns-after-loop-pos c = λ depth used. walk_end (rw (next-none _ _ _ _ c.loop-pos-test.false) at (c.loop-pos.invariant.2 depth used))

pub returns-in_default : goal.returns-in_default
returns-in_default c = λ depth used.
    walk_end (rw (next-nothing _ _ _ _ c.loop-pos-test.true (c.in_default.ensures depth c.args.len.now used)) at (c.loop-pos.invariant.2 depth used))

pub returns-then-m-len : goal.returns-then-m-len
returns-then-m-len c =
    let p = c.requires.by_index in
    let h = entered p.2 c.requires.path_fits c.loop-pos-test.true (c.in-Some.ensures _ _ _) (c.loop-pos.invariant.2 p.0 p.1) in
    λ depth used. walk-part (c.loop-pos.invariant.2 depth used) (c.in-Some.ensures _ _ _) c.loop-pos-test.true (c.matched-m.ensures.by_index _ _ _ _) c.matched-m.ensures.within.0 h.1 h.2 (omega arith)
