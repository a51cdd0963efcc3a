-- `rule_lookup::lookup_resolved` meets its contract: at each offset the spans written and those that the definition still has to find are together the lookup. Assumes nothing.
use Prim.Native.Nat.{◌≤◌}
use mathlib.Core.Path.{◌≡◌, ap}
use native.Mathlib.Omega.{arith}
use Rattle.rule_lookup.proofs.Seen.{seg-at, span-priced, price_few}
use Rattle.model.specs.State.{at}
use Rattle.pool_range.specs.Lent.{seen}
use Rattle.shape_answer.specs.Lists.{tier_list_of}
use Rattle.rule_lookup.proofs.Turns.{Sees, Holding, Missing, Turn, outer_start, outer_turn, outer_end, inner_start, inner_turn, pass_more, pass_end, stops, taken_turn}
use Rattle.rule_lookup.proofs.lookup_resolved.Goals.{Left-loop-t, then-loop-t-test+in-Some, else-loop-t-test}
use Rattle.rule_lookup.proofs.lookup_resolved.Goals as goal

-- behind the loop over tiers: where its answer reaches past the offset a tier holds it up to there, and no tier does where it is the offset
held_turn : (c : Left-loop-t) → (c.loop-t-test.t.1 ≡ c.loop-off.off → ⊥)
    → Holding (Sees c.args.depth.now (seen c.args.ranges) c.args.bytes.now c.args.records c.args.path_node.now c.args.path_len.now c.args.segs c.args.tiers.now) c.args.tiers.now (at c.args.path_node.now c.segments.i) c.loop-off.off (at c.args.path_len.now c.segments.i) c.loop-t-test.t.0 c.loop-t-test.t.1
    × Turn (tier_list_of c.loop-off.span_tier c.loop-off.span_node c.loop-off.span_start c.loop-off.span_end) c.loop-off.spans c.loop-off.blocks c.loop-off.sums c.loop-off.off c.loop-t-test.t.0 c.loop-t-test.t.1
held_turn c past =
    elim c.loop-t-test.branch [
      | then-loop-t-test+in-Some w ↦ rw w.t-is (taken_turn c.requires.by_index c.requires.tier_fits c.segments.invariant c.segments-test.true c.loop-off.invariant c.loop-off-test.true c.loop-t.invariant w.loop-t-test.true w.in-Some.ensures w.min.ensures)
      | else-loop-t-test w ↦ absurd (past (ap (λ x. x.1) w.t-is))
    ]

missed : (c : Left-loop-t) → c.loop-t-test.t.1 ≤ c.loop-off.off
    → Missing (Sees c.args.depth.now (seen c.args.ranges) c.args.bytes.now c.args.records c.args.path_node.now c.args.path_len.now c.args.segs c.args.tiers.now) c.args.tiers.now (at c.args.path_node.now c.segments.i) c.loop-off.off (at c.args.path_len.now c.segments.i)
missed c short =
    elim c.loop-t-test.branch [
      | then-loop-t-test+in-Some w ↦
          let q = taken_turn c.requires.by_index c.requires.tier_fits c.segments.invariant c.segments-test.true c.loop-off.invariant c.loop-off-test.true c.loop-t.invariant w.loop-t-test.true w.in-Some.ensures w.min.ensures in
          absurd (omega (arith, q.0.past, short, ap (λ x. x.1) w.t-is))
      | else-loop-t-test w ↦ pass_end c.loop-t.invariant w.loop-t-test.false
    ]

pub segments-init : goal.segments-init
segments-init c = outer_start _ _ _

pub loop-off-init : goal.loop-off-init
loop-off-init c = inner_start c.segments-test.true

pub loop-t-preserved : goal.loop-t-preserved
loop-t-preserved c = pass_more c.range_end.result c.loop-t.invariant c.loop-t-test.true c.range_end.ensures c.in_default.is

pub overflow_sub-blocks : goal.overflow_sub-blocks
overflow_sub-blocks c =
    let q = held_turn (goal.at.overflow_sub-blocks c).Left-loop-t (λ e. omega (arith, e, c.if-upto-off.false)) in
    omega (arith, q.0.past)

pub overflow_add-blocks : goal.overflow_add-blocks
overflow_add-blocks c =
    let q = held_turn (goal.at.overflow_add-blocks c).Left-loop-t (λ e. omega (arith, e, c.if-upto-off.false)) in
    omega (arith, q.1.covered, q.1.span)

pub span_bytes-requires : goal.span_bytes-requires
span_bytes-requires c =
    let q = held_turn (goal.at.span_bytes-requires c).Left-loop-t (λ e. omega (arith, e, c.if-upto-off.false)) in
    let p = c.requires.by_index in
    let s = seg-at p.2 c.segments.i c.segments-test.true in
    span-priced p.2 _ _ _ _ s.node s.ends (omega (arith, q.0.past)) q.0.within

pub overflow_add-sums : goal.overflow_add-sums
overflow_add-sums c =
    let q = held_turn (goal.at.overflow_add-sums c).Left-loop-t (λ e. omega (arith, e, c.if-upto-off.false)) in
    let p = c.requires.by_index in
    let s = seg-at p.2 c.segments.i c.segments-test.true in
    let k : c.loop-off.off ≤ c.loop-t-test.t.1 = omega (arith, q.0.past) in
    omega (arith, q.1.bytes, price_few p.2 _ _ _ _ s.node s.ends k q.0.within c.span_bytes.result c.span_bytes.ensures)

pub offset_bounds-span_tier-spans : goal.offset_bounds-span_tier-spans
offset_bounds-span_tier-spans c =
    let q = held_turn (goal.at.offset_bounds-span_tier-spans c).Left-loop-t (λ e. omega (arith, e, c.if-upto-off.false)) in
    omega (arith, q.1.few)

pub bounds-span_tier-spans : goal.bounds-span_tier-spans
bounds-span_tier-spans c =
    let q = held_turn (goal.at.bounds-span_tier-spans c).Left-loop-t (λ e. omega (arith, e, c.if-upto-off.false)) in
    q.1.room.tier

pub offset_bounds-span_node-spans : goal.offset_bounds-span_node-spans
offset_bounds-span_node-spans c =
    let q = held_turn (goal.at.offset_bounds-span_node-spans c).Left-loop-t (λ e. omega (arith, e, c.if-upto-off.false)) in
    omega (arith, q.1.few)

pub bounds-span_node-spans : goal.bounds-span_node-spans
bounds-span_node-spans c =
    let q = held_turn (goal.at.bounds-span_node-spans c).Left-loop-t (λ e. omega (arith, e, c.if-upto-off.false)) in
    q.1.room.node

pub offset_bounds-span_start-spans : goal.offset_bounds-span_start-spans
offset_bounds-span_start-spans c =
    let q = held_turn (goal.at.offset_bounds-span_start-spans c).Left-loop-t (λ e. omega (arith, e, c.if-upto-off.false)) in
    omega (arith, q.1.few)

pub bounds-span_start-spans : goal.bounds-span_start-spans
bounds-span_start-spans c =
    let q = held_turn (goal.at.bounds-span_start-spans c).Left-loop-t (λ e. omega (arith, e, c.if-upto-off.false)) in
    q.1.room.start

pub offset_bounds-span_end-spans : goal.offset_bounds-span_end-spans
offset_bounds-span_end-spans c =
    let q = held_turn (goal.at.offset_bounds-span_end-spans c).Left-loop-t (λ e. omega (arith, e, c.if-upto-off.false)) in
    omega (arith, q.1.few)

pub bounds-span_end-spans : goal.bounds-span_end-spans
bounds-span_end-spans c =
    let q = held_turn (goal.at.bounds-span_end-spans c).Left-loop-t (λ e. omega (arith, e, c.if-upto-off.false)) in
    q.1.room.end

pub overflow_add-spans : goal.overflow_add-spans
overflow_add-spans c =
    let q = held_turn (goal.at.overflow_add-spans c).Left-loop-t (λ e. omega (arith, e, c.if-upto-off.false)) in
    omega (arith, q.1.few)

pub loop-off-smaller : goal.loop-off-smaller
loop-off-smaller c =
    let q = held_turn (goal.at.loop-off-smaller c).Left-loop-t (λ e. omega (arith, e, c.if-upto-off.false)) in
    omega (arith, q.0.past, q.0.within)

pub loop-off-preserved : goal.loop-off-preserved
loop-off-preserved c =
    let q = held_turn (goal.at.loop-off-preserved c).Left-loop-t (λ e. omega (arith, e, c.if-upto-off.false)) in
    inner_turn c.segments-test.true c.loop-off.invariant c.loop-off-test.true q.0 q.1.room c.span_bytes.ensures

pub segments-preserved : goal.segments-preserved
segments-preserved c = outer_turn c.segments.invariant c.loop-off.invariant c.loop-off-test.false

pub returns-after-segments : goal.returns-after-segments
returns-after-segments c = outer_end c.segments.invariant c.segments-test.false

pub returns-then-upto-off : goal.returns-then-upto-off
returns-then-upto-off c = stops c.segments.invariant c.loop-off.invariant c.loop-off-test.true (missed (goal.at.returns-then-upto-off c).Left-loop-t (omega (arith, c.if-upto-off.true)))
