use Prim.Native.Nat.{◌-◌}
use Rattle.pool_range.specs.Lent.{seen}
use Rattle.shape_answer.specs.Lists.{tier_list_of}
use Rattle.rule_lookup.proofs.Turns.{Sees, Outer, Inner, Passing}
use Rattle.rule_lookup.proofs.lookup_resolved.Given as goal

abbrev pub invariant-loop-t : goal.invariant-loop-t
invariant-loop-t l = Passing (Sees l.depth (seen l.ranges) l.bytes l.records l.path_node l.path_len l.segs l.tiers) l.tiers l.v l.off l.z l.t

abbrev pub invariant-loop-off : goal.invariant-loop-off
invariant-loop-off l = Inner (Sees l.depth (seen l.ranges) l.bytes l.records l.path_node l.path_len l.segs l.tiers) l.tiers l.i l.v l.z (tier_list_of l.initial.span_tier l.initial.span_node l.initial.span_start l.initial.span_end) l.initial.spans l.initial.blocks l.initial.sums (tier_list_of l.span_tier l.span_node l.span_start l.span_end) l.spans l.blocks l.sums l.off

abbrev pub decreases-loop-off : goal.decreases-loop-off
decreases-loop-off l = l.z - l.off

abbrev pub invariant-segments : goal.invariant-segments
invariant-segments l = Outer (Sees l.depth (seen l.ranges) l.bytes l.records l.path_node l.path_len l.segs l.tiers) l.tiers (tier_list_of l.initial.span_tier l.initial.span_node l.initial.span_start l.initial.span_end) (tier_list_of l.span_tier l.span_node l.span_start l.span_end) l.spans l.blocks l.sums l.i
