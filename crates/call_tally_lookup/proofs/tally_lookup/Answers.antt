-- `call_tally_lookup::tally_lookup` meets its contract: 21 where `late` says so; else the plain call, and what its answer adds is added. Assumes nothing.
use mathlib.Core.Path.{ap}
use Rattle.shape_answer.specs.Lists.{path_list_of, tier_list_of, lists_of}
use Rattle.shape_answer.specs.Answers.{state_from, looked_of}
use Rattle.theory_refuse.proofs.Says.{says_true, says_false}
use Rattle.call_tally_lookup.proofs.Lookup.{looked-late, looked-fits, looked-low, looked-refused, looked-done}
use Rattle.call_tally_lookup.proofs.tally_lookup.Goals as goal

pub late-requires : goal.late-requires
late-requires c = (c.requires.0, c.requires.3)

pub returns-then-late : goal.returns-then-late
returns-then-late c =
    let a = c.args in
    let st = state_from a.parent.now a.depth.now a.len.now a.run.now a.words.now a.node.now a.start.now a.end.now a.id.now a.stamp.now a.touched.now a.write.now a.pin_node.now a.pin_start.now a.pin_end.now a.pin_count.now a.marks.now a.bytes.now a.books.now in
    let lent = lists_of (path_list_of a.path_node.now a.path_len.now) (tier_list_of a.span_tier.now a.span_node.now a.span_start.now a.span_end.now) in
    looked-late st a.tiers.now a.hashes.now lent a.sums.now c.requires.3 (says_true c.if-late.true (c.late.ensures lent c.requires.1 c.requires.2))

pub lookup-r-requires : goal.lookup-r-requires
lookup-r-requires c = (c.requires.0, c.requires.1, c.requires.2)

pub all_tiers-blocks-requires : goal.all_tiers-blocks-requires
all_tiers-blocks-requires c =
    let a = c.args in
    let r = c.lookup-r.new in
    let st = state_from a.parent.now a.depth.now a.len.now a.run.now a.words.now a.node.now a.start.now a.end.now a.id.now a.stamp.now a.touched.now a.write.now a.pin_node.now a.pin_start.now a.pin_end.now a.pin_count.now a.marks.now a.bytes.now a.books.now in
    let lent = lists_of (path_list_of a.path_node.now a.path_len.now) (tier_list_of a.span_tier.now a.span_node.now a.span_start.now a.span_end.now) in
    let left = lists_of (path_list_of r.path_node r.path_len) (tier_list_of r.span_tier r.span_node r.span_start r.span_end) in
    (looked-fits st a.tiers.now a.hashes.now lent left c.lookup-r.ensures c.in-Done.a (ap looked_of c.in-Done.is)).0

pub all_tiers-bytes-requires : goal.all_tiers-bytes-requires
all_tiers-bytes-requires c =
    let a = c.args in
    let r = c.lookup-r.new in
    let st = state_from a.parent.now a.depth.now a.len.now a.run.now a.words.now a.node.now a.start.now a.end.now a.id.now a.stamp.now a.touched.now a.write.now a.pin_node.now a.pin_start.now a.pin_end.now a.pin_count.now a.marks.now a.bytes.now a.books.now in
    let lent = lists_of (path_list_of a.path_node.now a.path_len.now) (tier_list_of a.span_tier.now a.span_node.now a.span_start.now a.span_end.now) in
    let left = lists_of (path_list_of r.path_node r.path_len) (tier_list_of r.span_tier r.span_node r.span_start r.span_end) in
    (looked-fits st a.tiers.now a.hashes.now lent left c.lookup-r.ensures c.in-Done.a (ap looked_of c.in-Done.is)).1

pub add_look-requires : goal.add_look-requires
add_look-requires c =
    let a = c.args in
    let r = c.lookup-r.new in
    let st = state_from a.parent.now a.depth.now a.len.now a.run.now a.words.now a.node.now a.start.now a.end.now a.id.now a.stamp.now a.touched.now a.write.now a.pin_node.now a.pin_start.now a.pin_end.now a.pin_count.now a.marks.now a.bytes.now a.books.now in
    let lent = lists_of (path_list_of a.path_node.now a.path_len.now) (tier_list_of a.span_tier.now a.span_node.now a.span_start.now a.span_end.now) in
    let left = lists_of (path_list_of r.path_node r.path_len) (tier_list_of r.span_tier r.span_node r.span_start r.span_end) in
    (c.requires.3, looked-low st a.tiers.now a.hashes.now lent left c.lookup-r.ensures a.sums.now (says_false c.if-late.false (c.late.ensures lent c.requires.1 c.requires.2)) c.in-Done.a c.all_tiers-blocks.result c.all_tiers-bytes.result (ap looked_of c.in-Done.is) c.all_tiers-blocks.ensures c.all_tiers-bytes.ensures)

pub returns-in-Refused : goal.returns-in-Refused
returns-in-Refused c =
    let a = c.args in
    let r = c.lookup-r.new in
    let st = state_from a.parent.now a.depth.now a.len.now a.run.now a.words.now a.node.now a.start.now a.end.now a.id.now a.stamp.now a.touched.now a.write.now a.pin_node.now a.pin_start.now a.pin_end.now a.pin_count.now a.marks.now a.bytes.now a.books.now in
    let lent = lists_of (path_list_of a.path_node.now a.path_len.now) (tier_list_of a.span_tier.now a.span_node.now a.span_start.now a.span_end.now) in
    let left = lists_of (path_list_of r.path_node r.path_len) (tier_list_of r.span_tier r.span_node r.span_start r.span_end) in
    looked-refused st a.tiers.now a.hashes.now lent left c.lookup-r.ensures a.sums.now c.requires.3 c.in-Refused.n (ap looked_of c.in-Refused.is)

pub returns-in-Done : goal.returns-in-Done
returns-in-Done c =
    let a = c.args in
    let r = c.lookup-r.new in
    let st = state_from a.parent.now a.depth.now a.len.now a.run.now a.words.now a.node.now a.start.now a.end.now a.id.now a.stamp.now a.touched.now a.write.now a.pin_node.now a.pin_start.now a.pin_end.now a.pin_count.now a.marks.now a.bytes.now a.books.now in
    let lent = lists_of (path_list_of a.path_node.now a.path_len.now) (tier_list_of a.span_tier.now a.span_node.now a.span_start.now a.span_end.now) in
    let left = lists_of (path_list_of r.path_node r.path_len) (tier_list_of r.span_tier r.span_node r.span_start r.span_end) in
    looked-done st a.tiers.now a.hashes.now lent left c.lookup-r.ensures a.sums.now (says_false c.if-late.false (c.late.ensures lent c.requires.1 c.requires.2)) c.requires.3 c.in-Done.a c.all_tiers-blocks.result c.all_tiers-bytes.result c.add_look.new.sums (ap looked_of c.in-Done.is) c.all_tiers-blocks.ensures c.all_tiers-bytes.ensures c.add_look.ensures
