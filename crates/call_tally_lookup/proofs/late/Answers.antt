-- `call_tally_lookup::late` meets its contract: far from the limit no lookup passes it; near it, a trial on lists of zeros tells. Assumes nothing.
use mathlib.Core.Path.{ap}
use Rattle.shape_answer.specs.Lists.{path_list_of, tier_list_of, lists_of}
use Rattle.shape_answer.specs.Answers.{state_from, looked_of}
use Rattle.theory_refuse.proofs.Says.{says_true}
use Rattle.theory_sums.proofs.Never.{lookup_never_passes}
use Rattle.call_tally_lookup.proofs.Lookup.{zeros, zeros-path, zeros-spans, looked-fits, trial_refused, trial_done}
use Rattle.call_tally_lookup.proofs.late.Goals as goal

pub far_over-requires : goal.far_over-requires
far_over-requires c = c.requires.1

pub returns-then-far_over : goal.returns-then-far_over
returns-then-far_over c =
    let a = c.args in
    let st = state_from a.parent.now a.depth.now a.len.now a.run.now a.words.now a.node.now a.start.now a.end.now a.id.now a.stamp.now a.touched.now a.write.now a.pin_node.now a.pin_start.now a.pin_end.now a.pin_count.now a.marks.now a.bytes.now a.books.now in
    λ l path spans. lookup_never_passes st a.sums.now l a.tiers.now a.hashes.now (says_true c.if-far_over.true c.far_over.ensures)

pub lookup-r-requires : goal.lookup-r-requires
lookup-r-requires c = (c.requires.0, zeros-path, zeros-spans)

pub all_tiers-blocks-requires : goal.all_tiers-blocks-requires
all_tiers-blocks-requires c =
    let a = c.args in
    let r = c.lookup-r.new in
    let st = state_from a.parent.now a.depth.now a.len.now a.run.now a.words.now a.node.now a.start.now a.end.now a.id.now a.stamp.now a.touched.now a.write.now a.pin_node.now a.pin_start.now a.pin_end.now a.pin_count.now a.marks.now a.bytes.now a.books.now in
    let left = lists_of (path_list_of r.path_node r.path_len) (tier_list_of r.span_tier r.span_node r.span_start r.span_end) in
    (looked-fits st a.tiers.now a.hashes.now zeros left c.lookup-r.ensures c.in-Done.a (ap looked_of c.in-Done.is)).0

pub all_tiers-bytes-requires : goal.all_tiers-bytes-requires
all_tiers-bytes-requires c =
    let a = c.args in
    let r = c.lookup-r.new in
    let st = state_from a.parent.now a.depth.now a.len.now a.run.now a.words.now a.node.now a.start.now a.end.now a.id.now a.stamp.now a.touched.now a.write.now a.pin_node.now a.pin_start.now a.pin_end.now a.pin_count.now a.marks.now a.bytes.now a.books.now in
    let left = lists_of (path_list_of r.path_node r.path_len) (tier_list_of r.span_tier r.span_node r.span_start r.span_end) in
    (looked-fits st a.tiers.now a.hashes.now zeros left c.lookup-r.ensures c.in-Done.a (ap looked_of c.in-Done.is)).1

pub look_passes-requires : goal.look_passes-requires
look_passes-requires c = c.requires.1

pub returns-in-Refused : goal.returns-in-Refused
returns-in-Refused c =
    let a = c.args in
    let r = c.lookup-r.new in
    let st = state_from a.parent.now a.depth.now a.len.now a.run.now a.words.now a.node.now a.start.now a.end.now a.id.now a.stamp.now a.touched.now a.write.now a.pin_node.now a.pin_start.now a.pin_end.now a.pin_count.now a.marks.now a.bytes.now a.books.now in
    let left = lists_of (path_list_of r.path_node r.path_len) (tier_list_of r.span_tier r.span_node r.span_start r.span_end) in
    λ l path spans. trial_refused st a.tiers.now a.hashes.now zeros left c.lookup-r.ensures a.sums.now l zeros-path zeros-spans path spans _ (ap looked_of c.in-Refused.is)

pub returns-in-Done : goal.returns-in-Done
returns-in-Done c =
    let a = c.args in
    let r = c.lookup-r.new in
    let st = state_from a.parent.now a.depth.now a.len.now a.run.now a.words.now a.node.now a.start.now a.end.now a.id.now a.stamp.now a.touched.now a.write.now a.pin_node.now a.pin_start.now a.pin_end.now a.pin_count.now a.marks.now a.bytes.now a.books.now in
    let left = lists_of (path_list_of r.path_node r.path_len) (tier_list_of r.span_tier r.span_node r.span_start r.span_end) in
    λ l path spans. trial_done st a.tiers.now a.hashes.now zeros left c.lookup-r.ensures a.sums.now l zeros-path zeros-spans path spans c.in-Done.a c.all_tiers-blocks.result c.all_tiers-bytes.result c.look_passes.result (ap looked_of c.in-Done.is) c.all_tiers-blocks.ensures c.all_tiers-bytes.ensures c.look_passes.ensures
