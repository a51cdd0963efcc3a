-- `call_lookup::lookup` meets its contract: refused by 2 or 3, or what the walk along the resolved path answers. Assumes nothing.
use Rattle.model.specs.State.{used_in}
use Rattle.shape_answer.specs.Lists.{path_list_of, tier_list_of, lists_of}
use Rattle.shape_answer.specs.Answers.{state_from}
use Rattle.theory_refuse.proofs.Says.{says_true, says_false}
use Rattle.rule_resolve.proofs.Sound.{sound_walkable}
use Rattle.call_lookup.proofs.Records.{records-each}
use Rattle.call_lookup.proofs.Outcomes.{no_tier-is, many_hashes_is, many-tiers-is, looked-is, seen-is}
use Rattle.call_lookup.proofs.lookup.Goals as goal
use Rattle.call_lookup.proofs.lookup.Goals.{then-hashes-gt1024-via-then-hashes-gt1024, then-hashes-gt1024-via-else-hashes-gt1024+then-many_tiers}

pub returns-then-no_tier : goal.returns-then-no_tier
returns-then-no_tier c =
    let state = state_from c.args.parent.now c.args.depth.now c.args.len.now c.args.run.now c.args.words.now c.args.node.now c.args.start.now
    c.args.end.now c.args.id.now c.args.stamp.now c.args.touched.now c.args.write.now c.args.pin_node.now c.args.pin_start.now
    c.args.pin_end.now c.args.pin_count.now c.args.marks.now c.args.bytes.now c.args.books.now in
    let lent = lists_of (path_list_of c.args.path_node.now c.args.path_len.now) (tier_list_of c.args.span_tier.now c.args.span_node.now c.args.span_start.now c.args.span_end.now) in
    no_tier-is state lent c.args.tiers.now c.args.hashes.now c.requires.0 c.requires.1 c.requires.2 (says_true c.if-no_tier.true c.no_tier.ensures)

pub returns-then-hashes-gt1024 : goal.returns-then-hashes-gt1024
returns-then-hashes-gt1024 c =
    let state = state_from c.args.parent.now c.args.depth.now c.args.len.now c.args.run.now c.args.words.now c.args.node.now c.args.start.now
    c.args.end.now c.args.id.now c.args.stamp.now c.args.touched.now c.args.write.now c.args.pin_node.now c.args.pin_start.now
    c.args.pin_end.now c.args.pin_count.now c.args.marks.now c.args.bytes.now c.args.books.now in
    let lent = lists_of (path_list_of c.args.path_node.now c.args.path_len.now) (tier_list_of c.args.span_tier.now c.args.span_node.now c.args.span_start.now c.args.span_end.now) in
    let stores = says_false c.if-no_tier.false c.no_tier.ensures in
    elim c.then-hashes-gt1024.branch [
      | then-hashes-gt1024-via-then-hashes-gt1024 w ↦
          many_hashes_is state lent c.args.tiers.now c.args.hashes.now c.requires.0 c.requires.1 c.requires.2 stores w.if-hashes-gt1024.true
      | then-hashes-gt1024-via-else-hashes-gt1024+then-many_tiers w ↦
          many-tiers-is state lent c.args.tiers.now c.args.hashes.now c.requires.0 c.requires.1 c.requires.2 stores w.if-hashes-gt1024.false
          (says_true w.if-many_tiers.true w.many_tiers.ensures)
    ]

pub resolve-m-requires : goal.resolve-m-requires
resolve-m-requires c =
    let state = state_from c.args.parent.now c.args.depth.now c.args.len.now c.args.run.now c.args.words.now c.args.node.now c.args.start.now
    c.args.end.now c.args.id.now c.args.stamp.now c.args.touched.now c.args.write.now c.args.pin_node.now c.args.pin_start.now
    c.args.pin_end.now c.args.pin_count.now c.args.marks.now c.args.bytes.now c.args.books.now in
    record { by_index = (c.args.depth.now, used_in c.args.books.now, sound_walkable state c.requires.0); path_fits = c.requires.1 }

pub lookup_resolved-w-requires : goal.lookup_resolved-w-requires
lookup_resolved-w-requires c =
    let state = state_from c.args.parent.now c.args.depth.now c.args.len.now c.args.run.now c.args.words.now c.args.node.now c.args.start.now
    c.args.end.now c.args.id.now c.args.stamp.now c.args.touched.now c.args.write.now c.args.pin_node.now c.args.pin_start.now
    c.args.pin_end.now c.args.pin_count.now c.args.marks.now c.args.bytes.now c.args.books.now in
    let lent = lists_of (path_list_of c.args.path_node.now c.args.path_len.now) (tier_list_of c.args.span_tier.now c.args.span_node.now c.args.span_start.now c.args.span_end.now) in
    let r = c.resolve-m in record { by_index = (state, c.args.hashes.now, seen-is state c.args.tiers.now c.args.hashes.now lent.path (path_list_of r.new.path_node r.new.path_len) r.result c.requires.0 (says_false c.if-no_tier.false c.no_tier.ensures) c.if-hashes-gt1024.false (says_false c.if-many_tiers.false c.many_tiers.ensures) (r.ensures c.args.depth.now (used_in c.args.books.now)) (records-each c.args.books.now c.records_of-records.ensures)); tier_fits = c.requires.2 }

pub returns : goal.returns
returns c =
    let state = state_from c.args.parent.now c.args.depth.now c.args.len.now c.args.run.now c.args.words.now c.args.node.now c.args.start.now
    c.args.end.now c.args.id.now c.args.stamp.now c.args.touched.now c.args.write.now c.args.pin_node.now c.args.pin_start.now
    c.args.pin_end.now c.args.pin_count.now c.args.marks.now c.args.bytes.now c.args.books.now in
    let lent = lists_of (path_list_of c.args.path_node.now c.args.path_len.now) (tier_list_of c.args.span_tier.now c.args.span_node.now c.args.span_start.now c.args.span_end.now) in
    let r = c.resolve-m in
    let w = c.lookup_resolved-w in
    let path = path_list_of r.new.path_node r.new.path_len in
    let stores = says_false c.if-no_tier.false c.no_tier.ensures in
    let few = says_false c.if-many_tiers.false c.many_tiers.ensures in
    let found = r.ensures c.args.depth.now (used_in c.args.books.now) in
    looked-is state lent c.args.tiers.now c.args.hashes.now c.requires.0 c.requires.1 c.requires.2 stores path (tier_list_of w.new.span_tier w.new.span_node w.new.span_start w.new.span_end) r.result w.result c.each_tier.result c.each_tier-2.result c.if-hashes-gt1024.false few found
    (w.ensures state c.args.hashes.now (seen-is state c.args.tiers.now c.args.hashes.now lent.path path r.result c.requires.0 stores c.if-hashes-gt1024.false few found (records-each c.args.books.now c.records_of-records.ensures)))
    c.each_tier.ensures c.each_tier-2.ensures
