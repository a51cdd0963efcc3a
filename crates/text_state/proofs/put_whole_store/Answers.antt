-- `text_state::put_whole_store`: a sound state has the records and entries of a store where they are read. Assumes nothing.
use Rattle.std.proofs.Common.{rules, arith}
use Rattle.text_state.proofs.Laws.{record_spots, pin_spots}
use Rattle.text_state.proofs.put_whole_store.Goals as goal

pub put_records-requires : goal.put_records-requires
put_records-requires g c = let h = c.requires.0 in
    let n = h.counts.each c.args.s (omega arith) c.requires.1 in
    rw c.book_of-own.ensures (search rules, (record_spots _ h c.args.s c.requires.1, omega (arith, c.requires.1, h.counts.stores), n.records, h.lent.ranges.id, h.lent.ranges.stamp, h.lent.ranges.touched, h.lent.ranges.write, omega (arith, c.put_store.ensures.high, c.requires.2)))

pub put_pins-requires : goal.put_pins-requires
put_pins-requires g c = let h = c.requires.0 in
    let n = h.counts.each c.args.s (omega arith) c.requires.1 in
    rw c.book_of-own.ensures (search rules, (pin_spots _ h c.args.s c.requires.1, omega (arith, c.requires.1, h.counts.stores), n.entries, h.lent.pins.count, omega (arith, c.put_store.ensures.high, c.put_records.ensures.high, c.requires.2)))
