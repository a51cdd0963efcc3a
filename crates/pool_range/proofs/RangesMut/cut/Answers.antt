-- `pool_range::RangesMut::cut` meets its contract. Each column is one call.
use lib.Ieee.{of_bits, of_fields}
use Rattle.pool_range.specs.Part.{cut_range}
use Rattle.pool_range.proofs.Records.{ranges_eq, within}
use Rattle.pool_range.proofs.RangesMut.cut.Goals as goal

pub cut-requires : goal.cut-requires
cut-requires c = let p = c.requires in
    (p.0, within p.1 p.2.node)

pub cut-requires-2 : goal.cut-requires-2
cut-requires-2 c = let p = c.requires in
    (p.0, within p.1 p.2.start)

pub cut-requires-3 : goal.cut-requires-3
cut-requires-3 c = let p = c.requires in
    (p.0, within p.1 p.2.end)

pub cut-requires-4 : goal.cut-requires-4
cut-requires-4 c = let p = c.requires in
    (p.0, within p.1 p.2.id)

pub cut-requires-5 : goal.cut-requires-5
cut-requires-5 c = let p = c.requires in
    (p.0, within p.1 p.2.stamp)

pub cut-requires-6 : goal.cut-requires-6
cut-requires-6 c = let p = c.requires in
    (p.0, within p.1 p.2.touched)

pub cut-requires-7 : goal.cut-requires-7
cut-requires-7 c = let p = c.requires in
    (p.0, within p.1 p.2.write)

pub returns-clause-columns : goal.returns-clause-columns
unfolding cut_range of_bits of_fields
returns-clause-columns c = ranges_eq
    c.cut.ensures
    c.cut-2.ensures
    c.cut-3.ensures
    c.cut-4.ensures
    c.cut-5.ensures
    c.cut-6.ensures
    c.cut-7.ensures
