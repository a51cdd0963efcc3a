-- `pool_range::RangesMut::put` meets its contract. Each column is one call.
use Rattle.pool_range.specs.Part.{put_range}
use Rattle.pool_range.proofs.Records.{ranges_eq, below}
use Rattle.pool_range.proofs.RangesMut.put.Goals as goal

pub put-requires : goal.put-requires
put-requires c = let p = c.requires in
    (p.0, below p.1 p.2.node)

pub put-requires-2 : goal.put-requires-2
put-requires-2 c = let p = c.requires in
    (p.0, below p.1 p.2.start)

pub put-requires-3 : goal.put-requires-3
put-requires-3 c = let p = c.requires in
    (p.0, below p.1 p.2.end)

pub put-requires-4 : goal.put-requires-4
put-requires-4 c = let p = c.requires in
    (p.0, below p.1 p.2.id)

pub put-requires-5 : goal.put-requires-5
put-requires-5 c = let p = c.requires in
    (p.0, below p.1 p.2.stamp)

pub put-requires-6 : goal.put-requires-6
put-requires-6 c = let p = c.requires in
    (p.0, below p.1 p.2.touched)

pub put-requires-7 : goal.put-requires-7
put-requires-7 c = let p = c.requires in
    (p.0, below p.1 p.2.write)

pub returns-clause-columns : goal.returns-clause-columns
unfolding put_range
returns-clause-columns c = ranges_eq
    c.put.ensures
    c.put-2.ensures
    c.put-3.ensures
    c.put-4.ensures
    c.put-5.ensures
    c.put-6.ensures
    c.put-7.ensures
