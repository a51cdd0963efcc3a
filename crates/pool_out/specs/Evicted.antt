-- A given-out span by value, and the lent columns that store it. Assumes nothing.
use Rattle.std.specs.Prelude.{ℕ, zero, suc, set}
use Rattle.shape_answer.specs.Lists.{out_list}
use Rattle.model.specs.Trim.{Out}
use Rattle.model.specs.Refusals.{OutList}
use Rattle.pool_out.specs.declared.WriteId.{WriteId}
use Rattle.pool_out.specs.declared.WriteId.TheVariants.{NoWrite, Write}
use Rattle.pool_out.specs.declared.Evicted.{Evicted}

-- a write as the number that its column holds, 0 for none
abbrev pub write_number : WriteId → ℕ
write_number NoWrite = 0
write_number (Write n) = n

-- the write that a number stands for: a 0 handed in, or in a column, is none
abbrev pub write_of : ℕ → WriteId
write_of zero = NoWrite
write_of (suc n) = Write (suc n)

abbrev pub out_of : Evicted → Out
out_of e =
    record {
      node = e.span.node;
      start = e.span.start;
      end = e.span.end;
      write = write_number e.write;
      bytes = e.bytes;
      dead = e.dead;
    }

-- the answer list with a span at place k
unfoldable pub set_out : ℕ → Out → OutList → OutList
set_out k o l =
    out_list (set l.node k o.node) (set l.start k o.start) (set l.end k o.end) (set l.write k o.write)
    (set l.bytes k o.bytes) (set l.dead k o.dead)
