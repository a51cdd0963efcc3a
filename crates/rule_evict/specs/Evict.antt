-- One eviction on a store's part of the columns: the record, what is told of it, the marks. Assumes nothing.
use Rattle.std.specs.Prelude.{◌≡◌, ℕ, ◌+◌, ◌-◌, ◌%◌, ◌<◌, ◌≤◌, List, length, nat_le, slice_set}
use Rattle.model.specs.Words.{pick}
use Rattle.model.specs.declared.Span.{Span}
use Rattle.model.specs.Sizes.{max_nodes, max_hashes, store_marks, table_length, versions}
use Rattle.model.specs.State.{Tree, Ranges, Range, at, range_at}
use Rattle.model.specs.Sound.{Rising}
use Rattle.model.specs.Store.{ranges, length_of, unmark}
use Rattle.model.specs.Trim.{Out, bytes_of, dead_from, told, asked, amount}
use Rattle.shape_state.specs.Lent.{ranges_of}
use Rattle.rule_resolve.specs.Span.{only_depth}
use Rattle.pool_range.specs.Part.{cut_range}
use Rattle.pool_out.specs.Evicted.{out_of}
use Rattle.rule_evict.specs.declared.Gone.{Gone}

-- columns, and how many records are in use
pub record Left : Type 0 where
  pub cols : Ranges
  pub n : ℕ

abbrev pub left : Ranges → ℕ → Left
left c n = record { cols = c; n = n }

-- the record at i ends at e
unfoldable pub end_at : ℕ → ℕ → Ranges → Ranges
end_at i e c = ranges_of c.node c.start (slice_set c.end i e) c.id c.stamp c.touched c.write

-- of n records, the last k blocks of the one at i go
unfoldable pub evict_cols : ℕ → ℕ → ℕ → Ranges → Left
evict_cols n i k c = pick (nat_le (length_of (range_at c i)) k) (left (cut_range i n c) (n - 1)) (left (end_at i (at c.end i - k) c) n)

-- the last k blocks of a range that ends at e
abbrev pub tail_of : ℕ → ℕ → ℕ → Span
tail_of node e k = record { node = node; start = e - k; end = e }

-- what is told of a span with this read mark and this write: `told`, by the numbers that it looks at
abbrev pub told_of : Tree → List ℕ → ℕ → ℕ → Span → Out
told_of t table mark write sp =
    record {
      node = sp.node;
      start = sp.start;
      end = sp.end;
      write = write;
      bytes = bytes_of t table sp.node sp.start sp.end;
      dead = bytes_of t table sp.node (dead_from mark sp.start sp.end) sp.end;
    }

-- a range that has blocks, on a node, and that the byte table reaches
pub record Reach (depth : List ℕ) (r : Range) : Type 0 where
  pub node : r.node < max_nodes
  pub filled : r.start < r.end
  pub ends : at depth r.node + r.end ≤ max_hashes

-- the lists that bytes and marks are read from
pub record Tabled (depth bytes marks : List ℕ) : Type 0 where
  pub depths : max_nodes ≤ length depth
  pub table : table_length ≤ length bytes
  pub rising : Rising bytes
  pub long : length marks ≡ store_marks

-- of the record at i the last min(length, excess) blocks went, and the store's version v rose by 1
pub record EntryGone (depth bytes : List ℕ) (n i excess v : ℕ) (c : Ranges) (ms : List ℕ) (cʹ : Ranges) (msʹ : List ℕ) (g : Gone) : Type 0 where
  pub taken : g.taken ≡ amount asked excess (range_at c i)
  pub cols : left cʹ g.n ≡ evict_cols n i g.taken c
  pub marks : msʹ ≡ unmark (range_at c i).node (ranges cʹ 0 g.n) ms
  pub version : g.version ≡ (v + 1) % versions
  pub out : out_of g.out ≡ told (only_depth depth) bytes ms (range_at c i) ((range_at c i).end - g.taken) (range_at c i).end
