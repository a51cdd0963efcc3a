-- A store's part of the pool of ranges: seven columns, a record put in, a record cut out. Assumes nothing.
use Rattle.std.specs.Prelude.{◌≡◌, ℕ, length}
use Rattle.model.specs.State.{Ranges, Range}
use Rattle.model.specs.Store.{no_time}
use Rattle.shape_state.specs.Lent.{ranges_of}
use Rattle.pool_range.specs.Cols.{put_at, cut_at}
use Rattle.pool_range.specs.declared.Record.{Record}

-- a record by value is a range
abbrev pub range_of : Record → Range
range_of r =
    record { node = r.node; start = r.start; end = r.end; id = r.id; stamp = r.stamp; touched = r.touched; write = r.write }

-- each column has k elements
pub record Sized (k : ℕ) (c : Ranges) : Type 0 where
  pub node : length c.node ≡ k
  pub start : length c.start ≡ k
  pub end : length c.end ≡ k
  pub id : length c.id ≡ k
  pub stamp : length c.stamp ≡ k
  pub touched : length c.touched ≡ k
  pub write : length c.write ≡ k

-- of n records: r before the one at `at`
unfoldable pub put_range : ℕ → Range → ℕ → Ranges → Ranges
put_range at r n c =
    ranges_of
    (put_at at r.node n c.node)
    (put_at at r.start n c.start)
    (put_at at r.end n c.end)
    (put_at at r.id n c.id)
    (put_at at r.stamp n c.stamp)
    (put_at at r.touched n c.touched)
    (put_at at r.write n c.write)

-- the record at `at` taken out of n; the place that is free then is left blank
unfoldable pub cut_range : ℕ → ℕ → Ranges → Ranges
cut_range at n c =
    ranges_of
    (cut_at 0 at n c.node)
    (cut_at 0 at n c.start)
    (cut_at 0 at n c.end)
    (cut_at 0 at n c.id)
    (cut_at 0 at n c.stamp)
    (cut_at no_time at n c.touched)
    (cut_at 0 at n c.write)
