-- The small numbers after a bring-in, and the one span that a store of capacity 0 gives out. Assumes nothing.
use Rattle.std.specs.Prelude.{ℕ, ◌+◌, Bool, List}
use Rattle.model.specs.declared.Span.{Span}
use Rattle.model.specs.declared.Book.{Book}
use Rattle.model.specs.State.{Tree, next_id_in, stalls_in}
use Rattle.model.specs.Store.{ranged, lay_book, lay_next}
use Rattle.model.specs.Trim.{Out, bytes_of, stalls_after}

-- the books l after `need` new stamps and ids: store s, whose own were b, has n records that hold h blocks and version v; `stalled` is whether it did
abbrev pub settled : ℕ → Book → ℕ → ℕ → ℕ → ℕ → Bool → List ℕ → List ℕ
settled s b need n h v stalled l =
    lay_next (next_id_in l + need) (stalls_after stalled (stalls_in l)) (lay_book s (ranged b n h (b.stamp + need) v) l)

-- the whole span, given out at once
abbrev pub whole : Tree → List ℕ → Span → ℕ → Out
whole t table sp write =
    record {
      node = sp.node;
      start = sp.start;
      end = sp.end;
      write = write;
      bytes = bytes_of t table sp.node sp.start sp.end;
      dead = 0;
    }
