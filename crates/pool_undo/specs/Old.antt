-- A store's part of the ranges and of the marks, and the places of the given-out lists that a call may write, kept as they were; and what is asked of a
-- change so that all of it can be put back. Assumes nothing.
use Rattle.std.specs.Prelude.{ℕ, ◌*◌, ◌≡◌, List}
use Rattle.model.specs.Sizes.{store_records, store_marks, out_places}
use Rattle.model.specs.State.{Ranges, State, next_id_of, stalls_of, book_of}
use Rattle.model.specs.Store.{lay_book, lay_next}
use Rattle.model.specs.Refusals.{OutList}
use Rattle.shape_state.specs.Lent.{ranges_of}
use Rattle.pool_part.specs.Parts.{mid, back, back_ranges}
use Rattle.pool_undo.specs.declared.Old.{Old}
use Rattle.pool_undo.specs.declared.OldOuts.{OldOuts}

abbrev pub old_ranges : Old → Ranges
old_ranges o = ranges_of o.node o.start o.end o.id o.stamp o.touched o.write

abbrev pub old_from : ℕ → Ranges → List ℕ → Old
old_from s c marks =
    record {
      node = mid (store_records * s) store_records c.node;
      start = mid (store_records * s) store_records c.start;
      end = mid (store_records * s) store_records c.end;
      id = mid (store_records * s) store_records c.id;
      stamp = mid (store_records * s) store_records c.stamp;
      touched = mid (store_records * s) store_records c.touched;
      write = mid (store_records * s) store_records c.write;
      marks = mid (store_marks * s) store_marks marks;
    }

-- ---- the given-out lists

abbrev pub old_outs : OutList → OldOuts
old_outs l =
    record {
      node = mid 0 out_places l.node;
      start = mid 0 out_places l.start;
      end = mid 0 out_places l.end;
      write = mid 0 out_places l.write;
      bytes = mid 0 out_places l.bytes;
      dead = mid 0 out_places l.dead;
    }

abbrev pub outs_back : OldOuts → OutList → OutList
outs_back o l =
    record {
      node = back 0 out_places o.node l.node;
      start = back 0 out_places o.start l.start;
      end = back 0 out_places o.end l.end;
      write = back 0 out_places o.write l.write;
      bytes = back 0 out_places o.bytes l.bytes;
      dead = back 0 out_places o.dead l.dead;
    }

-- ---- a change of store s alone: put back, st' is st in every byte that a call on that store may write

pub record Undoes (s : ℕ) (st st' : State) : Type 0 where
  pub ranges : back_ranges (store_records * s) store_records (old_ranges (old_from s st.ranges st.marks)) st'.ranges ≡ st.ranges
  pub marks : back (store_marks * s) store_marks (old_from s st.ranges st.marks).marks st'.marks ≡ st.marks
  pub books : lay_next (next_id_of st) (stalls_of st) (lay_book s (book_of st s) st'.books) ≡ st.books
