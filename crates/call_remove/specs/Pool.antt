-- A removal from store s on the whole pools: what its refusals look at, what it needs of the pools, and what is left. Assumes nothing.
use Rattle.std.specs.Prelude.{ℕ, ◌+◌, ◌*◌, ◌≤◌, ◌<◌, ◌≡◌, List, length}
use Rattle.model.specs.declared.Span.{Span}
use Rattle.model.specs.Sizes.{store_records, store_marks, max_nodes, max_hashes, max_stores, max_records, max_marks, out_places}
use Rattle.model.specs.State.{Ranges, State, stores_of, next_id_of, records_of}
use Rattle.model.specs.Sound.{Sound, RangesLent}
use Rattle.model.specs.Store.{lay, lay_ranges}
use Rattle.model.specs.Remove.{Removed}
use Rattle.model.specs.Calls.{front}
use Rattle.pool_part.specs.Parts.{mid}
use Rattle.rule_overlap.specs.Overlap.{Ordered, RemoveNeeds, RemoveFits}
use Rattle.rule_remove.specs.declared.Removing.{Removing}

-- a sound state with these columns, k nodes and the next id i, and n records in its store s
pub record Seen (len : List ℕ) (c : Ranges) (k i s n : ℕ) (st : State) : Type 0 where
  pub sound : Sound st
  pub lens : st.tree.len ≡ len
  pub count : st.tree.nodes ≡ k
  pub ranges : st.ranges ≡ c
  pub next_id : next_id_of st ≡ i
  pub store : s < stores_of st
  pub records : records_of st s ≡ n

-- store s has n records, in order, in pools that are long enough
pub record Placed (s n : ℕ) (node start end : List ℕ) : Type 0 where
  pub store : s < max_stores
  pub nodes : max_records ≤ length node
  pub starts : max_records ≤ length start
  pub ends : max_records ≤ length end
  pub order : Ordered (mid (store_records * s) store_records node) (mid (store_records * s) store_records start) (mid (store_records * s) store_records end) n

-- how many records a removal of the span needs, and that they fit
abbrev pub NeedsAt : ℕ → ℕ → List ℕ → List ℕ → List ℕ → Span → ℕ → Type 0
NeedsAt s n node start end sp r =
    RemoveNeeds (mid (store_records * s) store_records node) (mid (store_records * s) store_records start) (mid (store_records * s) store_records end) n sp r

abbrev pub FitsAt : ℕ → ℕ → List ℕ → List ℕ → List ℕ → Span → Type 0
FitsAt s n node start end sp =
    RemoveFits (mid (store_records * s) store_records node) (mid (store_records * s) store_records start) (mid (store_records * s) store_records end) n sp

-- the pools and the list of writes are long enough, the span is of a node, and what it needs fits
pub record PoolReady (s n : ℕ) (sp : Span) (c : Ranges) (ms ls : List ℕ) : Type 0 where
  pub few : n ≤ store_records
  pub lent : RangesLent c
  pub marks : max_marks ≤ length ms
  pub list : out_places ≤ length ls
  pub placed : Placed s n c.node c.start c.end
  pub filled : sp.start < sp.end
  pub ends : sp.end ≤ max_hashes
  pub node : sp.node < max_nodes
  pub fits : FitsAt s n c.node c.start c.end sp

-- from the pools c₀, ms₀ and the list ls₀ a removal from store s makes c, ms and ls and answers r; w is what the definition says
pub record FreedAt (s n : ℕ) (w : Removed) (c₀ : Ranges) (ms₀ ls₀ : List ℕ) (c : Ranges) (ms ls : List ℕ) (r : Removing) : Type 0 where
  pub cols : c ≡ lay_ranges (store_records * s) (n + w.need) w.store.ranges c₀
  pub marks : ms ≡ lay 0 (store_marks * s) store_marks w.store.marks ms₀
  pub list : ls ≡ front w.writes ls₀
  pub records : r.n ≡ length w.store.ranges
  pub need : r.need ≡ w.need
  pub writes : r.writes ≡ length w.writes
  pub blocks : r.removed ≡ w.blocks
