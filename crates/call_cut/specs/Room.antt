-- When a node of a sound state can be cut. Assumes nothing.
use Rattle.std.specs.Prelude.{ℕ, ◌+◌, ◌≤◌, ◌<◌, ◌≡◌, List}
use Rattle.model.specs.Words.{Each}
use Rattle.model.specs.Sizes.{max_nodes, max_stamp, store_records, store_pins}
use Rattle.model.specs.State.{Tree, Ranges, Pins, State, at, stores_of, next_id_of, records_of, entries_of}
use Rattle.model.specs.Sound.{Sound}
use Rattle.model.specs.Store.{store_of, lay_counts}
use Rattle.model.specs.Insert.{ranges_across, pins_across, cut_tree}
use Rattle.shape_state.specs.Lent.{state_of}
use Rattle.pool_book.specs.Books.{records_in}
use Rattle.call_cut.specs.Needs.{ids_below}

-- k lies inside node j, and there is a node, and there are records, pin entries and ids for a cut
pub record Cuttable (j k : ℕ) (st : State) : Type 0 where
  pub sound : Sound st
  pub not_root : 1 ≤ j
  pub in_use : j < st.tree.nodes
  pub some : 0 < k
  pub inside : k < at st.tree.len j
  pub room : st.tree.nodes < max_nodes
  pub records : Each 0 (stores_of st) (λ s. records_of st s + ranges_across j k (store_of st s).ranges ≤ store_records)
  pub entries : Each 0 (stores_of st) (λ s. entries_of st s + pins_across j k (store_of st s).pins ≤ store_pins)
  pub ids : next_id_of st + ids_below j k st.ranges (records_in st.books) (stores_of st) ≤ max_stamp

-- these pools are of such a state, whatever its tree and byte table are, and so are these numbers but for the counts of the tree, which is cut; m is
-- the next node
pub record StoresCuttable (j k m : ℕ) (c : Ranges) (p : Pins) (marks l : List ℕ) : Type 0 where
  pub tree : Tree
  pub bytes : List ℕ
  pub old : List ℕ
  pub new : tree.nodes ≡ m
  pub counted : l ≡ lay_counts (cut_tree j k tree).nodes (cut_tree j k tree).used old
  pub whole : Cuttable j k (state_of tree c p marks bytes old)
