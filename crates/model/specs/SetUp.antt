-- Document 01, "Set-up leaves the root only, next id 1, stamps, versions, stalls and pins 0." Assumes nothing.
use Rattle.std.specs.Prelude.{ℕ, zero, suc, ◌*◌, ◌≤◌, Bool, true, false, ◌&&◌, List, [], ◌∷◌, ◌++◌, ◌≡◌, length, get_or, drop, set, replicate, leb, eqb}
use Rattle.model.specs.declared.Book.{Book}
use Rattle.model.specs.Words.{Each, all}
use Rattle.model.specs.Sizes.{max_stores, store_numbers, max_capacity, max_marks, max_numbers, table_length}
use Rattle.model.specs.State.{Tree, State, at, whole, parts_in, numbers, book_from}
use Rattle.model.specs.Sound.{TreeLent, RangesLent, PinsLent, Rising}
use Rattle.model.specs.SoundTest.{tree_lent, ranges_lent, pins_lent, rising}

-- "set-up with sizes, capacity, byte table or pool lengths" inside the rules: for each store a capacity and whether it refreshes; the table is given
-- exactly, and the pools it goes into may be longer
pub record SetUpFits (pools : State) (table capacity : List ℕ) (refreshes : List Bool) : Type 0 where
  pub some_store : 1 ≤ length capacity
  pub stores : length capacity ≤ max_stores
  pub policies : length refreshes ≡ length capacity
  pub capacities : Each 0 (length capacity) (λ s. at capacity s ≤ max_capacity)
  pub table_long : length table ≡ table_length
  pub rises : Rising table
  pub tree : TreeLent pools.tree
  pub ranges : RangesLent pools.ranges
  pub pins : PinsLent pools.pins
  pub marks : max_marks ≤ length pools.marks
  pub bytes : table_length ≤ length pools.bytes
  pub books : max_numbers ≤ length pools.books

unfoldable pub set_up_fits : State → List ℕ → List ℕ → List Bool → Bool
unfolding all rising tree_lent ranges_lent pins_lent
set_up_fits pools table capacity refreshes =
    leb 1 (length capacity)
    && (leb (length capacity) max_stores
    && (eqb (length refreshes) (length capacity)
    && (all (length capacity) (λ s. leb (at capacity s) max_capacity)
    && (eqb (length table) table_length
    && (rising table
    && (tree_lent pools.tree
    && (ranges_lent pools.ranges
    && (pins_lent pools.pins
    && (leb max_marks (length pools.marks)
    && (leb table_length (length pools.bytes) && leb max_numbers (length pools.books)))))))))))

-- node 0 with length and depth 0, no other in use
abbrev pub root_only : Tree → Tree
root_only t =
    record {
      parent = set t.parent 0 0;
      depth = set t.depth 0 0;
      len = set t.len 0 0;
      run = set t.run 0 0;
      words = t.words;
      nodes = 1;
      used = 0;
    }

-- a policy as its number
abbrev pub policy : Bool → ℕ
policy true = 1
policy false = 0

-- store s as it is set up: a capacity, a policy, and 0 for the rest
abbrev pub new_book : List ℕ → List Bool → ℕ → Book
new_book capacity refreshes s = book_from (at capacity s ∷ policy (get_or refreshes s false) ∷ [])

-- the numbers of n stores from s on
unfoldable pub new_numbers : List ℕ → List Bool → ℕ → ℕ → List ℕ
new_numbers capacity refreshes s zero = []
new_numbers capacity refreshes s (suc n) =
    numbers (new_book capacity refreshes s) ++ new_numbers capacity refreshes (suc s) n

-- the marks are cleared, since a mark is 0 where nothing is held, and so are the numbers of the stores that there aren't; ranges and pins past their
-- counts stay as they were lent
unfoldable pub set_up_state : State → List ℕ → List ℕ → List Bool → State
unfolding new_numbers
set_up_state pools table capacity refreshes =
    record {
      tree = root_only pools.tree;
      ranges = pools.ranges;
      pins = pools.pins;
      marks = replicate max_marks 0 ++ drop max_marks pools.marks;
      bytes = table ++ drop table_length pools.bytes;
      books =
          whole 1 0 (length capacity) 1 0
          (new_numbers capacity refreshes 0 max_stores ++ drop (store_numbers * max_stores) (parts_in pools.books));
    }
