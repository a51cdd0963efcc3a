-- What an insert of a list is refused for, once the state is sound and the lists are long enough: 6, 7, 8, 9, 11. Assumes nothing.
use Rattle.std.specs.Prelude.{ℕ, ◌+◌, ◌≤◌, ◌≡◌, Bool, true, false, List, [], ◌∷◌, length, ltb}
use Rattle.model.specs.Words.{any}
use Rattle.model.specs.Sizes.{max_hashes, max_stamp}
use Rattle.model.specs.State.{Ranges, State, nodes_in, used_in, stores_of}
use Rattle.model.specs.Sound.{Sound}
use Rattle.model.specs.Tree.{resolve}
use Rattle.model.specs.Refusals.{first_of, few_nodes, few_words, few_records_in_cut, few_entries_in_cut, late_id, cut_ids}
use Rattle.pool_book.specs.Books.{entries_in}
use Rattle.rule_resolve.specs.declared.Match.{Match}
use Rattle.rule_resolve.specs.Walk.{match_of}
use Rattle.call_cut.specs.Needs.{overfull, overpinned, ids_below}

unfoldable pub insert_refusal : State → List ℕ → ℕ
insert_refusal st hs =
    first_of
    (few_nodes st hs
    ∷ few_words st hs
    ∷ few_records_in_cut st hs
    ∷ few_entries_in_cut st hs
    ∷ late_id st (cut_ids st hs (stores_of st))
    ∷ [])

-- the number of the first test that holds, or 0
abbrev pub cut_number : Bool → Bool → Bool → ℕ
cut_number true b c = 8
cut_number false true c = 9
cut_number false false true = 11
cut_number false false false = 0

-- what a cut is refused for: of its ranges the columns are looked at, of its pins only whether they are too many
unfoldable pub cut_refusal : ℕ → ℕ → Bool → Ranges → List ℕ → ℕ → ℕ → ℕ
unfolding ids_below
cut_refusal j k over c records stores next =
    cut_number (any stores (overfull j k c records)) over (ltb max_stamp (next + ids_below j k c records stores))

-- a sound state of which these columns and numbers are lent, and the match of a list in its tree; o tells whether some store's pins are too many
pub record Seen (ls ns ss es bs : List ℕ) (o : Bool) (m : Match) (n : ℕ) (st : State) (hs : List ℕ) : Type 0 where
  pub sound : Sound st
  pub nodes : st.tree.nodes ≡ nodes_in bs
  pub used : st.tree.used ≡ used_in bs
  pub len : st.tree.len ≡ ls
  pub node : st.ranges.node ≡ ns
  pub start : st.ranges.start ≡ ss
  pub end : st.ranges.end ≡ es
  pub books : st.books ≡ bs
  pub over : o ≡ any (stores_of st) (overpinned m.node m.len st.pins (entries_in st.books))
  pub count : length hs ≡ n
  pub short : length hs ≤ max_hashes
  pub match : m ≡ match_of (resolve st.tree hs)

-- the same with three columns of the pins lent, from which that is told
pub record Shown (ls ns ss es pns pss pes bs : List ℕ) (m : Match) (n : ℕ) (st : State) (hs : List ℕ) : Type 0 where
  pub seen : Seen ls ns ss es bs (any (stores_of st) (overpinned m.node m.len st.pins (entries_in st.books))) m n st hs
  pub pin_node : st.pins.node ≡ pns
  pub pin_start : st.pins.start ≡ pss
  pub pin_end : st.pins.end ≡ pes
