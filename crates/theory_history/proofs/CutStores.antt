-- After the cut of node j at k every store has its own ranges, cut: each turn cuts one store and leaves the others. Assumes nothing.
use Prim.Native.Nat.{ℕ, zero, suc, ◌+◌, ◌≤◌, ◌<◌, zero-le}
use mathlib.Core.Path.{◌≡◌, refl, ap, subst, ◌∙◌}
use mathlib.Core.List.{◌++◌}
use native.Mathlib.Omega.{arith}
use native.Mathlib.Nat.{le_refl, le_of_eq, zero-add}
use native.Mathlib.Decide.{ℕ_discrete}
use Rattle.model.specs.Words.{Each, sum_to}
use Rattle.model.specs.Sizes.{max_nodes, max_stamp, store_records, store_pins}
use Rattle.model.specs.State.{Tree, State, at, stores_of, next_id_of, records_of, entries_of}
use Rattle.model.specs.Store.{Store, store_of}
use Rattle.model.specs.Insert.{next_node, cut_tree, heads, tails, cut_store, cut_store_in, cut_stores, pins_across, with_tree, cut}
use Rattle.theory_lay.proofs.Store.{records_length, entries_length}
use Rattle.theory_sound.specs.Facts.{All}
use Rattle.theory_sound.specs.StoreSound.{TreeSound, StoreSound, Parts}
use Rattle.theory_cut.proofs.CutTree.{cut_tree-sound}
use Rattle.theory_cut.proofs.CutStore.{cut-last, below-nodes, cut_store-ids, cut_store_length, cut_store-pins, cut_store-sound}
use Rattle.theory_calls.proofs.Laid.{Laid}
use Rattle.theory_calls.proofs.Cut.{Room, StoreCut, needs, Cutting, first-turn, cut_in_is, laid, next-turn, in_use}

-- the ranges of store q are those it had, cut; new ids begin somewhere
pub record WasCut (j k m : ℕ) (st₀ : State) (q : ℕ) (st : State) : Type 0 where
  pub next : ℕ
  pub ranges : (store_of st q).ranges ≡ heads j k (store_of st₀ q).ranges ++ tails j k m next (store_of st₀ q).ranges

module _ (j k m : ℕ) (st₀ : State) (u : Tree)
    (kept : (next : ℕ) (x : Store) → 1 ≤ next → StoreSound st₀.tree next x → Room j k x → StoreCut j k m u next x)
    (room : (q : ℕ) → q < stores_of st₀ → Room j k (store_of st₀ q))
    (last : next_id_of st₀ + sum_to (needs j k st₀) (stores_of st₀) ≤ max_stamp) (new : m ≡ st₀.tree.nodes) where
  module _ (s : ℕ) (st : State) (h : Cutting j k st₀ u s st) (less : s < stores_of st₀) where
    here : Laid s (cut_store j k m (next_id_of st) (store_of st s)) st (cut_store_in j k m s st)
    here = subst (Laid s (cut_store j k m (next_id_of st) (store_of st s)) st) (cut_in_is j k m s st) (laid j k m st₀ u kept room last s st h less)

    -- the store's ranges are of nodes below the new one
    under : All (λ r. r.node < st₀.tree.nodes) (store_of st s).ranges
    under = below-nodes st₀.tree (store_of st s).ranges (h.way.from s (le_refl s) (in_use j k m st₀ u kept room last s st h less)).ranges.inside

    -- the stores below s were cut, and store s is now
    one_more_lem : ((q : ℕ) → q < s → WasCut j k m st₀ q st) → (q : ℕ) → q < suc s → WasCut j k m st₀ q (cut_store_in j k m s st)
    one_more_lem before q below = go (ℕ_discrete q s)
      where
        go : Dec (q ≡ s) → WasCut j k m st₀ q (cut_store_in j k m s st)
        go (yes e) =
            rw e
            (record {
              next = next_id_of st;
              ranges =
                  ap (λ x. x.ranges) here.own
                  ∙ (ap (λ (x : Store). x.ranges) (cut-last j k m (next_id_of st) (store_of st s) (rw new under))
                  ∙ ap (λ x. heads j k x.ranges ++ tails j k m (next_id_of st) x.ranges) (h.rest s (le_refl s) less));
            })
        go (no e) =
            let b = before q (omega arith) in
            record { next = b.next; ranges = ap (λ x. x.ranges) (here.other q e (omega (arith, h.stores))) ∙ b.ranges }

  turns : (n s : ℕ) (st : State) → Cutting j k st₀ u s st → s + n ≡ stores_of st₀ → ((q : ℕ) → q < s → WasCut j k m st₀ q st)
      → (q : ℕ) → q < stores_of st₀ → WasCut j k m st₀ q (cut_stores j k m s n st)
  unfolding cut_stores
  turns zero s st h e before q below = before q (omega arith)
  turns (suc n) s st h e before q below =
      turns n (suc s) (cut_store_in j k m s st)
      (subst (Cutting j k st₀ u (suc s)) (cut_in_is j k m s st) (next-turn j k m st₀ u kept room last s st h (omega arith))) (omega arith)
      (one_more_lem s st h (omega arith) before) q below

-- the cut of the whole state
pub stores-cut : (j k : ℕ) (st : State) → Parts st → 1 ≤ j → j < st.tree.nodes → 0 < k → k < at st.tree.len j → st.tree.nodes < max_nodes
    → Each 0 (stores_of st) (λ s. records_of st s + needs j k st s ≤ store_records)
    → Each 0 (stores_of st) (λ s. entries_of st s + pins_across j k (store_of st s).pins ≤ store_pins)
    → next_id_of st + sum_to (needs j k st) (stores_of st) ≤ max_stamp
    → (q : ℕ) → q < stores_of st → WasCut j k (next_node st.tree) st q (cut j k st)
unfolding cut
stores-cut j k st h low in_use some inside few records entries last =
    turns j k m st u kept room last refl (stores_of st) 0 (with_tree u st) (first-turn j k st u h sound) (zero-add _) (λ q l. absurd (omega arith))
  where
    m : ℕ
    m = next_node st.tree

    u : Tree
    u = cut_tree j k st.tree

    sound : TreeSound u
    sound = cut_tree-sound j k st.tree h.tree low in_use some inside few

    kept : (next : ℕ) (x : Store) → 1 ≤ next → StoreSound st.tree next x → Room j k x → StoreCut j k m u next x
    kept next x first s r =
        record {
          sound = cut_store-sound j k st.tree h.tree low in_use few s r.records r.entries;
          ids = cut_store-ids j k m next x (below-nodes st.tree x.ranges s.ranges.inside);
          few = le_of_eq (cut_store_length j k m next x (below-nodes st.tree x.ranges s.ranges.inside));
          few_pins = cut_store-pins j k m next x;
        }

    room : (q : ℕ) → q < stores_of st → Room j k (store_of st q)
    room q less = record { records = rw records_length (records q zero-le less); entries = rw entries_length (entries q zero-le less) }
