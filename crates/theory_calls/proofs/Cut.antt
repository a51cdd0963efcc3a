-- A cut changes every store in turn, after the tree: where the cut of one store keeps it sound, from the old tree to the new one, the state stays
-- sound. Assumes nothing.
use Prim.Native.Nat.{ℕ, zero, suc, ◌+◌, ◌≤◌, ◌<◌, zero-le}
use mathlib.Core.Path.{◌≡◌, refl, ap, subst, ◌∙◌}
use mathlib.Core.Bool.{true}
use mathlib.Core.List.{List}
use native.Mathlib.Omega.{arith}
use native.Mathlib.Nat.{le_refl, add-zero, zero-add}
use native.Mathlib.Decide.{ℕ_discrete}
use lib.ListN.{length}
use Rattle.model.specs.declared.Book.{Book}
use Rattle.model.specs.Words.{Each, sum_to}
use Rattle.model.specs.Sizes.{max_stamp, store_records, store_pins}
use Rattle.model.specs.State.{Tree, State, book_in, stores_of, next_id_of, stalls_of, records_of, entries_of}
use Rattle.model.specs.Store.{Store, store_of, lay_next, lay_counts, with_ranges, with_pins, with_next}
use Rattle.model.specs.Tree.{resolve}
use Rattle.model.specs.Refusals.{cuts, cut_records, cut_entries, cut_ids}
use Rattle.model.specs.Insert.{match_end, next_node, cut_tree, cut_store, ranges_from, cut_store_in, cut_stores, ranges_across, pins_across, with_tree, cut}
use Rattle.theory_lay.proofs.Store.{RangesFit, store-book, records_length, entries_length}
use Rattle.theory_sound.specs.Facts.{IdsFrom}
use Rattle.theory_sound.specs.StoreSound.{TreeSound, StoreSound, Parts}
use Rattle.theory_calls.proofs.Lists.{same-tree}
use Rattle.theory_calls.proofs.Laid.{Laid, laid_next, laid_both}
use Rattle.theory_calls.proofs.Changed.{Midway, midway_start, midway_end, midway_sizes, turn}

pub sum-rises : (f : ℕ → ℕ) (m n : ℕ) → m ≤ n → sum_to f m ≤ sum_to f n
unfolding sum_to
sum-rises f m zero l = let e : m ≡ 0 = omega arith in rw e (le_refl 0)
sum-rises f m (suc n) l = go (ℕ_discrete m (suc n)) (λ k. sum-rises f m n k)
  where
    go : Dec (m ≡ suc n) → (m ≤ n → sum_to f m ≤ sum_to f n) → sum_to f m ≤ sum_to f (suc n)
    go (yes e) ih = rw e (le_refl _)
    go (no e) ih = omega (arith, ih (omega arith))

-- there is room in x for what a cut of node j at k needs of it, 01's needs of 8 and 9
pub record Room (j k : ℕ) (x : Store) : Type 0 where
  pub records : length x.ranges + ranges_across j k x.ranges ≤ store_records
  pub entries : length x.pins + pins_across j k x.pins ≤ store_pins

-- what the cut leaves of x, where m is the new node and u the new tree
pub record StoreCut (j k m : ℕ) (u : Tree) (next : ℕ) (x : Store) : Type 0 where
  pub sound : StoreSound u (next + ranges_across j k x.ranges) (cut_store j k m next x)
  pub ids : IdsFrom x.ranges next (cut_store j k m next x).ranges
  pub few : length (cut_store j k m next x).ranges ≤ length x.ranges + ranges_across j k x.ranges
  pub few_pins : length (cut_store j k m next x).pins ≤ length x.pins + pins_across j k x.pins

-- how many ids the cut of store q takes
abbrev pub needs : ℕ → ℕ → State → ℕ → ℕ
needs j k st q = ranges_across j k (store_of st q).ranges

-- The state at the turn of store s, when st₀'s tree has become u: the stores from s on are as they were
pub record Cutting (j k : ℕ) (st₀ : State) (u : Tree) (s : ℕ) (st : State) : Type 0 where
  pub way : Midway st₀.tree s st
  pub tree : st.tree ≡ u
  pub stores : stores_of st ≡ stores_of st₀
  pub next_id : next_id_of st ≡ next_id_of st₀ + sum_to (needs j k st₀) s
  pub rest : (q : ℕ) → s ≤ q → q < stores_of st₀ → store_of st q ≡ store_of st₀ q

pub first-turn : (j k : ℕ) (st : State) (u : Tree) → Parts st → TreeSound u → Cutting j k st u 0 (with_tree u st)
unfolding store_of sum_to with_tree lay_counts book_in
first-turn j k st u h tree =
    record { way = midway_start st u h tree; tree = refl; stores = refl; next_id = rw add-zero; rest = λ q low less. refl }

-- what cut_store_in makes of the state, to be opened alone
pub cut_in : ℕ → ℕ → ℕ → ℕ → State → State
cut_in j k m s st =
    let x = store_of st s in
    let y = cut_store j k m (next_id_of st) x in
    with_next (next_id_of st + needs j k st s) (stalls_of st) (with_pins s (pins_across j k x.pins) y (with_ranges s (needs j k st s) (ranges_from y x) st))

pub cut_in_is : (j k m s : ℕ) (st : State) → cut_in j k m s st ≡ cut_store_in j k m s st
unfolding cut_in cut_store_in
cut_in_is j k m s st = refl

-- what a cut leaves is counted
counted : (j k m next : ℕ) (x : Store) → (cut_store j k m next x).book.records ≡ length (cut_store j k m next x).ranges
unfolding cut_store
counted j k m next x = refl

module _ (j k m : ℕ) (st₀ : State) (u : Tree)
    (kept : (next : ℕ) (x : Store) → 1 ≤ next → StoreSound st₀.tree next x → Room j k x → StoreCut j k m u next x)
    (room : (q : ℕ) → q < stores_of st₀ → Room j k (store_of st₀ q))
    (last : next_id_of st₀ + sum_to (needs j k st₀) (stores_of st₀) ≤ max_stamp) where
  module _ (s : ℕ) (st : State) (h : Cutting j k st₀ u s st) (less : s < stores_of st₀) where
    pub in_use : s < stores_of st
    in_use = rw h.stores less

    pub fits : Room j k (store_of st s)
    fits = rw (h.rest s (le_refl s) less) (room s less)

    done : StoreCut j k m u (next_id_of st) (store_of st s)
    done =
        kept (next_id_of st) (store_of st s) h.way.frame.first_id (h.way.from s (le_refl s) in_use) fits

    pub laid : Laid s (cut_store j k m (next_id_of st) (store_of st s)) st (cut_in j k m s st)
    unfolding cut_in
    laid =
        let x = store_of st s in
        let y = cut_store j k m (next_id_of st) x in
        let long = records_length st s in
        let long_pins = entries_length st s in
        let fit : RangesFit st s (needs j k st s) (ranges_from y x) = record {
          ranges = omega (arith, done.few, long);
          room = omega (arith, fits.records, long);
          marks = done.sound.marks.long;
          counted = counted j k m (next_id_of st) x;
          entries = ap (λ (b : Book). b.entries) (store-book st s);
          pins = refl;
        } in
        laid_next (next_id_of st + needs j k st s) (stalls_of st)
        (laid_both st s (needs j k st s) y (midway_sizes st₀.tree s st h.way) in_use (pins_across j k x.pins) fit done.sound.entries
        (omega (arith, done.few_pins, long_pins)) (omega (arith, fits.entries, long_pins)))

    next-is : next_id_of (cut_in j k m s st) ≡ next_id_of st₀ + sum_to (needs j k st₀) (suc s)
    unfolding cut_in with_next lay_next sum_to
    next-is = rw (h.rest s (le_refl s) less, h.next_id) (omega arith)

    pub next-turn : Cutting j k st₀ u (suc s) (cut_in j k m s st)
    unfolding cut_in with_next lay_next
    next-turn =
        let l : sum_to (needs j k st₀) (suc s) ≤ sum_to (needs j k st₀) (stores_of st₀) = sum-rises (needs j k st₀) (suc s) (stores_of st₀) less in
        record {
          way = turn st₀.tree s st h.way (cut_store j k m (next_id_of st) (store_of st s)) (cut_in j k m s st) laid in_use
              (omega arith) (same-tree h.tree done.sound) done.ids (omega (arith, next-is)) h.way.frame.stalls;
          tree = laid.tree ∙ h.tree;
          stores = laid.stores ∙ h.stores;
          next_id = next-is;
          rest = λ q low l. laid.other q (omega arith) (rw h.stores l) ∙ h.rest q (omega arith) l;
        }

  all-turns : (n s : ℕ) (st : State) → Cutting j k st₀ u s st → s + n ≡ stores_of st₀
      → Cutting j k st₀ u (stores_of st₀) (cut_stores j k m s n st)
  unfolding cut_stores
  all-turns zero s st h e = subst (λ (i : ℕ). Cutting j k st₀ u i st) (omega arith) h
  all-turns (suc n) s st h e =
      all-turns n (suc s) (cut_store_in j k m s st) (subst (Cutting j k st₀ u (suc s)) (cut_in_is j k m s st) (next-turn s st h (omega arith))) (omega arith)

-- what a cut of node j at k leaves
pub record AfterCut (j k : ℕ) (st : State) : Type 0 where
  pub parts : Parts (cut j k st)
  pub tree : (cut j k st).tree ≡ cut_tree j k st.tree
  pub stores : stores_of (cut j k st) ≡ stores_of st
  pub next_id : next_id_of (cut j k st) ≡ next_id_of st + sum_to (needs j k st) (stores_of st)

-- "Need for 8 and 9 is counted before adding up"; 11 for all new ids
pub cut-kept : (j k : ℕ) (st : State) → Parts st → TreeSound (cut_tree j k st.tree)
    → ((next : ℕ) (x : Store) → 1 ≤ next → StoreSound st.tree next x → Room j k x → StoreCut j k (next_node st.tree) (cut_tree j k st.tree) next x)
    → Each 0 (stores_of st) (λ s. records_of st s + ranges_across j k (store_of st s).ranges ≤ store_records)
    → Each 0 (stores_of st) (λ s. entries_of st s + pins_across j k (store_of st s).pins ≤ store_pins)
    → next_id_of st + sum_to (needs j k st) (stores_of st) ≤ max_stamp → AfterCut j k st
unfolding cut
cut-kept j k st h tree kept records entries last =
    record {
      parts = midway_end st.tree (stores_of st) (cut j k st) end.way (λ q low less. absurd (omega (arith, end.stores)));
      tree = end.tree;
      stores = end.stores;
      next_id = end.next_id;
    }
  where
    u : Tree
    u = cut_tree j k st.tree

    room : (q : ℕ) → q < stores_of st → Room j k (store_of st q)
    room q less = record { records = rw records_length (records q zero-le less); entries = rw entries_length (entries q zero-le less) }

    end : Cutting j k st u (stores_of st) (cut j k st)
    end = all-turns j k (next_node st.tree) st u kept room last (stores_of st) 0 (with_tree u st) (first-turn j k st u h tree) (zero-add _)

-- ---- what insert's conditions 8, 9 and 11 count, where it cuts, is what the cut needs

module _ (st : State) (hs : List ℕ) (does : cuts st hs ≡ true) where
  pub records-counted : (s : ℕ) → cut_records st hs s ≡ needs (match_end (resolve st.tree hs)).node (match_end (resolve st.tree hs)).len st s
  unfolding cut_records
  records-counted s = rw does

  pub entries-counted : (s : ℕ)
      → cut_entries st hs s ≡ pins_across (match_end (resolve st.tree hs)).node (match_end (resolve st.tree hs)).len (store_of st s).pins
  unfolding cut_entries
  entries-counted s = rw does

  pub ids-counted : (n : ℕ) → cut_ids st hs n ≡ sum_to (needs (match_end (resolve st.tree hs)).node (match_end (resolve st.tree hs)).len st) n
  unfolding cut_ids sum_to
  ids-counted zero = refl
  ids-counted (suc n) = rw (ids-counted n, records-counted n)
