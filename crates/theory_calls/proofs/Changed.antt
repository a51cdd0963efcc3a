-- What a call has to show to leave a sound state: the store that it changes is sound, and its ids are old ones of that store or new ones. Assumes nothing.
use Prim.Native.Nat.{ℕ, suc, ◌+◌, ◌≤◌, ◌<◌, zero-le}
use mathlib.Core.Path.{◌≡◌, sym, ◌∙◌}
use mathlib.Core.Logic.{◌≢◌}
use native.Mathlib.Omega.{arith}
use native.Mathlib.Nat.{le_refl}
use native.Mathlib.Decide.{ℕ_discrete, dec_lt}
use lib.ListN.{length}
use Rattle.model.specs.Sizes.{max_stores, max_stamp, max_stalls, store_records, store_pins}
use Rattle.model.specs.State.{Tree, State, book_in, stores_of, next_id_of, stalls_of, records_of, entries_of}
use Rattle.model.specs.Sound.{Lent, Rising}
use Rattle.model.specs.Store.{Store, store_of, lay_book, lay_next, lay_counts, with_ranges, with_pins, with_next}
use Rattle.model.specs.Insert.{with_tree}
use Rattle.theory_lay.proofs.Books.{counts_length}
use Rattle.theory_lay.proofs.Store.{RangesFit, PinsFit, records_length, entries_length}
use Rattle.theory_sound.specs.Facts.{ApartFrom, IdsFrom}
use Rattle.theory_sound.specs.StoreSound.{TreeSound, StoreSound, Parts}
use Rattle.theory_bring.proofs.Facts.{ids-same, apart-kept, apart_sym, Steady, steady-entries, store_later}
use Rattle.theory_calls.proofs.Lists.{same-tree}
use Rattle.theory_calls.proofs.Laid.{Laid, Sizes, laid_next, laid-ranges, laid-pins}

-- what a sound state has besides its stores
pub record Frame (st : State) : Type 0 where
  pub lent : Lent st
  pub table : Rising st.bytes
  pub tree : TreeSound st.tree
  pub some : 1 ≤ stores_of st
  pub stores : stores_of st ≤ max_stores
  pub first_id : 1 ≤ next_id_of st
  pub next_id : next_id_of st ≤ max_stamp
  pub stalls : stalls_of st ≤ max_stalls

-- store q of the state, as a sound one for the tree t
abbrev pub SoundFor : Tree → State → ℕ → Type 0
SoundFor t st q = StoreSound t (next_id_of st) (store_of st q)

-- A state on the way from the tree `old` to its own: the stores below s are sound for its tree, those from s on for the old one
pub record Midway (old : Tree) (s : ℕ) (st : State) : Type 0 where
  pub frame : Frame st
  pub below : (q : ℕ) → q < s → q < stores_of st → SoundFor st.tree st q
  pub from : (q : ℕ) → s ≤ q → q < stores_of st → SoundFor old st q
  pub apart :
      (p q : ℕ) → p < stores_of st → q < stores_of st → (p ≡ q → ⊥) → ApartFrom (store_of st p).ranges (store_of st q).ranges

-- ---- where the way begins and ends

-- with another tree, at store 0
pub midway_start : (st : State) (t : Tree) → Parts st → TreeSound t → Midway st.tree 0 (with_tree t st)
unfolding store_of with_tree lay_counts book_in
midway_start st t h tree =
    let l = h.lent in
    record {
      frame = record {
        lent = record { tree = tree.lent; ranges = l.ranges; pins = l.pins; marks = l.marks; bytes = l.bytes; books = rw (counts_length st.books l.books t.nodes t.used) l.books };
        table = h.table;
        tree = tree;
        some = h.some;
        stores = h.stores;
        first_id = h.first_id;
        next_id = h.next_id;
        stalls = h.stalls;
      };
      below = λ q none less. absurd (omega arith);
      from = h.each;
      apart = h.apart;
    }

-- with its own tree, at any store
pub midway_same : (st : State) (s : ℕ) → Parts st → Midway st.tree s st
midway_same st s h =
    record {
      frame = record {
        lent = h.lent;
        table = h.table;
        tree = h.tree;
        some = h.some;
        stores = h.stores;
        first_id = h.first_id;
        next_id = h.next_id;
        stalls = h.stalls;
      };
      below = λ q b. h.each q zero-le;
      from = λ q b. h.each q zero-le;
      apart = h.apart;
    }

-- where the stores that are left carry over to the state's tree
pub midway_end : (old : Tree) (s : ℕ) (st : State) → Midway old s st
    → ((q : ℕ) → s ≤ q → q < stores_of st → SoundFor old st q → SoundFor st.tree st q) → Parts st
midway_end old s st h over =
    record {
      lent = h.frame.lent;
      table = h.frame.table;
      tree = h.frame.tree;
      some = h.frame.some;
      stores = h.frame.stores;
      first_id = h.frame.first_id;
      next_id = h.frame.next_id;
      stalls = h.frame.stalls;
      each = λ q low less. go q less (dec_lt q s);
      apart = h.apart;
    }
  where
    go : (q : ℕ) → q < stores_of st → Dec (q < s) → SoundFor st.tree st q
    go q less (yes l) = h.below q l less
    go q less (no l) = over q (omega arith) less (h.from q (omega arith) less)

-- another tree, for which each store is as sound as before
pub tree_grown : (st : State) (t : Tree) → Parts st → TreeSound t → ((next : ℕ) (x : Store) → StoreSound st.tree next x → StoreSound t next x)
    → Parts (with_tree t st)
unfolding with_tree lay_counts
tree_grown st t h tree over =
    midway_end st.tree 0 (with_tree t st) (midway_start st t h tree) (λ q low less. over (next_id_of st) (store_of (with_tree t st) q))

-- ---- one store's turn

module _ (old : Tree) (s : ℕ) (st : State) (h : Midway old s st) where
  -- whichever tree a store is sound for
  some-tree : (q : ℕ) → q < stores_of st → (t : Tree) × SoundFor t st q
  some-tree q less = go (dec_lt q s)
    where
      go : Dec (q < s) → (t : Tree) × SoundFor t st q
      go (yes l) = (st.tree, h.below q l less)
      go (no l) = (old, h.from q (omega arith) less)

  pub midway_sizes : Sizes st
  midway_sizes =
      let l = h.frame.lent in
      record {
        lent = l;
        roomy = λ q less. record {
          ranges = l.ranges;
          pins = l.pins;
          marks = l.marks;
          books = l.books;
          store = omega (arith, h.frame.stores);
          records = rw records_length at (some-tree q less).1.few;
          entries = rw entries_length at (some-tree q less).1.few_pins;
        };
      }

  module _ (y : Store) (st' : State) (laid : Laid s y st st') (less : s < stores_of st) (later : next_id_of st ≤ next_id_of st')
      (sound : StoreSound st.tree (next_id_of st') y) (ids : IdsFrom (store_of st s).ranges (next_id_of st) y.ranges) where
    -- another store, and that its ids are not the new store's
    other-sound : (t : Tree) (q : ℕ) → q < stores_of st → q ≢ s → SoundFor t st q → SoundFor t st' q
    other-sound t q l other g = rw (laid.other q other l) (store_later later g)

    apart-own : (q : ℕ) → q < stores_of st → q ≢ s → ApartFrom (store_of st' s).ranges (store_of st' q).ranges
    apart-own q l other =
        rw (laid.own, laid.other q other l)
        (apart-kept (store_of st s).ranges y.ranges (store_of st q).ranges (next_id_of st) ids (some-tree q l).1.ranges.ids
        (h.apart s q less l (λ e. other (sym e))))

    turned-below : (q : ℕ) → q < suc s → q < stores_of st → Dec (q ≡ s) → SoundFor st'.tree st' q
    turned-below q b l (yes e) = rw (e, laid.own, laid.tree) sound
    turned-below q b l (no other) =
        same-tree laid.tree (other-sound st.tree q l other (h.below q (omega arith) l))

    turned_apart : (p q : ℕ) → p < stores_of st → q < stores_of st → (p ≡ q → ⊥) → Dec (p ≡ s) → Dec (q ≡ s)
        → ApartFrom (store_of st' p).ranges (store_of st' q).ranges
    turned_apart p q l m apart (yes e) d = rw e (apart-own q m (λ f. apart (e ∙ sym f)))
    turned_apart p q l m apart (no f) (yes e) = rw e (apart_sym (store_of st' s).ranges (store_of st' p).ranges (apart-own p l f))
    turned_apart p q l m apart (no f) (no g) = rw (laid.other p f l, laid.other q g m) (h.apart p q l m apart)

    pub turn : next_id_of st' ≤ max_stamp → stalls_of st' ≤ max_stalls → Midway old (suc s) st'
    turn next stalls =
        let f = h.frame in
        record {
          frame = record {
            lent = laid.lent;
            table = rw laid.bytes f.table;
            tree = rw laid.tree f.tree;
            some = rw laid.stores f.some;
            stores = rw laid.stores f.stores;
            first_id = omega (arith, f.first_id);
            next_id = next;
            stalls = stalls;
          };
          below = λ q b l. turned-below q b (rw laid.stores at l) (ℕ_discrete q s);
          from = λ q b l. let m : q < stores_of st = rw laid.stores at l in other-sound old q m (omega arith) (h.from q (omega arith) m);
          apart = λ p q l m apart. turned_apart p q (rw laid.stores at l) (rw laid.stores at m) apart (ℕ_discrete p s) (ℕ_discrete q s);
        }

-- ---- a call on one store

-- a sound store that moved no pin has room beside the store's pins
pub ranges_fit : (st : State) (s need next : ℕ) (y : Store) → Steady (store_of st s) y → length y.ranges ≤ records_of st s + need
    → records_of st s + need ≤ store_records → StoreSound st.tree next y → RangesFit st s need y
unfolding store_of
ranges_fit st s need next y steady few room sound =
    record {
      ranges = few;
      room = room;
      marks = sound.marks.long;
      counted = sound.records;
      entries = steady-entries steady;
      pins = steady.pins;
    }

pub ranges-changed : (st : State) (s need next stalls : ℕ) (y : Store) → Parts st → s < stores_of st → Steady (store_of st s) y
    → length y.ranges ≤ records_of st s + need → records_of st s + need ≤ store_records → next_id_of st ≤ next
    → next ≤ max_stamp → stalls ≤ max_stalls → StoreSound st.tree next y → IdsFrom (store_of st s).ranges (next_id_of st) y.ranges
    → Parts (with_next next stalls (with_ranges s need y st))
unfolding with_next lay_next with_ranges
ranges-changed st s need next stalls y h less steady few room later last most sound ids =
    let way = midway_same st s h in
    let fit = ranges_fit st s need next y steady few room sound in
    let laid = laid_next next stalls (laid-ranges st s need y (midway_sizes st.tree s st way) less fit) in
    midway_end st.tree (suc s) (with_next next stalls (with_ranges s need y st))
    (turn st.tree s st way y (with_next next stalls (with_ranges s need y st)) laid less later sound ids last most) (λ q low l g. g)

-- the same where no id is new and nothing stalls
pub ranges-kept : (st : State) (s need : ℕ) (y : Store) → Parts st → s < stores_of st → Steady (store_of st s) y
    → length y.ranges ≤ records_of st s + need → records_of st s + need ≤ store_records
    → StoreSound st.tree (next_id_of st) y → IdsFrom (store_of st s).ranges (next_id_of st) y.ranges → Parts (with_ranges s need y st)
unfolding with_ranges lay_book
ranges-kept st s need y h less steady few room sound ids =
    let way = midway_same st s h in
    let laid =
    laid-ranges st s need y (midway_sizes st.tree s st way) less (ranges_fit st s need (next_id_of st) y steady few room sound) in
    midway_end st.tree (suc s) (with_ranges s need y st)
    (turn st.tree s st way y (with_ranges s need y st) laid less (le_refl (next_id_of st)) sound ids h.next_id h.stalls) (λ q low l g. g)

-- what a call that moves pins alone leaves of a store as it was
pub record Unmoved (x y : Store) : Type 0 where
  pub records : y.book.records ≡ x.book.records
  pub ranges : y.ranges ≡ x.ranges
  pub marks : y.marks ≡ x.marks

pub pins-changed : (st : State) (s need : ℕ) (y : Store) → Parts st → s < stores_of st → Unmoved (store_of st s) y
    → length y.pins ≤ entries_of st s + need → entries_of st s + need ≤ store_pins
    → StoreSound st.tree (next_id_of st) y → Parts (with_pins s need y st)
unfolding with_pins lay_book store_of
pins-changed st s need y h less same few room sound =
    let way = midway_same st s h in
    let fit : PinsFit st s need y = record {
      pins = few;
      room = room;
      counted = sound.entries;
      records = same.records;
      ranges = same.ranges;
      marks = same.marks;
    } in
    let laid = laid-pins st s need y (midway_sizes st.tree s st way) less fit in
    midway_end st.tree (suc s) (with_pins s need y st)
    (turn st.tree s st way y (with_pins s need y st) laid less (le_refl (next_id_of st)) sound
    (rw (← same.ranges) (ids-same (next_id_of st) y.ranges)) h.next_id h.stalls)
    (λ q low l g. g)
