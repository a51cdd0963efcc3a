-- The view of a store: what is laid in a store's part of the pools is read back from it, another store's is as it was, and to lay back what was read
-- changes nothing. Assumes nothing.
use Prim.Native.Nat.{ℕ, ◌+◌, ◌*◌, ◌≤◌, ◌<◌}
use mathlib.Core.Path.{◌≡◌, refl, sym, ap, subst, ◌∙◌}
use mathlib.Core.Logic.{◌≢◌}
use mathlib.Core.Bool.{false}
use mathlib.Core.List.{List}
use native.Mathlib.Omega.{arith}
use native.Mathlib.Nat.{add-zero, le_refl}
use native.Mathlib.Decide.{ℕ_discrete}
use lib.ListN.{length, get_or, take, drop, length-take, length-drop}
use lib.Seq.{get_or-take, get_or-drop}
use Rattle.model.specs.declared.Book.{Book}
use Rattle.model.specs.Sizes.{max_stores, max_records, max_pins, max_marks, max_numbers, table_length, store_records, store_pins, store_marks}
use Rattle.model.specs.State.{Ranges, Pins, State, Range, Pin, record_of, entry_of, mark_of, stores_of, book_in, book_of, records_of, entries_of}
use Rattle.model.specs.Sound.{Sound, Lent, TreeLent, RangesLent, PinsLent, held_by, pinned_by, HoldsNone}
use Rattle.model.specs.Store.{Store, ranges, pins, store_of, lay, lay_ranges, lay_pins, lay_book, lay_next, with_ranges, with_pins, with_next, total, on_node}
use Rattle.model.specs.Pins.{pinned_in}
use Rattle.theory_lay.proofs.Lay.{apart-stores, lay_length, lay-read, lay_window}
use Rattle.theory_lay.proofs.Books.{book-read, book-other, book_length, book-back, next_length}
use Rattle.theory_lay.proofs.Rows.{ranges_length, ranges-at, pins_length, pins-at, held-total, pinned-sum, none-off, off-none}
use Rattle.theory_lay.proofs.Pools.{ranges-lent, ranges_in, ranges-off, pins-lent, pins_in_lem, pins-off, pins-back}

-- ---- the sizes with which store s is read and laid back

pub record Roomy (st : State) (s : ℕ) : Type 0 where
  pub ranges : RangesLent st.ranges
  pub pins : PinsLent st.pins
  pub marks : max_marks ≤ length st.marks
  pub books : max_numbers ≤ length st.books
  pub store : s < max_stores
  pub records : records_of st s ≤ store_records
  pub entries : entries_of st s ≤ store_pins

pub sound-roomy : (st : State) (s : ℕ) → Sound st → s < stores_of st → Roomy st s
sound-roomy st s h less =
    record {
      ranges = h.lent.ranges;
      pins = h.lent.pins;
      marks = h.lent.marks;
      books = h.lent.books;
      store = omega (arith, h.counts.stores);
      records = (h.counts.each s (omega arith) less).records;
      entries = (h.counts.each s (omega arith) less).entries;
    }

pub roomy-lent : (st : State) (s : ℕ) → Roomy st s → TreeLent st.tree → table_length ≤ length st.bytes → Lent st
roomy-lent st s h tree bytes = record { tree = tree; ranges = h.ranges; pins = h.pins; marks = h.marks; bytes = bytes; books = h.books }

-- x's ranges and marks have room in store s where `need` new records are needed, and its pins are the store's
pub record RangesFit (st : State) (s need : ℕ) (x : Store) : Type 0 where
  pub ranges : length x.ranges ≤ records_of st s + need
  pub room : records_of st s + need ≤ store_records
  pub marks : length x.marks ≡ store_marks
  pub counted : x.book.records ≡ length x.ranges
  pub entries : x.book.entries ≡ entries_of st s
  pub pins : x.pins ≡ (store_of st s).pins

-- x's pins have room where as many entries are needed, and its ranges and marks are the store's
pub record PinsFit (st : State) (s need : ℕ) (x : Store) : Type 0 where
  pub pins : length x.pins ≤ entries_of st s + need
  pub room : entries_of st s + need ≤ store_pins
  pub counted : x.book.entries ≡ length x.pins
  pub records : x.book.records ≡ records_of st s
  pub ranges : x.ranges ≡ (store_of st s).ranges
  pub marks : x.marks ≡ (store_of st s).marks

-- ---- a store's places

module _ (st : State) (s : ℕ) where
  pub store-book : (store_of st s).book ≡ book_of st s
  unfolding store_of
  store-book = refl

  pub records_length : length (store_of st s).ranges ≡ records_of st s
  unfolding store_of
  records_length = ranges_length st.ranges (store_records * s) (records_of st s)

  pub record_at : (k : ℕ) (d : Range) → k < records_of st s → get_or (store_of st s).ranges k d ≡ record_of st s k
  unfolding store_of
  record_at k d h = ranges-at st.ranges (store_records * s) (records_of st s) k d h

  pub entries_length : length (store_of st s).pins ≡ entries_of st s
  unfolding store_of
  entries_length = pins_length st.pins (store_pins * s) (entries_of st s)

  pub entry_at : (k : ℕ) (d : Pin) → k < entries_of st s → get_or (store_of st s).pins k d ≡ entry_of st s k
  unfolding store_of
  entry_at k d h = pins-at st.pins (store_pins * s) (entries_of st s) k d h

  pub marks_length : max_marks ≤ length st.marks → s < max_stores → length (store_of st s).marks ≡ store_marks
  unfolding store_of
  marks_length long less = simp (length-take, length-drop) (omega arith)

  pub mark_at : (v : ℕ) → v < store_marks → get_or (store_of st s).marks v 0 ≡ mark_of st s v
  unfolding store_of
  mark_at v h = rw (get_or-take, get_or-drop)

  -- the sums, and whether the store holds anything of node v, by its lists
  pub held-store : held_by st s (records_of st s) ≡ total (store_of st s).ranges
  unfolding store_of
  held-store = held-total st s (records_of st s)

  pub pinned-store : pinned_by st s (entries_of st s) ≡ pinned_in (store_of st s).pins
  unfolding store_of
  pinned-store = pinned-sum st s (entries_of st s)

  pub holds-off : (v : ℕ) → HoldsNone st s v → on_node v (store_of st s).ranges ≡ false
  unfolding store_of
  holds-off v none = none-off st.ranges (store_records * s) (records_of st s) v none

  pub off-holds : (v : ℕ) → on_node v (store_of st s).ranges ≡ false → HoldsNone st s v
  unfolding store_of
  off-holds v off = off-none st.ranges (store_records * s) (records_of st s) v off

-- ---- what holds of the new numbers of a store and of all the old ones holds of all the new ones

either : (P : Book → Type 0) (s : ℕ) (l : List ℕ) → s < max_stores → max_numbers ≤ length l → (b : Book) (q : ℕ) → P b → P (book_in l q)
    → P (book_in (lay_book s b l) q)
either P s l less long b q new old = go (ℕ_discrete q s)
  where
    go : Dec (q ≡ s) → P (book_in (lay_book s b l) q)
    go (yes e) = subst (λ (k : ℕ). P (book_in (lay_book s b l) k)) (sym e) (subst P (sym (book-read s l less long b)) new)
    go (no n) = subst P (sym (book-other s l less long b q n)) old

-- ---- the ranges' side

laid_ranges : State → ℕ → ℕ → Store → Ranges
laid_ranges st s need x = lay_ranges (store_records * s) (records_of st s + need) x.ranges st.ranges

laid_marks : State → ℕ → Store → List ℕ
laid_marks st s x = lay 0 (store_marks * s) store_marks x.marks st.marks

-- what is laid is read back, the rest of the store is as it was; the other stores are; and the sizes stay
module _ (st : State) (s need : ℕ) (x : Store) (roomy : Roomy st s) (fit : RangesFit st s need x) where
  fits-ranges : store_records * s + (records_of st s + need) ≤ max_records
  fits-ranges = omega arith

  fits-marks : store_marks * s + store_marks ≤ length st.marks
  fits-marks = omega arith

  short-marks : length x.marks ≤ store_marks
  short-marks = omega arith

  -- x's numbers stand in the store's part
  read-book : book_in (lay_book s x.book st.books) s ≡ x.book
  read-book = book-read s st.books roomy.store roomy.books x.book

  read-ranges : ranges (laid_ranges st s need x) (store_records * s) (book_in (lay_book s x.book st.books) s).records ≡ x.ranges
  unfolding laid_ranges
  read-ranges =
      rw (read-book, fit.counted)
      (ranges_in (store_records * s) (records_of st s + need) x.ranges st.ranges roomy.ranges fit.ranges fits-ranges)

  same-pins : pins st.pins (store_pins * s) (book_in (lay_book s x.book st.books) s).entries ≡ x.pins
  unfolding store_of
  same-pins = ap (λ (n : ℕ). pins st.pins (store_pins * s) n) (ap (λ (b : Book). b.entries) read-book ∙ fit.entries) ∙ sym fit.pins

  read-marks : take store_marks (drop (store_marks * s) (laid_marks st s x)) ≡ x.marks
  unfolding laid_marks
  read-marks = rw fit.marks at (lay-read 0 (store_marks * s) store_marks x.marks st.marks short-marks fits-marks)

  pub ranges-read : store_of (with_ranges s need x st) s ≡ x
  unfolding store_of with_ranges laid_ranges laid_marks
  ranges-read = λ j. record { book = read-book j; ranges = read-ranges j; pins = same-pins j; marks = read-marks j }

  module _ (q : ℕ) (other : q ≢ s) (few : records_of st q ≤ store_records) where
    other-book : book_in (lay_book s x.book st.books) q ≡ book_of st q
    other-book = book-other s st.books roomy.store roomy.books x.book q other

    other-ranges : ranges (laid_ranges st s need x) (store_records * q) (book_in (lay_book s x.book st.books) q).records
        ≡ ranges st.ranges (store_records * q) (records_of st q)
    unfolding laid_ranges
    other-ranges =
        rw other-book
        (ranges-off (store_records * s) (records_of st s + need) x.ranges st.ranges roomy.ranges fit.ranges fits-ranges
        (store_records * q) (records_of st q)
        (apart-stores store_records q s (records_of st q) (records_of st s + need) other few fit.room))

    other-marks : take store_marks (drop (store_marks * q) (laid_marks st s x)) ≡ take store_marks (drop (store_marks * q) st.marks)
    unfolding laid_marks
    other-marks =
        lay_window 0 (store_marks * s) store_marks x.marks st.marks short-marks fits-marks (store_marks * q) store_marks
        (apart-stores store_marks q s store_marks store_marks other (le_refl store_marks) (le_refl store_marks))

    pub ranges-other : store_of (with_ranges s need x st) q ≡ store_of st q
    unfolding store_of with_ranges laid_ranges laid_marks
    ranges-other =
        λ j.
        record {
          book = other-book j;
          ranges = other-ranges j;
          pins = pins st.pins (store_pins * q) (other-book j).entries;
          marks = other-marks j;
        }

  pub ranges-roomy : (q : ℕ) → Roomy st q → Roomy (with_ranges s need x st) q
  unfolding with_ranges
  ranges-roomy q h =
      let less = roomy.store in
      let long = roomy.books in
      record {
        ranges = ranges-lent (store_records * s) (records_of st s + need) x.ranges st.ranges roomy.ranges fit.ranges fits-ranges;
        pins = h.pins;
        marks = rw (lay_length 0 (store_marks * s) store_marks x.marks st.marks short-marks fits-marks) h.marks;
        books = rw (book_length s st.books less long x.book) h.books;
        store = h.store;
        records = either (λ b. b.records ≤ store_records) s st.books less long x.book q (omega (arith, fit.counted)) h.records;
        entries = either (λ b. b.entries ≤ store_pins) s st.books less long x.book q (rw fit.entries roomy.entries) h.entries;
      }

  pub lent-ranges : Lent st → Lent (with_ranges s need x st)
  unfolding with_ranges
  lent-ranges h = roomy-lent (with_ranges s need x st) s (ranges-roomy s roomy) h.tree h.bytes

-- ---- the pins' side

laid_pins : State → ℕ → ℕ → Store → Pins
laid_pins st s need x = lay_pins (store_pins * s) (entries_of st s + need) x.pins st.pins

module _ (st : State) (s need : ℕ) (x : Store) (roomy : Roomy st s) (fit : PinsFit st s need x) where
  fits-pins : store_pins * s + (entries_of st s + need) ≤ max_pins
  fits-pins = omega arith

  written-book : book_in (lay_book s x.book st.books) s ≡ x.book
  written-book = book-read s st.books roomy.store roomy.books x.book

  read-pins : pins (laid_pins st s need x) (store_pins * s) (book_in (lay_book s x.book st.books) s).entries ≡ x.pins
  unfolding laid_pins
  read-pins =
      rw (written-book, fit.counted)
      (pins_in_lem (store_pins * s) (entries_of st s + need) x.pins st.pins roomy.pins fit.pins fits-pins)

  same-ranges : ranges st.ranges (store_records * s) (book_in (lay_book s x.book st.books) s).records ≡ x.ranges
  unfolding store_of
  same-ranges =
      ap (λ (n : ℕ). ranges st.ranges (store_records * s) n) (ap (λ (b : Book). b.records) written-book ∙ fit.records) ∙ sym fit.ranges

  same-marks : take store_marks (drop (store_marks * s) st.marks) ≡ x.marks
  unfolding store_of
  same-marks = sym fit.marks

  pub pins-read : store_of (with_pins s need x st) s ≡ x
  unfolding store_of with_pins laid_pins
  pins-read = λ j. record { book = written-book j; ranges = same-ranges j; pins = read-pins j; marks = same-marks j }

  module _ (q : ℕ) (other : q ≢ s) (few : entries_of st q ≤ store_pins) where
    kept-book : book_in (lay_book s x.book st.books) q ≡ book_of st q
    kept-book = book-other s st.books roomy.store roomy.books x.book q other

    other-pins : pins (laid_pins st s need x) (store_pins * q) (book_in (lay_book s x.book st.books) q).entries
        ≡ pins st.pins (store_pins * q) (entries_of st q)
    unfolding laid_pins
    other-pins =
        rw kept-book
        (pins-off (store_pins * s) (entries_of st s + need) x.pins st.pins roomy.pins fit.pins fits-pins
        (store_pins * q) (entries_of st q)
        (apart-stores store_pins q s (entries_of st q) (entries_of st s + need) other few fit.room))

    pub pins-other : store_of (with_pins s need x st) q ≡ store_of st q
    unfolding store_of with_pins laid_pins
    pins-other =
        λ j.
        record {
          book = kept-book j;
          ranges = ranges st.ranges (store_records * q) (kept-book j).records;
          pins = other-pins j;
          marks = (store_of st q).marks;
        }

  pub pins-roomy : (q : ℕ) → Roomy st q → Roomy (with_pins s need x st) q
  unfolding with_pins
  pins-roomy q h =
      let less = roomy.store in
      let long = roomy.books in
      record {
        ranges = h.ranges;
        pins = pins-lent (store_pins * s) (entries_of st s + need) x.pins st.pins roomy.pins fit.pins fits-pins;
        marks = h.marks;
        books = rw (book_length s st.books less long x.book) h.books;
        store = h.store;
        records = either (λ b. b.records ≤ store_records) s st.books less long x.book q (rw fit.records roomy.records) h.records;
        entries = either (λ b. b.entries ≤ store_pins) s st.books less long x.book q (omega (arith, fit.counted)) h.entries;
      }

  pub lent-pins : Lent st → Lent (with_pins s need x st)
  unfolding with_pins
  lent-pins h = roomy-lent (with_pins s need x st) s (pins-roomy s roomy) h.tree h.bytes

module _ (st : State) (s : ℕ) (roomy : Roomy st s) where
  back-pins : laid_pins st s 0 (store_of st s) ≡ st.pins
  unfolding laid_pins store_of
  back-pins = rw add-zero (pins-back (store_pins * s) (entries_of st s) st.pins roomy.pins (omega arith))

  pub pins-same : with_pins s 0 (store_of st s) st ≡ st
  unfolding with_pins store_of laid_pins
  pins-same =
      λ j.
      record {
        tree = st.tree;
        ranges = st.ranges;
        pins = back-pins j;
        marks = st.marks;
        bytes = st.bytes;
        books = book-back s st.books roomy.store roomy.books j;
      }

-- ---- the next id and the stalls

module _ (next stalls : ℕ) (st : State) where
  pub next-store : (q : ℕ) → store_of (with_next next stalls st) q ≡ store_of st q
  unfolding store_of with_next book_in lay_next
  next-store q = refl

  pub lent-next : Lent st → Lent (with_next next stalls st)
  unfolding with_next
  lent-next h =
      record {
        tree = h.tree;
        ranges = h.ranges;
        pins = h.pins;
        marks = h.marks;
        bytes = h.bytes;
        books = rw (next_length st.books h.books next stalls) h.books;
      }
