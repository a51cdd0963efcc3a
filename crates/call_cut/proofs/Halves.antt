-- What the cut of a store's ranges and the cut of its marks leave, for the marks look at the ranges as they were laid; and with the cut of its pin
-- entries and its numbers written it is the cut of the store in the state. Assumes nothing.
use mathlib.Core.Path.{◌≡◌, sym, ap, ap₂, subst, ◌∙◌}
use mathlib.Core.List.{List, []}
use Prim.Native.Nat.{ℕ, ◌+◌, ◌*◌, ◌≤◌, ◌<◌}
use native.Mathlib.Omega.{arith}
use native.Mathlib.Nat.{le_refl}
use lib.ListN.{length, take, drop, length-drop}
use Rattle.model.specs.declared.Book.{Book}
use Rattle.model.specs.Sizes.{max_stores, max_numbers, store_numbers}
use Rattle.model.specs.State.{Tree, Ranges, Pins, Range, Pin, State, at, whole, next_id_in, stalls_in, parts_in, numbers, book_from, book_in, changed}
use Rattle.model.specs.Store.{Store, lay, ranges, lay_ranges, pins, lay_pins, lay_book, lay_next, store_of, with_ranges, with_pins, with_next}
use Rattle.model.specs.Insert.{ranges_across, cut_marks, cut_pins, pins_across, cut_store, ranges_from, cut_store_in}
use Rattle.model.specs.Pins.{pinned_in}
use Rattle.shape_state.specs.Lent.{state_of}
use Rattle.theory_lay.proofs.Books.{book-read}
use Rattle.theory_lay.proofs.Lay.{lay-lay}
use Rattle.theory_lay.proofs.Pools.{ranges_in}
use Rattle.theory_lay.proofs.Rows.{ranges_length}
use Rattle.theory_sound.specs.Facts.{All}
use Rattle.theory_cut.proofs.CutStore.{cut_last, cut-last, cut_store_length, cut_store-pinned}
use Rattle.rule_cut.specs.declared.After.{After}
use Rattle.call_cut.specs.Halves.{halves, cut_book, RangesRoom, RangesCut, StoreRoom}

-- ---- the ranges and the marks

-- a store of these ranges, whatever its numbers
abbrev store_with : List Range → Store
store_with rs =
    record {
      book = book_from [];
      ranges = rs;
      pins = [];
      marks = [];
    }

cut-long : (j k m next : ℕ) (rs : List Range) → All (λ r. r.node < m) rs → length (halves j k m next rs) ≡ length rs + ranges_across j k rs
cut-long j k m next rs below =
    sym (ap (λ (y : Store). length y.ranges) (cut-last j k m next (store_with rs) below)) ∙ cut_store_length j k m next (store_with rs) below

pub half_is : (j k m s n next : ℕ) (c : Ranges) (ms : List ℕ) → RangesRoom j k m s n next c ms → (c' : Ranges) (ms' : List ℕ) (r : After)
    → c' ≡ lay_ranges (128 * s) (n + ranges_across j k (ranges c (128 * s) n)) (halves j k m next (ranges c (128 * s) n)) c
    → r.n ≡ n + ranges_across j k (ranges c (128 * s) n)
    → r.next ≡ next + ranges_across j k (ranges c (128 * s) n)
    → ms' ≡ lay 0 (256 * s) 256 (cut_marks j k m (ranges c' (128 * s) r.n) (take 256 (drop (256 * s) ms))) ms
    → RangesCut j k m s n next c ms c' ms' r
half_is j k m s n next c ms room c' ms' r a b d f =
    record {
      laid = a;
      marks = f ∙ ap (λ (rs : List Range). lay 0 (256 * s) 256 (cut_marks j k m rs (take 256 (drop (256 * s) ms))) ms) read;
      count = long;
      ids = d;
    }
  where
    long : r.n ≡ length (halves j k m next (ranges c (128 * s) n))
    long =
        b
        ∙ sym (cut-long j k m next (ranges c (128 * s) n) room.below ∙ ap (λ (z : ℕ). z + ranges_across j k (ranges c (128 * s) n)) (ranges_length c (128 * s) n))

    read : ranges c' (128 * s) r.n ≡ halves j k m next (ranges c (128 * s) n)
    read =
        ap₂ (λ (u : Ranges) (v : ℕ). ranges u (128 * s) v) a long
        ∙ ranges_in (128 * s) (n + ranges_across j k (ranges c (128 * s) n)) (halves j k m next (ranges c (128 * s) n)) c room.lent
        (omega (arith, long)) (omega (arith, room.records, room.store))

-- ---- the numbers

-- a store's numbers laid twice
book_twice : (s : ℕ) (l : List ℕ) → s < max_stores → max_numbers ≤ length l → (a b : Book) → lay_book s b (lay_book s a l) ≡ lay_book s b l
unfolding lay_book
book_twice s l less long a b =
    ap (λ (xs : List ℕ). whole (at l 0) (at l 1) (at l 2) (at l 3) (at l 4) xs)
    (lay-lay 0 (store_numbers * s) store_numbers store_numbers (numbers a) (numbers b) (parts_in l) (le_refl store_numbers) (le_refl store_numbers)
    (rw length-drop (omega arith)))

pub books-are : (s : ℕ) (b : Book) (r : After) (entries : ℕ) (l l₁ l₂ : List ℕ) → l₁ ≡ lay_book s (cut_book b r.n entries) l
    → l₂ ≡ lay_next r.next (stalls_in l) l₁ → l₂ ≡ lay_next r.next (stalls_in l) (lay_book s (cut_book b r.n entries) l)
books-are s b r entries l l₁ l₂ e f = f ∙ ap (λ (i : List ℕ). lay_next r.next (stalls_in l) i) e

same-pinned : (j k m next : ℕ) (x : Store) → pinned_in (cut_pins j k m x.pins) ≡ pinned_in x.pins
unfolding cut_store
same-pinned j k m next x = cut_store-pinned j k m next x

-- ---- the store

module _ (j k m s : ℕ) (c : Ranges) (p : Pins) (ms l : List ℕ) (room : StoreRoom j k m s c p ms l) where
  -- b is the store's numbers: what is left makes the state with the store cut
  abbrev pub Makes : Ranges → Pins → List ℕ → List ℕ → After → ℕ → Book → Type 0
  Makes c' p' ms' l' r entries b =
      RangesCut j k m s b.records (next_id_in l) c ms c' ms' r
      → p' ≡ lay_pins (32 * s) (b.entries + pins_across j k (pins p (32 * s) b.entries)) (cut_pins j k m (pins p (32 * s) b.entries)) p
      → entries ≡ length (cut_pins j k m (pins p (32 * s) b.entries))
      → l' ≡ lay_next r.next (stalls_in l) (lay_book s (cut_book b r.n entries) l)
      → (t : Tree) (bytes : List ℕ) → state_of t c' p' ms' bytes l' ≡ cut_store_in j k m s (state_of t c p ms bytes l)

  makes : (c' : Ranges) (p' : Pins) (ms' l' : List ℕ) (r : After) (entries : ℕ) → Makes c' p' ms' l' r entries (book_in l s)
  unfolding cut_store_in with_next with_pins with_ranges store_of
  makes c' p' ms' l' r entries h q e g t bytes = left ∙ ap put (sym (cut-last j k m (next_id_in l) x room.half.below))
    where
      st : State
      st = state_of t c p ms bytes l

      x : Store
      x = store_of (state_of t c p ms bytes l) s

      b : Book
      b = book_in l s

      new : ℕ
      new = ranges_across j k (ranges c (128 * s) (book_in l s).records)

      ps : List Pin
      ps = cut_pins j k m (pins p (32 * s) (book_in l s).entries)

      put : Store → State
      put y =
          with_next (next_id_in l + new) (stalls_in l) (with_pins s (pins_across j k (pins p (32 * s) b.entries)) y (with_ranges s new (ranges_from y x) st))

      -- the numbers with the ranges' half alone
      first : Book
      first = (ranges_from (cut_last j k m (next_id_in l) x) x).book

      laid-pins : p' ≡ lay_pins (32 * s) ((book_in (lay_book s first l) s).entries + pins_across j k (pins p (32 * s) b.entries)) ps p
      laid-pins =
          q
          ∙ ap (λ (d : Book). lay_pins (32 * s) (d.entries + pins_across j k (pins p (32 * s) b.entries)) ps p)
          (sym (book-read s l room.half.store room.books first))

      still : b.pinned ≡ pinned_in ps
      still = room.pinned ∙ sym (same-pinned j k m 0 x)

      written : lay_next r.next (stalls_in l) (lay_book s (cut_book b r.n entries) l)
          ≡ lay_next (next_id_in l + new) (stalls_in l) (lay_book s (cut_last j k m (next_id_in l) x).book l)
      written = λ i. lay_next (h.ids i) (stalls_in l) (lay_book s (changed b (h.count i) b.held b.stamp b.version (e i) (still i)) l)

      laid-books : l' ≡ lay_next (next_id_in l + new) (stalls_in l) (lay_book s (cut_last j k m (next_id_in l) x).book (lay_book s first l))
      laid-books =
          g
          ∙ written
          ∙ ap (λ (i : List ℕ). lay_next (next_id_in l + new) (stalls_in l) i)
          (sym (book_twice s l room.half.store room.books first (cut_last j k m (next_id_in l) x).book))

      left : state_of t c' p' ms' bytes l' ≡ put (cut_last j k m (next_id_in l) x)
      left = λ i. record { tree = t; ranges = h.laid i; pins = laid-pins i; marks = h.marks i; bytes = bytes; books = laid-books i }

  module _ (b : Book) (is : b ≡ book_in l s) where
    pub store_is : (c' : Ranges) (p' : Pins) (ms' l' : List ℕ) (r : After) (entries : ℕ) → Makes c' p' ms' l' r entries b
    store_is c' p' ms' l' r entries = subst (λ (d : Book). Makes c' p' ms' l' r entries d) (sym is) (makes c' p' ms' l' r entries)
