-- A store's part of the columns into which a list of ranges was laid: the list is read back from it, and one eviction on the columns is one on the list.
use Rattle.std.proofs.Common.{◌≡◌, ℕ, zero, suc, ◌+◌, ◌-◌, ◌%◌, ◌<◌, ◌≤◌, Bool, true, false, leb, List, [], ◌∷◌, map, length, get_or, set, sym, refl, ap, ◌∙◌, subst, zero-add, add-one, arith, length-set, le-leb, leb-true}
use Rattle.std.proofs.lemmas.List.{length-take-le, length-drop, length-append}
use lib.ListN.{length-map, get_or-map}
use lib.Seq.{set-get_or}
use lib.Ieee.{nan}
use borrow.Author.Tests.{lt-leb}
use Rattle.model.specs.Words.{pick}
use Rattle.model.specs.declared.Span.{Span}
use Rattle.model.specs.Sizes.{max_hashes, store_records, table_length, versions}
use Rattle.model.specs.State.{Tree, Ranges, Range, at, range_at}
use Rattle.model.specs.Sound.{Inside, EndsWithin, Rising}
use Rattle.model.specs.Store.{ranges, lay, lay_ranges, no_time, length_of, total, on_node, part, unmark}
use Rattle.model.specs.Trim.{no_range, nth, evict}
use Rattle.model.specs.Refusals.{OutList, OutFits}
use Rattle.theory_sound.specs.Facts.{All}
use Rattle.theory_sound.specs.StoreSound.{TreeSound, RangesSound, MarksSound}
use Rattle.theory_bring.proofs.Facts.{all_map, thin_all}
use Rattle.theory_bring.proofs.Evict.{Cut, evict-cut, evict-whole}
use Rattle.theory_lay.proofs.Lay.{lay_length, lay-same, column_in}
use Rattle.theory_lay.proofs.Rows.{rows, rows_length, rows-list, rows_column, ranges-rows, ranges-at}
use Rattle.shape_state.specs.Lent.{ranges_of}
use Rattle.rule_resolve.specs.Span.{Priced}
use Rattle.pool_range.specs.Cols.{remove_at, cut_at}
use Rattle.pool_range.proofs.Laid.{set-lay}
use Rattle.pool_range.specs.Part.{Sized, cut_range}
use Rattle.pool_range.proofs.Records.{ranges_eq, cut-laid, map_set}
use Rattle.rule_evict.specs.Evict.{Left, left, end_at, evict_cols, tail_of, Reach, Tabled}
use Rattle.rule_evict.specs.Given.{Ready}

-- ---- a version, raised by 1 at each eviction

pub raise_none : {v : ℕ} → v < versions → v ≡ (v + 0) % versions
raise_none h = omega arith

pub raise_more : (v k : ℕ) → ((v + k) % versions + 1) % versions ≡ (v + (k + 1)) % versions
raise_more v k = omega arith

-- ---- a list that was laid into a part

-- what is read past a column's end
abbrev past : Range
past = record { node = 0; start = 0; end = 0; id = 0; stamp = 0; touched = nan; write = 0 }

module _ {n : ℕ} {c : Ranges} (sized : Sized n c) (k : ℕ) (rs : List Range) (short : length rs ≤ k) (fits : k ≤ n) where
  long : {m : ℕ} → m ≡ n → 0 + k ≤ m
  long e = omega arith

  more : {m : ℕ} → m ≡ n → n ≤ m
  more e = omega arith

  col_short : {A : Type 0} (f : Range → A) → length (map f rs) ≤ k
  col_short f = rw (length-map rs f) short

  pub laid-sized : Sized n (lay_ranges 0 k rs c)
  unfolding lay_ranges
  laid-sized =
      record {
        node = lay_length 0 0 k (map (λ r. r.node) rs) c.node (col_short (λ r. r.node)) (long sized.node) ∙ sized.node;
        start = lay_length 0 0 k (map (λ r. r.start) rs) c.start (col_short (λ r. r.start)) (long sized.start) ∙ sized.start;
        end = lay_length 0 0 k (map (λ r. r.end) rs) c.end (col_short (λ r. r.end)) (long sized.end) ∙ sized.end;
        id = lay_length 0 0 k (map (λ r. r.id) rs) c.id (col_short (λ r. r.id)) (long sized.id) ∙ sized.id;
        stamp = lay_length 0 0 k (map (λ r. r.stamp) rs) c.stamp (col_short (λ r. r.stamp)) (long sized.stamp) ∙ sized.stamp;
        touched = lay_length no_time 0 k (map (λ r. r.touched) rs) c.touched (col_short (λ r. r.touched)) (long sized.touched) ∙ sized.touched;
        write = lay_length 0 0 k (map (λ r. r.write) rs) c.write (col_short (λ r. r.write)) (long sized.write) ∙ sized.write;
      }

  laid-at : (i : ℕ) → i < length rs → range_at (lay_ranges 0 k rs c) (0 + i) ≡ get_or rs i past
  unfolding lay_ranges
  laid-at i h =
      λ j. record {
        node = column_in 0 k n rs short (long refl) (λ r. r.node) 0 c.node (more sized.node) i past h j;
        start = column_in 0 k n rs short (long refl) (λ r. r.start) 0 c.start (more sized.start) i past h j;
        end = column_in 0 k n rs short (long refl) (λ r. r.end) 0 c.end (more sized.end) i past h j;
        id = column_in 0 k n rs short (long refl) (λ r. r.id) 0 c.id (more sized.id) i past h j;
        stamp = column_in 0 k n rs short (long refl) (λ r. r.stamp) 0 c.stamp (more sized.stamp) i past h j;
        touched = column_in 0 k n rs short (long refl) (λ r. r.touched) no_time c.touched (more sized.touched) i past h j;
        write = column_in 0 k n rs short (long refl) (λ r. r.write) 0 c.write (more sized.write) i past h j;
      }

  pub laid-read : ranges (lay_ranges 0 k rs c) 0 (length rs) ≡ rs
  laid-read = rw ranges-rows (rows-list (range_at (lay_ranges 0 k rs c)) 0 rs past laid-at)

-- what was read, laid back
pub laid-back : {n : ℕ} {c : Ranges} → Sized n c → (k : ℕ) → k ≤ n → lay_ranges 0 k (ranges c 0 k) c ≡ c
unfolding lay_ranges
laid-back {n} {c} sized k fits =
    rw (ranges-rows c 0 k)
    (λ j. record {
      node = back (λ r. r.node) 0 0 c.node sized.node (λ i. refl) j;
      start = back (λ r. r.start) 0 0 c.start sized.start (λ i. refl) j;
      end = back (λ r. r.end) 0 0 c.end sized.end (λ i. refl) j;
      id = back (λ r. r.id) 0 0 c.id sized.id (λ i. refl) j;
      stamp = back (λ r. r.stamp) 0 0 c.stamp sized.stamp (λ i. refl) j;
      touched = back (λ r. r.touched) no_time nan c.touched sized.touched (λ i. refl) j;
      write = back (λ r. r.write) 0 0 c.write sized.write (λ i. refl) j;
    })
  where
    back : {A : Type 0} (f : Range → A) (blank d : A) (pool : List A) → length pool ≡ n → ((i : ℕ) → f (range_at c i) ≡ get_or pool i d)
        → lay blank 0 k (map f (rows (range_at c) 0 k)) pool ≡ pool
    back f blank d pool e same =
        lay-same blank 0 k (map f (rows (range_at c) 0 k)) pool (length-map (rows (range_at c) 0 k) f ∙ rows_length (range_at c) 0 k)
        (rows_column f (range_at c) pool d 0 k same (omega arith))

-- the record at i is the list's
pub record_is : (c : Ranges) (n i : ℕ) (rs : List Range) → ranges c 0 n ≡ rs → i < n → range_at c i ≡ nth rs i
record_is c n i rs e h = sym (ap (λ (l : List Range). nth l i) (sym e) ∙ ranges-at c 0 n i no_range h ∙ rw zero-add)

-- ---- one eviction

-- a column of which the element at i is as it was
map_kept : {B : Type 0} (f : Range → B) (rs : List Range) (i : ℕ) (x : Range) → f x ≡ f (nth rs i) → map f (set rs i x) ≡ map f rs
map_kept f rs i x e =
    map_set f rs i x ∙ ap (λ b. set (map f rs) i b) (e ∙ sym (get_or-map f rs i no_range)) ∙ set-get_or (map f rs) i (f no_range)

abbrev shorter : Range → ℕ → Range
shorter r k = part r r.node r.start (r.end - k) r.id

evict-gone : (rs : List Range) (i k : ℕ) → leb (length_of (nth rs i)) k ≡ true → i < length rs → evict rs i k ≡ remove_at i rs
unfolding evict remove_at
evict-gone [] i k e h = absurd (omega arith)
evict-gone (r ∷ rs) zero k e h = rw e
evict-gone (r ∷ rs) (suc i) k e h = rw (add-one (suc i)) (ap (λ t. r ∷ t) (evict-gone rs i k e (omega arith) ∙ rw (add-one i)))

evict-kept : (rs : List Range) (i k : ℕ) → leb (length_of (nth rs i)) k ≡ false → evict rs i k ≡ set rs i (shorter (nth rs i) k)
unfolding evict
evict-kept [] i k e = refl
evict-kept (r ∷ rs) zero k e = rw e
evict-kept (r ∷ rs) (suc i) k e = ap (λ t. r ∷ t) (evict-kept rs i k e)

end-laid : (n i e : ℕ) (x : Range) (rs : List Range) (c : Ranges) → i < length rs → x.node ≡ (nth rs i).node → x.start ≡ (nth rs i).start → x.end ≡ e
    → x.id ≡ (nth rs i).id → x.stamp ≡ (nth rs i).stamp → x.touched ≡ (nth rs i).touched → x.write ≡ (nth rs i).write
    → end_at i e (lay_ranges 0 n rs c) ≡ lay_ranges 0 n (set rs i x) c
unfolding end_at lay_ranges
end-laid n i e x rs c h p q r s t u v =
    ranges_eq (same (λ y. y.node) 0 c.node p) (same (λ y. y.start) 0 c.start q)
    (rw (← r) (set-lay 0 i n x.end (map (λ y. y.end) rs) c.end (rw (length-map rs (λ y. y.end)) h)
    ∙ ap (λ b. lay 0 0 n b c.end) (sym (map_set (λ y. y.end) rs i x))))
    (same (λ y. y.id) 0 c.id s) (same (λ y. y.stamp) 0 c.stamp t) (same (λ y. y.touched) no_time c.touched u)
    (same (λ y. y.write) 0 c.write v)
  where
    same : {B : Type 0} (f : Range → B) (blank : B) (l : List B) → f x ≡ f (nth rs i) → lay blank 0 n (map f rs) l ≡ lay blank 0 n (map f (set rs i x)) l
    same f blank l e = ap (λ b. lay blank 0 n b l) (sym (map_kept f rs i x e))

left_eq : {c d : Ranges} {n m : ℕ} → c ≡ d → n ≡ m → left c n ≡ left d m
left_eq p q = cc

module _ {N : ℕ} {c : Ranges} (sized : Sized N c) (n i k : ℕ) (rs : List Range) (short : length rs ≤ n) (fits : n ≤ N) (h : i < length rs) where
  at-laid : range_at (lay_ranges 0 n rs c) i ≡ nth rs i
  at-laid = record_is (lay_ranges 0 n rs c) (length rs) i rs (laid-read sized n rs short fits) h

  pub evict-laid : evict_cols (length rs) i k (lay_ranges 0 n rs c) ≡ left (lay_ranges 0 n (evict rs i k) c) (length (evict rs i k))
  unfolding evict_cols
  evict-laid =
      ap (λ (r : Range). pick (leb (length_of r) k) (left (cut_range i (length rs) (lay_ranges 0 n rs c)) (length rs - 1)) (left (end_at i (at (lay_ranges 0 n rs c).end i - k) (lay_ranges 0 n rs c)) (length rs)))
      at-laid
      ∙ go (leb (length_of (nth rs i)) k) refl
    where
      go : (b : Bool) → leb (length_of (nth rs i)) k ≡ b
          → pick b (left (cut_range i (length rs) (lay_ranges 0 n rs c)) (length rs - 1))
          (left (end_at i (at (lay_ranges 0 n rs c).end i - k) (lay_ranges 0 n rs c)) (length rs))
          ≡ left (lay_ranges 0 n (evict rs i k) c) (length (evict rs i k))
      go true e =
          let g = evict-gone rs i k e h in
          left_eq (cut-laid i (length rs) n rs c refl short h ∙ ap (λ (l : List Range). lay_ranges 0 n l c) (sym g))
          (omega (arith, evict-whole rs i k h (leb-true (length_of (nth rs i)) k e)))
      go false e =
          let g = evict-kept rs i k e in
          left_eq
          (end-laid n i _ (shorter (nth rs i) k) rs c h refl refl (ap (λ (r : Range). r.end - k) (sym at-laid)) refl refl refl refl
          ∙ ap (λ (l : List Range). lay_ranges 0 n l c) (sym g))
          (sym (ap length g ∙ length-set rs i (shorter (nth rs i) k)))

-- ---- reach

cut-reach : (depth : List ℕ) (q r : Range) → Cut q r → Reach depth r → Reach depth q
cut-reach depth q r c h = record { node = omega arith; filled = c.filled h.filled; ends = rw c.node (omega (arith, c.end, h.ends)) }

pub evict-reach : (depth : List ℕ) (rs : List Range) (i k : ℕ) → All (Reach depth) rs → All (Reach depth) (evict rs i k)
evict-reach depth rs i k h = thin_all (cut-reach depth) (evict-cut rs i k) h

-- in a sound tree every range inside it is reached
inside-reach : {t : Tree} → TreeSound t → (r : Range) → Inside t r → Reach t.depth r
unfolding EndsWithin
inside-reach {t} s r h =
    record {
      node = omega (arith, h.in_use, s.nodes);
      filled = h.filled;
      ends = go r.node refl;
    }
  where
    go : (v : ℕ) → r.node ≡ v → at t.depth r.node + r.end ≤ max_hashes
    go zero e = absurd (omega (arith, h.filled, h.ends, s.root.len, ap (λ (x : ℕ). at t.len x) e))
    go (suc v) e = omega (arith, h.ends, s.ends r.node (omega arith) h.in_use)

pub sound-reach : {t : Tree} → TreeSound t → (rs : List Range) → All (Inside t) rs → All (Reach t.depth) rs
sound-reach s rs h = all_map (inside-reach s) rs h

-- what a sound store gives
pub sound-ready : {t : Tree} {table : List ℕ} {next top n h : ℕ} {c : Ranges} {ms : List ℕ} {l : OutList} → TreeSound t → Rising table → table_length ≤ length table
    → Sized store_records c → n ≤ store_records → RangesSound t next top (ranges c 0 n) → h ≡ total (ranges c 0 n) → MarksSound t (ranges c 0 n) ms → OutFits l
    → Ready t.depth table n h c ms l
sound-ready {n = n} {c = c} s up long sized few rs held marks fits =
    record {
      few = few;
      cols = sized;
      tables = record { depths = s.lent.depth; table = long; rising = up; long = marks.long };
      reach = sound-reach s (ranges c 0 n) rs.inside;
      held = held;
      fits = fits;
    }

-- ---- the marks

pub unmark-long : (v : ℕ) (rs : List Range) (ms : List ℕ) → length (unmark v rs ms) ≡ length ms
unmark-long v rs ms = go (on_node v rs)
  where
    go : (b : Bool) → length {A = ℕ} (elim b [ true ↦ ms | false ↦ set ms v 0 ]) ≡ length ms
    go true = refl
    go false = length-set ms v 0

-- ---- one eviction on the columns

pub cols-whole : (n i k : ℕ) (c d : Ranges) → at c.end i - at c.start i ≤ k → d ≡ cut_range i n c → left d (n - 1) ≡ evict_cols n i k c
unfolding evict_cols
cols-whole n i k c d h e = rw (le-leb (at c.end i - at c.start i) k h) (left_eq e refl)

pub cols-part : (n i k : ℕ) (c : Ranges) → k < at c.end i - at c.start i
    → left (ranges_of c.node c.start (set c.end i (at c.end i - k)) c.id c.stamp c.touched c.write) n ≡ evict_cols n i k c
unfolding evict_cols end_at
cols-part n i k c h = rw (lt-leb (at c.end i - at c.start i) k h)

pub cols-count : (n i k m : ℕ) (c d : Ranges) → left d m ≡ evict_cols n i k c → m ≤ n
unfolding evict_cols
cols-count n i k m c d e = go (leb (length_of (range_at c i)) k) (ap (λ (x : Left). x.n) e)
  where
    go : (b : Bool) → m ≡ (pick b (left (cut_range i n c) (n - 1)) (left (end_at i (at c.end i - k) c) n)).n → m ≤ n
    go true q = omega arith
    go false q = omega arith

cut_length : (i n : ℕ) (l : List ℕ) → i < n → n ≤ length l → length (cut_at 0 i n l) ≡ length l
unfolding cut_at
cut_length i n l h g =
    omega (arith, length-append {A = ℕ}, length-take-le {A = ℕ}, length-drop {A = ℕ})

-- the columns still have room for the records
pub cols-room : (n i k m : ℕ) (c d : Ranges) → left d m ≡ evict_cols n i k c → i < n → n ≤ length c.node → m ≤ length d.node
unfolding evict_cols end_at cut_range
cols-room n i k m c d e h g = go (leb (length_of (range_at c i)) k) (ap (λ (x : Left). x.n) e) (ap (λ (x : Left). length x.cols.node) e)
  where
    go : (b : Bool) → m ≡ (pick b (left (cut_range i n c) (n - 1)) (left (end_at i (at c.end i - k) c) n)).n
        → length d.node ≡ length (pick b (left (cut_range i n c) (n - 1)) (left (end_at i (at c.end i - k) c) n)).cols.node → m ≤ length d.node
    go true q r = omega (arith, cut_length i n c.node h g)
    go false q r = omega arith

-- the last blocks of a range have their bytes
pub tail-priced : {depth bytes ms : List ℕ} {r : Range} (k : ℕ) {sp : Span} → sp ≡ tail_of r.node r.end k → Reach depth r → Tabled depth bytes ms → Priced depth bytes sp
tail-priced {depth} {bytes} {ms} {r} k e h t =
    subst (Priced depth bytes) (sym e)
    (record { node = omega (arith, h.node, t.depths); order = omega arith; ends = h.ends; table = t.table; rising = t.rising })
