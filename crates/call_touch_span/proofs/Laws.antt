-- The laws of one turn over variables: what a turn is refused for, a touch on the pools, the small numbers after it, and the turn as a whole. Assumes
-- nothing.
use Prim.Native.Nat.{ℕ, suc, ◌+◌, ◌*◌, ◌≤◌, ◌<◌, min, max}
use mathlib.Core.Path.{◌≡◌, refl, sym, ap, subst, ◌∙◌}
use mathlib.Core.Bool.{Bool, true, false}
use mathlib.Core.List.{List, [], ◌∷◌}
use native.Mathlib.Nat.{min-le_left}
use native.Mathlib.Omega.{arith}
use lib.ListN.{length, length-set}
use lib.Ieee.{Float}
use Rattle.model.specs.declared.Span.{Span}
use Rattle.model.specs.declared.Book.{Book}
use Rattle.model.specs.Sizes.{max_stamp, max_bytes}
use Rattle.model.specs.State.{Tree, Ranges, Pins, State, Range, next_id_in, stalls_in, book_in, stores_of, next_id_of, records_of, stamp_of, refreshes as renews}
use Rattle.model.specs.Sound.{Sound}
use Rattle.model.specs.Store.{Store, store_of, ranges, lay_book, lay_next, ranged, with_ranges, with_next, meets, put}
use Rattle.model.specs.Touch.{Touched, overlapped, held_bytes, one_inside, mark_read, bytes_read, renew, split, refresh, touch_hits, touch}
use Rattle.model.specs.Refusals.{SpanIn, touched_by, touch_span}
use Rattle.test_arguments.specs.Need.{need_number}
use Rattle.test_arguments.proofs.Need.{number_fits}
use Rattle.pool_part.specs.Parts.{mid, back, mid_ranges, back_ranges}
use Rattle.pool_part.proofs.Parts.{mid-long, ranges-part, ranges-back, ranges-sized, back_full}
use Rattle.theory_sound.specs.StoreSound.{RangesSound, StoreSound}
use Rattle.theory_bring.proofs.Facts.{Steady}
use Rattle.theory_touch.proofs.Touch.{touch-steady, touch-counted, touch-held, touch-version, touch-stamp}
use Rattle.theory_calls.proofs.Stores.{store-sound}
use Rattle.theory_lay.proofs.Store.{store-book}
use Rattle.pool_range.specs.Part.{Sized}
use Rattle.rule_resolve.specs.Span.{Priced}
use Rattle.rule_resolve.proofs.Sound.{sound-priced}
use Rattle.rule_overlap.specs.declared.Needs.{Needs}
use Rattle.rule_overlap.specs.Overlap.{Ordered, TouchNeeds, TouchFits}
use Rattle.rule_overlap.proofs.Places.{sound_ordered}
use Rattle.rule_overlap.proofs.Laws.{bytes_small}
use Rattle.rule_touch.specs.declared.Used.{Used}
use Rattle.rule_touch.specs.Touch.{Touching}
use Rattle.call_touch_span.specs.declared.Run.{Run}
use Rattle.call_touch_span.specs.Turn.{Others, whole, renumbered, books_with, Stands, stop_run, Placed, Judged, PoolReady, TouchedAt, run_on, RunAt, Ran}

-- ---- the small numbers

-- the numbers that were read stand
pub stands_read : (s : ℕ) (x : List ℕ) (b : Book) → b ≡ book_in x s
    → Stands s (renews b) x (record { n = b.records; top = b.stamp; next = next_id_in x; sum = 0; number = 0 })
stands_read s x b e =
    record {
      records = ap (λ (q : Book). q.records) e;
      on = ap (λ (q : Book). renews q) e;
      stamp = ap (λ (q : Book). q.stamp) e;
      next = refl;
    }

-- ---- the parts of store s

-- the part of store s, w places long
module _ (s n : ℕ) (node start end : List ℕ) (w : ℕ) (e : w ≡ 128) where
  pub ordered_part : Placed s n node start end → Ordered (mid (128 * s) w node) (mid (128 * s) w start) (mid (128 * s) w end) n
  ordered_part p = rw e p.order

  pub needs-part : (sp : Span) (refreshes : Bool) (r : Needs)
      → TouchNeeds (mid (128 * s) w node) (mid (128 * s) w start) (mid (128 * s) w end) n sp refreshes r
      → TouchNeeds (mid (128 * s) 128 node) (mid (128 * s) 128 start) (mid (128 * s) 128 end) n sp refreshes r
  needs-part sp refreshes r h = rw e at h

-- ---- a touch on the pools

module _ {depth bytes : List ℕ} {s n : ℕ} {c : Ranges} {ms : List ℕ} {sp : Span} {refreshes : Bool} {top next : ℕ}
    (p : PoolReady depth bytes s n c ms sp refreshes top next) where
  sized : Sized 128 (mid_ranges (128 * s) 128 c)
  sized = ranges-sized (128 * s) c p.ranges (omega (arith, p.store))

  pub pool_one : (w : ℕ) → w ≡ 128 → (n ≤ 128) × Sized 128 (mid_ranges (128 * s) w c) × Ordered (mid (128 * s) w c.node) (mid (128 * s) w c.start) (mid (128 * s) w c.end) n
  pool_one w e = rw e (p.few, sized, p.order)

  pub pool_two : (w : ℕ) → w ≡ 256 → (sp.start < sp.end) × (sp.node < length (mid (256 * s) w ms)) × Priced depth bytes sp
  pool_two w e = rw e (p.filled, omega (arith, p.node, mid-long (256 * s) 256 ms (omega (arith, p.marks, p.store))), p.priced)

  pub pool_three : (w : ℕ) → w ≡ 128 → TouchFits (mid (128 * s) w c.node) (mid (128 * s) w c.start) (mid (128 * s) w c.end) n sp refreshes top next
  pool_three w e = rw e p.fits

  -- the need of a store that has these ranges
  room_for : (t : Tree) (table : List ℕ) (x : Store) (time : Float) (counted : Bool) → x.ranges ≡ ranges c (128 * s) n → renews x.book ≡ refreshes
      → n + (touch t table x next sp time counted).need ≤ 128
  unfolding mid_ranges
  room_for t table x time counted e f =
      let k = p.fits.are (mid (128 * s) 128 c.id) (mid (128 * s) 128 c.stamp) (mid (128 * s) 128 c.write) (mid (128 * s) 128 c.touched) t table x next time counted (e ∙ sym (ranges-part c (128 * s) 128 n p.few)) f in
      omega (arith, p.fits.records, k.0)

  module _ {q : Ranges} {ms₂ : List ℕ} {r : Used} where
    touched-at : (v : Touched) → n + v.need ≤ 128 → Touching v (mid_ranges (128 * s) 128 c) q ms₂ n r
        → TouchedAt s v n c ms (back_ranges (128 * s) 128 q c) (back (256 * s) 256 ms₂ ms) r
    touched-at v room u =
        record {
          cols = ap (λ (x : Ranges). back_ranges (128 * s) 128 x c) u.columns ∙ ranges-back (128 * s) 128 (n + v.need) v.store.ranges c room;
          marks = ap (λ (x : List ℕ). back (256 * s) 256 x ms) u.marks;
          records = u.records;
          need = u.need;
          stamps = u.stamps;
          bytes = u.bytes;
        }

    pub pool_touched : (time : Float) (counted : Bool) (a b : ℕ) → a ≡ 128 → b ≡ 256
        → ((t : Tree) (x : Store) → t.depth ≡ depth → x.ranges ≡ ranges (mid_ranges (128 * s) a c) 0 n → x.book.stamp ≡ top → renews x.book ≡ refreshes → x.marks ≡ mid (256 * s) b ms
        → Touching (touch t bytes x next sp time counted) (mid_ranges (128 * s) a c) q ms₂ n r)
        → (t : Tree) (x : Store) → t.depth ≡ depth → x.ranges ≡ ranges c (128 * s) n → x.book.stamp ≡ top → renews x.book ≡ refreshes → x.marks ≡ mid (256 * s) 256 ms
        → TouchedAt s (touch t bytes x next sp time counted) n c ms (back_ranges (128 * s) a q c) (back (256 * s) b ms₂ ms) r
    pool_touched time counted a b ea eb v t x d rs st re m =
        rw (ea, eb) (touched-at (touch t bytes x next sp time counted) (room_for t bytes x time counted rs re)
        (subst (λ (k : ℕ). Touching (touch t bytes x next sp time counted) (mid_ranges (128 * s) k c) q ms₂ n r) ea
        (v t x d (rw ea (rs ∙ sym (ranges-part c (128 * s) 128 n p.few))) st re (rw eb m))))

-- ---- the marks and the bytes of a touch

module _ (x : Store) (next : ℕ) (sp : Span) (time : Float) where
  refreshed_marks : (on one : Bool) (ms : List ℕ) (read : ℕ) → (refresh on one x next sp time ms read).store.marks ≡ ms
  unfolding renew split
  refreshed_marks false one ms read = refl
  refreshed_marks true true ms read = refl
  refreshed_marks true false ms read = refl

  refreshed_bytes : (on one : Bool) (ms : List ℕ) (read : ℕ) → (refresh on one x next sp time ms read).bytes ≡ read
  unfolding renew split
  refreshed_bytes false one ms read = refl
  refreshed_bytes true true ms read = refl
  refreshed_bytes true false ms read = refl

read-long : (counted : Bool) (sp : Span) (ms : List ℕ) → length (mark_read counted sp ms) ≡ length ms
read-long true sp ms = length-set ms sp.node _
read-long false sp ms = refl

hits_few : (v a z : ℕ) (rs : List Range) → length (overlapped v a z rs) ≤ length rs
unfolding overlapped
hits_few v a z [] = omega arith
hits_few v a z (r ∷ rs) = go (meets v a z r) (hits_few v a z rs)
  where
    go : (b : Bool) → length (overlapped v a z rs) ≤ length rs → length (put b r (overlapped v a z rs)) ≤ suc (length rs)
    go true h = omega arith
    go false h = omega arith

held-most : (t : Tree) (table : List ℕ) (sp : Span) → Priced t.depth table sp → (rs : List Range)
    → held_bytes t table sp.node sp.start sp.end rs ≤ length rs * max_bytes
unfolding held_bytes
held-most t table sp p [] = omega arith
held-most t table sp p (r ∷ rs) =
    omega (arith, held-most t table sp p rs, bytes_small t.depth table sp (max sp.start r.start) (min sp.end r.end) p (min-le_left sp.end r.end))

module _ (t : Tree) (table : List ℕ) (x : Store) (next : ℕ) (sp : Span) (time : Float) (counted : Bool) where
  pub touch-marks-long : length (touch t table x next sp time counted).store.marks ≡ length x.marks
  unfolding touch
  touch-marks-long = go (overlapped sp.node sp.start sp.end x.ranges)
    where
      go : (hits : List Range) → length (touch_hits hits t table x next sp time counted).store.marks ≡ length x.marks
      go [] = refl
      go (r ∷ rs) =
          ap (λ (l : List ℕ). length l)
          (refreshed_marks x next sp time (renews x.book) (one_inside sp.start sp.end (r ∷ rs)) (mark_read counted sp x.marks) (bytes_read counted t table sp (r ∷ rs)))
          ∙ read-long counted sp x.marks

  pub touch-bytes-most : Priced t.depth table sp → length x.ranges ≤ 128 → (touch t table x next sp time counted).bytes ≤ 128 * max_bytes
  unfolding touch
  touch-bytes-most p few =
      go (overlapped sp.node sp.start sp.end x.ranges) (omega (arith, hits_few sp.node sp.start sp.end x.ranges))
    where
      read : (b : Bool) (hits : List Range) → length hits ≤ 128 → bytes_read b t table sp hits ≤ 128 * max_bytes
      read true hits l = omega (arith, held-most t table sp p hits)
      read false hits l = omega arith

      go : (hits : List Range) → length hits ≤ 128 → (touch_hits hits t table x next sp time counted).bytes ≤ 128 * max_bytes
      go [] l = omega arith
      go (r ∷ rs) l =
          omega (arith, read counted (r ∷ rs) l, refreshed_bytes x next sp time (renews x.book) (one_inside sp.start sp.end (r ∷ rs)) (mark_read counted sp x.marks) (bytes_read counted t table sp (r ∷ rs)))

-- ---- what a sound state gives

module _ (st : State) (s : ℕ) (sp : Span) (h : Sound st) (less : s < stores_of st) (inside : SpanIn st.tree sp) where
  own : StoreSound st.tree (next_id_of st) (store_of st s)
  own = store-sound st s h less

  in_stores : s < 8
  in_stores = omega (arith, h.counts.stores)

  few : records_of st s ≤ 128
  few = (h.counts.each s (omega arith) less).records

  -- the store's ranges stand at the front of its part
  part-read : ranges (mid_ranges (128 * s) 128 st.ranges) 0 (records_of st s) ≡ (store_of st s).ranges
  unfolding store_of
  part-read = ranges-part st.ranges (128 * s) 128 (records_of st s) few

  part_ordered : Ordered (mid (128 * s) 128 st.ranges.node) (mid (128 * s) 128 st.ranges.start) (mid (128 * s) 128 st.ranges.end) (records_of st s)
  unfolding mid_ranges
  part_ordered =
      sound_ordered st.tree (next_id_of st) (store_of st s).book.stamp (records_of st s) (mid_ranges (128 * s) 128 st.ranges)
      (ranges-sized (128 * s) st.ranges h.lent.ranges (omega (arith, in_stores))) few
      (subst (λ rs. RangesSound st.tree (next_id_of st) (store_of st s).book.stamp rs) (sym part-read) own.ranges)

  number-ready : Placed s (records_of st s) st.ranges.node st.ranges.start st.ranges.end × (records_of st s ≤ 128) × (stamp_of st s ≤ max_stamp) × (next_id_of st ≤ max_stamp)
  number-ready = (
    record { store = in_stores; nodes = h.lent.ranges.node; starts = h.lent.ranges.start; ends = h.lent.ranges.end; order = part_ordered },
    few,
    (h.counts.each s (omega arith) less).stamp,
    h.counts.next_id,
  )

  priced : Priced st.tree.depth st.bytes sp
  priced = sound-priced st h sp inside.node (omega (arith, inside.filled)) inside.ends

  module _ (refreshes : Bool) (r : ℕ) (e : r ≡ 0) (j : Judged s (records_of st s) st.ranges.node st.ranges.start st.ranges.end sp refreshes (stamp_of st s) (next_id_of st) r) where
    all-fits : (records_of st s + j.needs.records ≤ 128) × (stamp_of st s + j.needs.stamps ≤ max_stamp) × (next_id_of st + j.needs.records ≤ max_stamp)
    all-fits = number_fits (records_of st s) j.needs.records (stamp_of st s) j.needs.stamps (next_id_of st) (sym e ∙ j.number)

    touch-ready : PoolReady st.tree.depth st.bytes s (records_of st s) st.ranges st.marks sp refreshes (stamp_of st s) (next_id_of st)
    touch-ready =
        record {
          store = in_stores;
          few = few;
          ranges = h.lent.ranges;
          marks = h.lent.marks;
          order = part_ordered;
          filled = inside.filled;
          node = omega (arith, inside.node, h.counts.nodes);
          priced = priced;
          fits = record { needs = j.needs; are = j.are; records = all-fits.0; stamps = all-fits.1; ids = all-fits.2 };
        }

    -- what the turn read is little
    count-ready : renews (store_of st s).book ≡ refreshes → (time : Float) (counted : Bool) (used : Used) (c : Ranges) (ms : List ℕ)
        → TouchedAt s (touched_by st s sp time counted) (records_of st s) st.ranges st.marks c ms used
        → (stamp_of st s + used.stamps ≤ max_stamp) × (next_id_of st + used.need ≤ max_stamp) × (used.bytes ≤ 128 * max_bytes)
    unfolding mid_ranges
    count-ready re time counted used c ms u =
        let f = all-fits in
        let k = j.are (mid (128 * s) 128 st.ranges.id) (mid (128 * s) 128 st.ranges.stamp) (mid (128 * s) 128 st.ranges.write) (mid (128 * s) 128 st.ranges.touched) st.tree st.bytes (store_of st s) (next_id_of st) time counted (sym part-read) re in
        let b = touch-bytes-most st.tree st.bytes (store_of st s) (next_id_of st) sp time counted priced own.few in
        (omega (arith, f.1, k.1, u.stamps), omega (arith, f.2, k.0, u.need), omega (arith, b, u.bytes))

-- ---- the state after a turn

abbrev state_with : Tree → Ranges → Pins → List ℕ → List ℕ → List ℕ → State
state_with t c p ms table l = record { tree = t; ranges = c; pins = p; marks = ms; bytes = table; books = l }

state_eq : {t : Tree} {c c' : Ranges} {p : Pins} {m m' table l l' : List ℕ} → c ≡ c' → m ≡ m' → l ≡ l' → state_with t c p m table l ≡ state_with t c' p m' table l'
state_eq f g h = cc

-- a touch of the store x, as the definition lays it, and as the turn leaves the small numbers
books-touched : (s : ℕ) (used : Used) (w : Touched) (x : Store) (l : List ℕ) → x.book ≡ book_in l s → Steady x w.store
    → w.store.book.records ≡ length w.store.ranges → w.store.book.held ≡ x.book.held → w.store.book.version ≡ x.book.version
    → w.store.book.stamp ≡ x.book.stamp + w.stamps → used.n ≡ length w.store.ranges → used.need ≡ w.need → used.stamps ≡ w.stamps
    → lay_next (next_id_in l + used.need) (stalls_in l) (lay_book s (renumbered (book_in l s) used.n ((book_in l s).stamp + used.stamps)) l)
    ≡ lay_next (next_id_in l + w.need) (stalls_in l) (lay_book s w.store.book l)
books-touched s used w x l e k counted held version stamp n need stamps =
    let f : renumbered x.book used.n (x.book.stamp + used.stamps) ≡ w.store.book =
    (λ i. ranged x.book ((n ∙ sym counted) i) (sym held i) ((ap (λ (m : ℕ). x.book.stamp + m) stamps ∙ sym stamp) i) (sym version i)) ∙ sym k.book in
    (λ i. lay_next (next_id_in l + need i) (stalls_in l) (lay_book s ((ap (λ (b : Book). renumbered b used.n (b.stamp + used.stamps)) (sym e) ∙ f) i) l))

-- ---- a turn with no part kept

module _ (o : Others) (x : List ℕ) (sp : Span) (depth bytes : List ℕ) (c : Ranges) (ms : List ℕ) (s : ℕ) (refreshes : Bool) (y : Run) (time : Float) (counted : Bool)
    (h : RunAt o x sp depth bytes c ms s refreshes y) where
  abbrev st : State
  st = whole o depth bytes c ms x

  abbrev book₀ : Book
  book₀ = book_in x s

  abbrev next₀ : ℕ
  next₀ = next_id_in x

  abbrev w : Touched
  w = touched_by st s sp time counted

  abbrev x₀ : Store
  x₀ = store_of st s

  -- what the calls say of the turn, by the numbers of the run and by those of the list
  abbrev JudgedRun : ℕ → Type 0
  JudgedRun r = Judged s y.n c.node c.start c.end sp refreshes y.top y.next r

  abbrev JudgedHere : ℕ → Type 0
  JudgedHere r = Judged s book₀.records c.node c.start c.end sp (renews book₀) book₀.stamp next₀ r

  abbrev TouchedRun : Ranges → List ℕ → Used → Type 0
  TouchedRun c' ms' used =
      (t : Tree) (q : Store) → t.depth ≡ depth → q.ranges ≡ ranges c (128 * s) y.n → q.book.stamp ≡ y.top → renews q.book ≡ refreshes → q.marks ≡ mid (256 * s) 256 ms
      → TouchedAt s (touch t bytes q y.next sp time counted) y.n c ms c' ms' used

  abbrev TouchedHere : Ranges → List ℕ → Used → Type 0
  TouchedHere c' ms' used = TouchedAt s w book₀.records c ms c' ms' used

  judged : (r : ℕ) → JudgedRun r → JudgedHere r
  judged r j = rw (h.stands.records, h.stands.on, h.stands.stamp, h.stands.next) at j

  touched-here : (c' : Ranges) (ms' : List ℕ) (used : Used) → TouchedRun c' ms' used → TouchedHere c' ms' used
  unfolding store_of
  touched-here c' ms' used u =
      (rw (h.stands.records, h.stands.on, h.stands.stamp, h.stands.next) at u) st.tree x₀ refl refl refl refl refl

  store-read : x₀.ranges ≡ ranges c (128 * s) book₀.records
  unfolding store_of
  store-read = refl

  store-on : renews x₀.book ≡ renews book₀
  unfolding store_of
  store-on = refl

  number-here : (r : ℕ) → JudgedHere r → r ≡ need_number book₀.records w.need book₀.stamp w.stamps next₀
  unfolding mid_ranges
  number-here r j =
      let k =
      j.are (mid (128 * s) 128 c.id) (mid (128 * s) 128 c.stamp) (mid (128 * s) 128 c.write) (mid (128 * s) 128 c.touched) st.tree bytes x₀ next₀ time counted
      (store-read ∙ sym (ranges-part c (128 * s) 128 book₀.records (few st s sp h.sound h.store h.span))) store-on in
      j.number ∙ (λ i. need_number book₀.records (k.0 i) book₀.stamp (k.1 i) next₀)

  pub run_asks_number : Placed s y.n c.node c.start c.end × (y.n ≤ 128) × (y.top ≤ max_stamp) × (y.next ≤ max_stamp)
  run_asks_number = rw (h.stands.records, h.stands.stamp, h.stands.next) (number-ready st s sp h.sound h.store h.span)

  pub run_asks_touch : (r : ℕ) → r ≡ 0 → JudgedRun r → PoolReady depth bytes s y.n c ms sp refreshes y.top y.next
  run_asks_touch r e j =
      rw (h.stands.records, h.stands.on, h.stands.stamp, h.stands.next)
      (touch-ready st s sp h.sound h.store h.span (renews book₀) r e (judged r j))

  pub run_asks_on : (r : ℕ) (c' : Ranges) (ms' : List ℕ) (used : Used) → r ≡ 0 → JudgedRun r → TouchedRun c' ms' used
      → (y.top + used.stamps ≤ max_stamp) × (y.next + used.need ≤ max_stamp) × (y.sum + used.bytes < 18446744073709551616)
  run_asks_on r c' ms' used e j u =
      let k = count-ready st s sp h.sound h.store h.span (renews book₀) r e (judged r j) store-on time counted used c' ms' (touched-here c' ms' used u) in
      (rw h.stands.stamp k.0, rw h.stands.next k.1, omega (arith, k.2, h.sum))

  pub run-refused : (k : ℕ) (r : Run) → r ≡ stop_run k y → (k ≡ 0 → ⊥) → JudgedRun k → Ran sp s time counted st y (whole o depth bytes c ms (books_with s r x)) r
  run-refused k r is n j =
      let e = ap (λ (q : Run). q.number) is in
      record {
        number = e ∙ number-here k (judged k j);
        stopped = λ l. (refl, refl);
        taken = λ z. absurd (n (sym e ∙ z));
        sum = λ z. absurd (n (sym e ∙ z));
      }

  module _ (used : Used) (c' : Ranges) (ms' : List ℕ) (u : TouchedHere c' ms' used) where
    marks-here : length x₀.marks ≡ 256
    unfolding store_of
    marks-here = mid-long (256 * s) 256 ms (omega (arith, in_stores st s sp h.sound h.store h.span, h.sound.lent.marks))

    books-here : books_with s (run_on y used) x ≡ lay_next (next₀ + w.need) (stalls_in x) (lay_book s w.store.book x)
    books-here =
        (λ i. lay_next (h.stands.next i + used.need) (stalls_in x) (lay_book s (renumbered book₀ used.n (h.stands.stamp i + used.stamps)) x))
        ∙ books-touched s used w x₀ x (store-book st s)
        (touch-steady st.tree bytes x₀ next₀ sp time counted)
        (touch-counted st.tree bytes x₀ next₀ sp time counted)
        (touch-held st.tree bytes x₀ next₀ sp time counted)
        (touch-version st.tree bytes x₀ next₀ sp time counted)
        (touch-stamp st.tree bytes x₀ next₀ sp time counted) u.records u.need u.stamps

    state-here : whole o depth bytes c' ms' (books_with s (run_on y used) x) ≡ touch_span st s sp time counted
    unfolding touch_span with_ranges with_next lay_next lay_book
    state-here =
        state_eq u.cols
        (u.marks ∙ back_full 0 (256 * s) 256 w.store.marks ms (touch-marks-long st.tree bytes x₀ next₀ sp time counted ∙ marks-here))
        books-here

  pub run-taken : (k : ℕ) (c' : Ranges) (ms' : List ℕ) (used : Used) (r : Run) → r ≡ run_on y used → k ≡ 0 → JudgedRun k → TouchedRun c' ms' used
      → Ran sp s time counted st y (whole o depth bytes c' ms' (books_with s r x)) r
  run-taken k c' ms' used r is none j v =
      let u = touched-here c' ms' used v in
      subst (λ (q : Run). Ran sp s time counted st y (whole o depth bytes c' ms' (books_with s q x)) q) (sym is)
      (record {
        number = sym none ∙ number-here k (judged k j);
        stopped = λ l. absurd (omega arith);
        taken = λ z. state-here used c' ms' u;
        sum = λ z. ap (λ (b : ℕ). y.sum + b) u.bytes;
      })
