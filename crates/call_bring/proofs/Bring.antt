-- A bring-in on a sound state: its store's part is ready for the fill and the trim, and what they leave is the state that `bring_in` has.
use Prim.Native.Nat.{ℕ, zero, suc, ◌+◌, ◌*◌, ◌≤◌, ◌<◌}
use mathlib.Core.Bool.{Bool}
use mathlib.Core.Path.{◌≡◌, refl, sym, ap, subst, ◌∙◌}
use mathlib.Core.List.{List, [], ◌∷◌}
use native.Mathlib.Omega.{arith}
use lib.ListN.{length}
use lib.Ieee.{Float}
use mir.Val.{Fits}
use mir.Syntax.{w64}
use Rattle.model.specs.declared.Span.{Span}
use Rattle.model.specs.declared.Book.{Book}
use Rattle.model.specs.Sizes.{max_stores, max_numbers}
use Rattle.model.specs.State.{Ranges, Range, State, nodes_in, used_in, next_id_in, stalls_in, next_id_of, stalls_of, book_of, capacity_of, records_of, held_of, stamp_of, version_of, entries_of}
use Rattle.model.specs.Store.{ranges, pins, store_of, total, ranged, lay_book, lay_next, with_ranges, with_next}
use Rattle.model.specs.Trim.{Out, Trimmed, trim, stalls_after}
use Rattle.model.specs.Bring.{Gap, Brought, gaps, gap_blocks, fresh, fill, bring_need, bring_blocks, keep}
use Rattle.model.specs.Refusals.{OutList, OutFits}
use Rattle.model.specs.Calls.{brought, bring_in, lay_outs}
use Rattle.theory_sound.specs.Facts.{All}
use Rattle.theory_sound.specs.StoreSound.{TreeSound, RangesSound, MarksSound, StoreSound}
use Rattle.theory_bring.proofs.Bring.{bring_cases}
use Rattle.model.proofs.Conserved.{fill-total}
use Rattle.theory_bring.proofs.Fill.{gaps-rising, gaps_clear, fill_length, fill-sound}
use Rattle.theory_calls.proofs.Parts.{sound-parts}
use Rattle.theory_calls.proofs.Stores.{store-sound}
use Rattle.shape_state.specs.Lent.{tree_of, state_of}
use Rattle.pool_part.specs.Parts.{mid, mid_ranges}
use Rattle.pool_part.proofs.Parts.{ranges-part, ranges-sized}
use Rattle.rule_resolve.specs.Span.{only_depth}
use Rattle.pool_out.specs.Evicted.{set_out}
use Rattle.pool_out.proofs.Laws.{out-more}
use Rattle.rule_fill.specs.declared.Gaps.{Gaps}
use Rattle.rule_fill.specs.Gaps.{gaps_of}
use Rattle.rule_fill.proofs.Missing.{gaps_length}
use Rattle.rule_fill.specs.Fill.{Filled}
use Rattle.rule_fill.proofs.Laws.{rising-filled}
use Rattle.rule_evict.specs.Evict.{Reach}
use Rattle.rule_evict.specs.Given.{Ready}
use Rattle.rule_evict.proofs.Laws.{sound-reach, sound-ready}
use Rattle.rule_trim.proofs.Trim.{trim-depth}
use Rattle.rule_bring.specs.Pool.{PoolReady, GivenOutAt}
use Rattle.call_bring.specs.Settled.{settled}
use Rattle.call_bring.specs.Insert.{InsertReady, BroughtIn}

-- ---- one span given out

pub one_out : (o : Out) (l lʹ : OutList) → OutFits l → lʹ ≡ set_out 0 o l → lʹ ≡ lay_outs (o ∷ []) l
one_out o l lʹ h e = e ∙ out-more [] o l (omega arith) h

-- ---- what a sound state gives

reach-total : (depth : List ℕ) (rs : List Range) → All (Reach depth) rs → total rs ≤ 1024 * length rs
unfolding All total
reach-total depth [] a = omega arith
reach-total depth (r ∷ rs) a = omega (arith, a.0.ends, reach-total depth rs a.1)

module _ {st : State} {l : OutList} {s : ℕ} {sp : Span} {g : Gaps} {time : Float} (p : InsertReady st l s sp g time) where
  abbrev gs : List Gap
  gs = gaps sp.node (store_of st s).ranges sp.start sp.end

  own : StoreSound st.tree (next_id_of st) (store_of st s)
  own = store-sound st s p.sound p.store

  tree : TreeSound st.tree
  tree = (sound-parts st p.sound).tree

  in_stores : s < 8
  in_stores = omega (arith, p.store, p.sound.counts.stores)

  -- store s is one of eight, and the list is long enough
  pub book_in_lem : (s < max_stores) × (max_numbers ≤ length st.books)
  book_in_lem = (in_stores, p.sound.lent.books)

  few : records_of st s ≤ 128
  few = omega (arith, p.records)

  -- a span in its node ends where a node can
  low : sp.end ≤ 1024
  unfolding All
  low =
      let r = fresh sp.node (record { from = sp.start; upto = sp.end }) 0 0 time 0 in
      omega (arith, (sound-reach tree (r ∷ []) (record { in_use = p.span.node; filled = p.span.filled; ends = p.span.ends }, tt)).0.ends)

  pub rising-gaps : All Filled (gaps_of g)
  rising-gaps = rw p.gaps (rising-filled sp.start sp.end gs low (gaps-rising st.tree sp.node sp.end (store_of st s).ranges sp.start own.ranges.inside))

  filled_in : (w : ℕ) → All (Reach st.tree.depth) (fill sp.node gs (store_of st s).book.stamp (next_id_of st) time w (store_of st s).ranges)
  filled_in w =
      let h = own.ranges in
      sound-reach tree (fill sp.node gs (store_of st s).book.stamp (next_id_of st) time w (store_of st s).ranges)
      (fill-sound sp.node time w st.tree sp.end p.span.node p.span.ends p.finite gs sp.start (store_of st s).book.stamp (next_id_of st)
      (store_of st s).ranges (gaps-rising st.tree sp.node sp.end (store_of st s).ranges sp.start h.inside)
      (gaps_clear st.tree sp.node sp.end (store_of st s).ranges sp.start h.inside h.sorted) p.sound.counts.first_id h).inside

  -- what is held once the gaps are filled is far below what a number holds
  held_small : held_of st s + gap_blocks (gaps_of g) ≤ 1024 * 128
  unfolding store_of
  held_small =
      let rs = fill sp.node gs (store_of st s).book.stamp (next_id_of st) time 0 (store_of st s).ranges in
      omega (
        arith,
        reach-total st.tree.depth rs (filled_in 0),
        fill_length sp.node time 0 gs (store_of st s).book.stamp (next_id_of st) (store_of st s).ranges,
        fill-total sp.node gs (store_of st s).book.stamp (next_id_of st) time 0 (store_of st s).ranges,
        own.held,
        ap gap_blocks p.gaps,
        p.records,
        gaps_length g.list g.n,
        ap (λ (x : List Gap). length x) p.gaps,
        own.records,
      )

  read : ranges (mid_ranges (128 * s) 128 st.ranges) 0 (records_of st s) ≡ (store_of st s).ranges
  unfolding store_of
  read = ranges-part st.ranges (128 * s) 128 (records_of st s) few

  part_in : (rs : List Range) → rs ≡ (store_of st s).ranges → (top : ℕ) → top ≡ (store_of st s).book.stamp → (w : ℕ)
      → All (Reach st.tree.depth) (fill sp.node (gaps_of g) top (next_id_of st) time w rs)
  part_in rs e top d w = rw (e, d, p.gaps) (filled_in w)

  ready_in : Ready st.tree.depth st.bytes (records_of st s) (total (ranges (mid_ranges (128 * s) 128 st.ranges) 0 (records_of st s)))
      (mid_ranges (128 * s) 128 st.ranges) (mid (256 * s) 256 st.marks) l
  unfolding store_of
  ready_in =
      sound-ready {t = st.tree} {next = next_id_of st} {top = (store_of st s).book.stamp} tree p.sound.table p.sound.lent.bytes
      (ranges-sized (128 * s) st.ranges p.sound.lent.ranges (omega (arith, in_stores))) few
      (subst (λ (rs : List Range). RangesSound st.tree (next_id_of st) (store_of st s).book.stamp rs) (sym read) own.ranges)
      refl
      (subst (λ (rs : List Range). MarksSound st.tree rs (store_of st s).marks) (sym read) own.marks) p.fits

  stamp-is : stamp_of st s ≡ (store_of st s).book.stamp
  unfolding store_of
  stamp-is = refl

  held_in : held_of st s ≡ total (ranges (mid_ranges (128 * s) 128 st.ranges) 0 (records_of st s))
  unfolding store_of
  held_in = own.held ∙ ap total (sym read)

  pool_own : (w h : ℕ) → h ≡ held_of st s + gap_blocks (gaps_of g)
      → PoolReady st.tree.depth st.bytes s (records_of st s) (entries_of st s) h st.ranges st.marks l st.pins.node st.pins.start st.pins.end sp.node g (stamp_of st s) (next_id_of st) time w
  pool_own w h more =
      record {
        store = in_stores;
        entries = (p.sound.counts.each s (omega arith) p.store).entries;
        ranges = p.sound.lent.ranges;
        marks = p.sound.lent.marks;
        pin_node = p.sound.lent.pins.node;
        pin_start = p.sound.lent.pins.start;
        pin_end = p.sound.lent.pins.end;
        part = record {
          ready = ready_in;
          room = record { records = p.records; stamps = omega (arith, p.stamps); ids = omega (arith, p.ids) };
          held = omega (arith, held_in);
          reach = part_in _ read _ stamp-is w;
        };
      }

  -- where b are the store's own numbers
  module _ (b : Book) (is : b ≡ book_of st s) where
    held-read : b.held ≡ held_of st s
    held-read = ap (λ (k : Book). k.held) is

    pub sum_fits : {k : ℕ} → k ≡ gap_blocks (gaps_of g) → Fits w64 (b.held + k)
    sum_fits e = omega (arith, held_small, held-read, e)

    pub pool_in : (w k : ℕ) → k ≡ gap_blocks (gaps_of g)
        → PoolReady st.tree.depth st.bytes s b.records b.entries (b.held + k) st.ranges st.marks l st.pins.node st.pins.start st.pins.end sp.node g b.stamp (next_id_of st) time w
    pool_in w k e = rw (is, e) (pool_own w (held_of st s + gap_blocks (gaps_of g)) refl)

    pub settle_in : (s < max_stores) × (max_numbers ≤ length st.books) × (g.n ≤ 128) × (b.stamp ≤ 281474976710656) × (next_id_of st ≤ 281474976710656)
    settle_in = (in_stores, p.sound.lent.books, omega (arith, p.records), rw is (omega (arith, p.stamps)), omega (arith, p.ids))

  -- ---- what is left

  -- a store with a capacity keeps
  keeps : (w : ℕ) → (bring_need (store_of st s) sp ≡ length gs) × (brought st s sp time w ≡ keep st.tree st.bytes (store_of st s) (next_id_of st) sp time w)
  unfolding brought store_of
  keeps w =
      bring_cases st.tree st.bytes (next_id_of st) (store_of st s) sp time w
      (λ k b. (k ≡ length gs) × (b ≡ keep st.tree st.bytes (store_of st s) (next_id_of st) sp time w)) (λ e. absurd (p.some e)) (λ e. (refl, refl))

  above : {A : Type 0} (c : ℕ) (a b : A) → (c ≡ 0 → ⊥) → elim c [ zero ↦ a | suc d ↦ b ] ≡ b
  above zero a b h = absurd (h refl)
  above (suc c) a b h = refl

  blocks_in_lem : gap_blocks (gaps_of g) ≡ bring_blocks (store_of st s) sp
  unfolding bring_blocks store_of
  blocks_in_lem = ap gap_blocks p.gaps ∙ sym (above (capacity_of st s) 0 (gap_blocks gs) p.some)

  kept_in : (w : ℕ) → let k = keep st.tree st.bytes (store_of st s) (next_id_of st) sp time w in
      bring_in st s sp time w ≡ with_next (next_id_of st + length gs) (stalls_after k.stalled (stalls_of st)) (with_ranges s (length gs) k.store st)
  unfolding bring_in
  kept_in w =
      above (capacity_of st s) st _ p.some
      ∙ (λ j. with_next (next_id_of st + (keeps w).0 j) (stalls_after ((keeps w).1 j).stalled (stalls_of st)) (with_ranges s ((keeps w).0 j) ((keeps w).1 j).store st))

  -- the state by the tree's counts, its columns, marks and books
  abbrev state_with : ℕ → ℕ → Ranges → List ℕ → List ℕ → State
  state_with nodes used c ms bs =
      let t = st.tree in
      state_of (tree_of t.parent t.depth t.len t.run t.words nodes used) c st.pins ms st.bytes bs

  abbrev trimmed_of : ℕ → Trimmed
  trimmed_of w = trim st.tree st.bytes (store_of st s).pins (store_of st s).book.capacity (fill sp.node gs (store_of st s).book.stamp (next_id_of st) time w (store_of st s).ranges) (store_of st s).marks

  outs_in : (w : ℕ) → (trimmed_of w).outs ≡ (brought st s sp time w).outs
  unfolding keep
  outs_in w = sym (ap (λ (k : Brought). k.outs) (keeps w).1)

  -- the tree's counts stay in the books
  counted_in : (c : Ranges) (ms : List ℕ) (need n h v : ℕ) (q : Bool) (bs : List ℕ) → st.tree.nodes ≡ nodes_in st.books
      → st.tree.used ≡ used_in st.books → bs ≡ settled s (book_of st s) need n h v q st.books
      → state_with (nodes_in bs) (used_in bs) c ms bs ≡ state_with st.tree.nodes st.tree.used c ms (settled s (book_of st s) need n h v q st.books)
  unfolding lay_next lay_book
  counted_in c ms need n h v q bs a d e =
      (λ j. state_with (nodes_in (e j)) (used_in (e j)) c ms (e j))
      ∙ (λ j. state_with (sym a j) (sym d j) c ms (settled s (book_of st s) need n h v q st.books))

  module _ (w : ℕ) {c : Ranges} {ms : List ℕ} {lʹ : OutList} {n h o v : ℕ} {q : Bool} where
    laid_in : GivenOutAt s (trimmed_of w) (records_of st s + length gs) (version_of st s) st.ranges st.marks l c ms lʹ n h o v q
        → state_with st.tree.nodes st.tree.used c ms (settled s (book_of st s) (length gs) n h v q st.books) ≡ bring_in st s sp time w
    unfolding keep with_next with_ranges store_of
    laid_in u =
        (λ j. state_with st.tree.nodes st.tree.used (u.cols j) (u.marks j)
        (settled s (book_of st s) (length gs) (u.records j) (u.held j) (u.version j) (u.stalled j) st.books))
        ∙ sym (kept_in w)

    given_in : (b : Book) → b ≡ book_of st s
        → GivenOutAt s (trim (only_depth st.tree.depth) st.bytes (pins st.pins (32 * s) b.entries) b.capacity (fill sp.node (gaps_of g) b.stamp (next_id_of st) time w (ranges st.ranges (128 * s) b.records)) (mid (256 * s) 256 st.marks)) (b.records + length (gaps_of g)) b.version st.ranges st.marks l c ms lʹ n h o v q
        → GivenOutAt s (trimmed_of w) (records_of st s + length gs) (version_of st s) st.ranges st.marks l c ms lʹ n h o v q
    unfolding store_of
    given_in b is u = rw (is, p.gaps, trim-depth st.tree) at u

    pub brought_in_lem : (b : Book) → b ≡ book_of st s → (bs : List ℕ) → st.tree.nodes ≡ nodes_in st.books → st.tree.used ≡ used_in st.books
        → bs ≡ settled s b g.n n h v q st.books
        → GivenOutAt s (trim (only_depth st.tree.depth) st.bytes (pins st.pins (32 * s) b.entries) b.capacity (fill sp.node (gaps_of g) b.stamp (next_id_of st) time w (ranges st.ranges (128 * s) b.records)) (mid (256 * s) 256 st.marks)) (b.records + length (gaps_of g)) b.version st.ranges st.marks l c ms lʹ n h o v q
        → {k : ℕ} → k ≡ gap_blocks (gaps_of g) → BroughtIn st l s sp time w (state_with (nodes_in bs) (used_in bs) c ms bs) lʹ o k
    brought_in_lem b is bs a d e u more =
        let y = given_in b is u in
        let k : g.n ≡ length gs = sym (gaps_length g.list g.n) ∙ ap length p.gaps in
        record {
          state = counted_in c ms (length gs) n h v q bs a d (e ∙ (λ j. settled s (is j) (k j) n h v q st.books)) ∙ laid_in y;
          lists = y.lists ∙ ap (λ (x : List Out). lay_outs x l) (outs_in w);
          outs = y.outs ∙ ap (λ (x : List Out). length x) (outs_in w);
          blocks = more ∙ blocks_in_lem;
        }

-- ---- the small numbers

pub books-settled : (s need n h v : ℕ) (q : Bool) (b : Book) (l m r : List ℕ) (stalls : ℕ) → stalls ≡ stalls_after q (stalls_in l)
    → m ≡ lay_book s (ranged b n h (b.stamp + need) v) l → r ≡ lay_next (next_id_in l + need) stalls m
    → r ≡ settled s b need n h v q l
books-settled s need n h v q b l m r stalls a e f = f ∙ (λ j. lay_next (next_id_in l + need) (a j) (e j))

pub whole_out : (o q : Out) (l lʹ : OutList) → OutFits l → lʹ ≡ set_out 0 o l → o ≡ q → lʹ ≡ lay_outs (q ∷ []) l
whole_out o q l lʹ h e d = one_out o l lʹ h e ∙ ap (λ (k : Out). lay_outs (k ∷ []) l) d
