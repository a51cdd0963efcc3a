-- Records by their places: the list of the records is cut where the span's overlapped records begin and end, and since the records stand in order,
-- these lie side by side, only the first can have a head, and only the last a tail.
use Rattle.std.specs.Prelude.{Option, Some, None, MatchOption}
use Rattle.std.specs.Option.{unwrap_or}
use mathlib.Core.Path.{◌≡◌, refl, sym, ap, ◌∙◌}
use mathlib.Core.Bool.{Bool, true, false, ◌&&◌, true≢false}
use mathlib.Core.List.{List, [], ◌∷◌, ◌++◌, append-nil}
use Prim.Native.Nat.{ℕ, zero, suc, ◌+◌, ◌-◌, ◌≤◌, ◌<◌}
use native.Mathlib.Nat.{zero-add, add-zero, suc-add, add-suc}
use native.Mathlib.Numerals.{add-one}
use native.Mathlib.Omega.{arith}
use native.Mathlib.Decide.{ℕ_discrete}
use lib.Dec.{ltb}
use borrow.Author.Tests.{le-ltb}
use Rattle.model.specs.declared.Span.{Span}
use Rattle.model.specs.Words.{Each}
use Rattle.model.specs.State.{Tree, Ranges, Range, at, range_at}
use Rattle.model.specs.Store.{ranges, meets, plus}
use Rattle.model.specs.Touch.{overlapped, new_pieces, has_head, has_tail}
use Rattle.model.specs.Remove.{middle_cut, middle_cuts}
use Rattle.shape_state.specs.Lent.{ranges_of}
use Rattle.theory_sound.specs.Facts.{All}
use Rattle.theory_sound.specs.StoreSound.{RangesSound}
use Rattle.theory_bring.proofs.Facts.{all-at, order-at}
use Rattle.theory_touch.proofs.Recut.{Met, met, met_true}
use Rattle.theory_lay.proofs.Rows.{ranges_length, ranges-at}
use Rattle.pool_range.specs.Part.{Sized}
use Rattle.rule_overlap.specs.Overlap.{Ordered, meets_at, First, Overlap}
use Rattle.rule_overlap.proofs.Lists.{Miss, Hit, hits_skip, hits-all, middles_skip, middles_none}

-- ---- lists of records

pub all-places : (P : Range → Type 0) (c : Ranges) (a m : ℕ) → Each a (a + m) (λ i. P (range_at c i)) → All P (ranges c a m)
unfolding All ranges
all-places P c a zero h = tt
all-places P c a (suc m) h = (h a (omega arith) (omega arith), all-places P c (suc a) m (λ i l u. h i (omega arith) (omega arith)))

ranges-two : (c : Ranges) (a m k : ℕ) → ranges c a (m + k) ≡ ranges c a m ++ ranges c (a + m) k
unfolding ranges
ranges-two c a zero k = rw (zero-add k, add-zero a)
ranges-two c a (suc m) k = rw (suc-add m k, add-suc a m, ← suc-add a m) (ap (λ t. range_at c a ∷ t) (ranges-two c (suc a) m k))

pub ranges-cut : (c : Ranges) (a m n : ℕ) → a ≤ m → m ≤ n → ranges c a (n - a) ≡ ranges c a (m - a) ++ ranges c m (n - m)
ranges-cut c a m n l h =
    let e : n - a ≡ (m - a) + (n - m) = omega arith in
    let f : a + (m - a) ≡ m = omega arith in
    rw e (ranges-two c a (m - a) (n - m) ∙ rw f)

pub ranges_cut0 : (c : Ranges) (m n : ℕ) → m ≤ n → ranges c 0 n ≡ ranges c 0 m ++ ranges c m (n - m)
ranges_cut0 c m n h =
    let e : n ≡ m + (n - m) = omega arith in
    ap (λ t. ranges c 0 t) e ∙ ranges-two c 0 m (n - m) ∙ rw (zero-add m)

ranges_suc : (c : Ranges) (i m : ℕ) → ranges c i (suc m) ≡ range_at c i ∷ ranges c (suc i) m
unfolding ranges
ranges_suc c i m = refl

ranges-zero : (c : Ranges) (i : ℕ) → ranges c i 0 ≡ []
unfolding ranges
ranges-zero c i = refl

pub ranges_cons : (c : Ranges) (i n : ℕ) → i < n → ranges c i (n - i) ≡ range_at c i ∷ ranges c (i + 1) (n - (i + 1))
ranges_cons c i n h = let e : n - i ≡ suc (n - (i + 1)) = omega arith in rw e (ranges_suc c i (n - (i + 1)) ∙ ap (λ k. range_at c i ∷ ranges c k (n - (i + 1))) (sym (add-one i)))

pub ranges-none : (c : Ranges) (i n : ℕ) → n ≤ i → ranges c i (n - i) ≡ []
ranges-none c i n h = let e : n - i ≡ 0 = omega arith in rw e (ranges-zero c i)

-- the list at place i
pub ranges_seam : (c : Ranges) (i n : ℕ) → i < n → ranges c 0 n ≡ ranges c 0 i ++ (range_at c i ∷ ranges c (i + 1) (n - (i + 1)))
ranges_seam c i n h = ranges_cut0 c i n (omega arith) ∙ ap (λ t. ranges c 0 i ++ t) (ranges_cons c i n h)

-- ---- a sound store's records stand in order

pub sound_ordered : (t : Tree) (next top n : ℕ) (c : Ranges) → Sized 128 c → n ≤ 128 → RangesSound t next top (ranges c 0 n) → Ordered c.node c.start c.end n
sound_ordered t next top n c s h g =
    record {
      nodes = omega (arith, s.node);
      starts = omega (arith, s.start);
      ends = omega (arith, s.end);
      filled = λ k l u. rw (is k u) at (all-at _ d (ranges c 0 n) g.inside k (rw ranges_length u)).filled;
      by_node = λ j k l u. rw (is j (omega arith), is k u) at (order-at _ d (ranges c 0 n) g.sorted j k l (rw ranges_length u)).by_node;
      apart = λ j k l u. rw (is j (omega arith), is k u) at (order-at _ d (ranges c 0 n) g.sorted j k l (rw ranges_length u)).apart;
    }
  where
    d : Range
    d = range_at c 0

    is : (k : ℕ) → k < n → lib.ListN.get_or (ranges c 0 n) k d ≡ range_at c k
    is k u = ranges-at c 0 n k d u ∙ ap (range_at c) (zero-add k)

-- ---- where the overlapped records end

module _ (node start end : List ℕ) (n : ℕ) (sp : Span) where
  -- the columns alone decide what the span meets
  abbrev three : Ranges
  three = ranges_of node start end [] [] [] []

  abbrev M : ℕ → Bool
  M i = meets_at node start end sp i

  hit : (i : ℕ) → M i ≡ true → Met sp.node sp.start sp.end (range_at three i)
  hit i e = met sp.node sp.start sp.end (range_at three i) e

  -- a record between two that the span overlaps is overlapped too
  between : Ordered node start end n → (i j k : ℕ) → i < j → j < k → k < n → M i ≡ true → M k ≡ true → M j ≡ true
  between o i j k l h u p q =
      let x = hit i p in
      let y = hit k q in
      let b : at node i ≤ at node j = o.by_node i j l (omega arith) in
      let b' : at node j ≤ at node k = o.by_node j k h u in
      let e : at node j ≡ sp.node = omega arith in
      let f = o.filled j (omega arith) (omega arith) in
      let g : at end i ≤ at start j = o.apart i j l (omega arith) (omega arith) in
      let g' : at end j ≤ at start k = o.apart j k h u (omega arith) in
      met_true sp.node sp.start sp.end (range_at three j) (record { node = e; left = omega arith; right = omega arith })

  overlap_end : Ordered node start end n → (lo i : ℕ) → First node start end n sp lo → lo ≤ i → i < n → Each lo i (λ k. M k ≡ true)
      → M i ≡ false → Overlap node start end n sp lo i
  overlap_end o lo i f l u hs e =
      record { order = l; high = omega arith; before = f.before; hits = hs; after = λ k a b. go k a b (M k) refl (ℕ_discrete k i) }
    where
      past : lo ≡ i → ⊥
      past q = true≢false (sym (f.there (omega arith)) ∙ ap (λ k. M k) q ∙ e)

      go : (k : ℕ) → i ≤ k → k < n → (b : Bool) → M k ≡ b → Dec (k ≡ i) → b ≡ false
      go k a h true p (yes q) = sym p ∙ ap (λ j. M j) q ∙ e
      go k a h true p (no d) =
          let l1 : lo < i = lt_of (ℕ_discrete lo i) in
          let l2 : i < k = omega (arith, d) in
          absurd (true≢false (sym (between o lo i k l1 l2 h (hs lo (omega arith) l1) p) ∙ e))
        where
          lt_of : Dec (lo ≡ i) → lo < i
          lt_of (yes q) = absurd (past q)
          lt_of (no q) = omega (arith, q)
      go k a h false p dd = refl

  overlap_all : (lo i : ℕ) → First node start end n sp lo → lo ≤ i → i ≤ n → n ≤ i → Each lo i (λ k. M k ≡ true) → Overlap node start end n sp lo i
  overlap_all lo i f l u v hs = record { order = l; high = u; before = f.before; hits = hs; after = λ k a b. absurd (omega arith) }

  -- by the first record from lo on that the span misses
  pub overlap_found : Ordered node start end n → (lo : ℕ) → First node start end n sp lo → (r : Option ℕ)
      → MatchOption r ((k : ℕ) → lo ≤ k → k < n → M k ≡ true) (λ i. (lo ≤ i) × (i < n) × (M i ≡ false) × ((k : ℕ) → lo ≤ k → k < i → M k ≡ true))
      → Overlap node start end n sp lo (unwrap_or r n)
  overlap_found o lo f None all = overlap_all lo n f f.within (omega arith) (omega arith) all
  overlap_found o lo f (Some i) h = overlap_end o lo i f h.0 h.1 h.3 h.2

-- ---- the overlapped records as a list, and what a touch and a removal need of them

hits-none : (v a z : ℕ) (xs : List Range) → All (Miss v a z) xs → overlapped v a z xs ≡ []
unfolding overlapped All
hits-none v a z [] k = refl
hits-none v a z (x ∷ xs) k = rw k.0 (hits-none v a z xs k.1)

hits_cons : (v a z : ℕ) (r : Range) (rs : List Range) → meets v a z r ≡ true → overlapped v a z (r ∷ rs) ≡ r ∷ overlapped v a z rs
unfolding overlapped
hits_cons v a z r rs e = rw e

pub and_no : (b : Bool) → (b && false) ≡ false
and_no true = refl
and_no false = refl

-- only overlapped ranges have pieces
pub new-hits : (v a z : ℕ) (rs : List Range) → new_pieces v a z rs ≡ new_pieces v a z (overlapped v a z rs)
unfolding new_pieces overlapped
new-hits v a z [] = refl
new-hits v a z (r ∷ rs) = go (meets v a z r) refl (new-hits v a z rs)
  where
    go : (b : Bool) → meets v a z r ≡ b → new_pieces v a z rs ≡ new_pieces v a z (overlapped v a z rs)
        → plus (has_tail v a z r) (plus (has_head v a z r) (new_pieces v a z rs)) ≡ new_pieces v a z (Rattle.model.specs.Store.put b r (overlapped v a z rs))
    go true e ih = rw ih
    go false e ih = rw e ih

plus_swap : (b h : Bool) → plus h (plus b 0) ≡ plus b (plus h 0)
plus_swap true true = refl
plus_swap true false = refl
plus_swap false true = refl
plus_swap false false = refl

new_row : (v a z : ℕ) (c : Ranges) (i m : ℕ) → Each (suc i) (i + suc m) (λ k. has_head v a z (range_at c k) ≡ false)
    → Each i (i + m) (λ k. has_tail v a z (range_at c k) ≡ false)
    → new_pieces v a z (ranges c i (suc m)) ≡ plus (has_tail v a z (range_at c (i + m))) (plus (has_head v a z (range_at c i)) 0)
unfolding new_pieces ranges
new_row v a z c i zero heads tails = rw (add-zero i)
new_row v a z c i (suc m) heads tails =
    let ih = new_row v a z c (suc i) m (λ k l u. heads k (omega arith) (omega arith)) (λ k l u. tails k (omega arith) (omega arith)) in
    let e : suc i + m ≡ i + suc m = omega arith in
    rw (tails i (omega arith) (omega arith), ih, heads (suc i) (omega arith) (omega arith), e)
    (plus_swap (has_tail v a z (range_at c (i + suc m))) (has_head v a z (range_at c i)))

middles_cons : (v a z : ℕ) (r : Range) (qs : List Range) → meets v a z r ≡ true → middle_cuts v a z qs ≡ 0
    → middle_cuts v a z (r ∷ qs) ≡ plus (ltb r.start a && ltb z r.end) 0
unfolding middle_cuts
middles_cons v a z r qs e h = rw (e, h)

module _ (c : Ranges) (n : ℕ) (sp : Span) where
  abbrev rs : List Range
  rs = ranges c 0 n

  pub misses_before : (lo : ℕ) → Each 0 lo (λ i. meets_at c.node c.start c.end sp i ≡ false) → All (Miss sp.node sp.start sp.end) (ranges c 0 lo)
  misses_before lo h = all-places (Miss sp.node sp.start sp.end) c 0 lo (λ i l u. h i l (omega arith))

  module _ (lo hi : ℕ) (w : Overlap c.node c.start c.end n sp lo hi) where
    pub misses_after : All (Miss sp.node sp.start sp.end) (ranges c hi (n - hi))
    misses_after = all-places (Miss sp.node sp.start sp.end) c hi (n - hi) (λ i l u. w.after i l (omega (arith, w.high)))

    pub hits-are : overlapped sp.node sp.start sp.end rs ≡ ranges c lo (hi - lo)
    hits-are =
        ap (overlapped sp.node sp.start sp.end) (ranges_cut0 c lo n (omega (arith, w.order, w.high)) ∙ ap (λ t. ranges c 0 lo ++ t) (ranges-cut c lo hi n w.order w.high))
        ∙ hits_skip sp.node sp.start sp.end (ranges c 0 lo) _ (misses_before lo w.before)
        ∙ hits-all sp.node sp.start sp.end (ranges c lo (hi - lo)) (ranges c hi (n - hi))
        (all-places (Hit sp.node sp.start sp.end) c lo (hi - lo) (λ i l u. w.hits i l (omega (arith, w.order))))
        ∙ ap (λ t. ranges c lo (hi - lo) ++ t) (hits-none sp.node sp.start sp.end (ranges c hi (n - hi)) misses_after)
        ∙ append-nil (ranges c lo (hi - lo))

    module _ (o : Ordered c.node c.start c.end n) (some : lo < hi) where
      hits : (k : ℕ) → lo ≤ k → k < hi → Met sp.node sp.start sp.end (range_at c k)
      hits k l u = met sp.node sp.start sp.end (range_at c k) (w.hits k l u)

      no_heads : (k : ℕ) → lo < k → k < hi → has_head sp.node sp.start sp.end (range_at c k) ≡ false
      no_heads k l u =
          let x = hits lo (omega arith) some in
          let y = hits k (omega arith) u in
          let g : at c.end lo ≤ at c.start k = o.apart lo k l (omega (arith, w.high)) (x.node ∙ sym y.node) in
          rw (le-ltb (at c.start k) sp.start (omega arith)) (and_no (meets sp.node sp.start sp.end (range_at c k)))

      no_tails : (k : ℕ) → lo ≤ k → k + 1 < hi → has_tail sp.node sp.start sp.end (range_at c k) ≡ false
      no_tails k l u =
          let x = hits k l (omega arith) in
          let y = hits (k + 1) (omega arith) u in
          let g : at c.end k ≤ at c.start (k + 1) = o.apart k (k + 1) (omega arith) (omega (arith, w.high)) (x.node ∙ sym y.node) in
          rw (le-ltb sp.end (at c.end k) (omega arith)) (and_no (meets sp.node sp.start sp.end (range_at c k)))

      pub new-ends : new_pieces sp.node sp.start sp.end rs ≡ plus (ltb sp.end (at c.end (hi - 1))) (plus (ltb (at c.start lo) sp.start) 0)
      new-ends =
          let e : hi - lo ≡ suc (hi - 1 - lo) = omega arith in
          let f : lo + (hi - 1 - lo) ≡ hi - 1 = omega arith in
          new-hits sp.node sp.start sp.end rs
          ∙ ap (new_pieces sp.node sp.start sp.end) (hits-are ∙ ap (λ t. ranges c lo t) e)
          ∙ new_row sp.node sp.start sp.end c lo (hi - 1 - lo) (λ k l u. no_heads k (omega arith) (omega arith)) (λ k l u. no_tails k l (omega arith))
          ∙ rw (f, w.hits lo (omega arith) some, w.hits (hi - 1) (omega arith) (omega arith))

  pub first-hit : (lo : ℕ) → First c.node c.start c.end n sp lo → lo < n
      → overlapped sp.node sp.start sp.end rs ≡ range_at c lo ∷ overlapped sp.node sp.start sp.end (ranges c (lo + 1) (n - (lo + 1)))
  first-hit lo f h =
      ap (overlapped sp.node sp.start sp.end) (ranges_seam c lo n h)
      ∙ hits_skip sp.node sp.start sp.end (ranges c 0 lo) _ (misses_before lo f.before)
      ∙ hits_cons sp.node sp.start sp.end (range_at c lo) (ranges c (lo + 1) (n - (lo + 1))) (f.there h)

  -- only the first overlapped record can reach past both ends
  module _ (lo : ℕ) (f : First c.node c.start c.end n sp lo) (o : Ordered c.node c.start c.end n) (some : lo < n) where
    pub no_middle : (k : ℕ) → lo < k → k < n → middle_cut sp.node sp.start sp.end (range_at c k) ≡ false
    no_middle k l u = go (meets sp.node sp.start sp.end (range_at c k)) refl
      where
        go : (b : Bool) → meets sp.node sp.start sp.end (range_at c k) ≡ b → middle_cut sp.node sp.start sp.end (range_at c k) ≡ false
        go false e = rw e
        go true e =
            let x = met sp.node sp.start sp.end (range_at c lo) (f.there some) in
            let y = met sp.node sp.start sp.end (range_at c k) e in
            let g : at c.end lo ≤ at c.start k = o.apart lo k l u (x.node ∙ sym y.node) in
            rw (e, le-ltb (at c.start k) sp.start (omega arith))

    pub middles_first : middle_cuts sp.node sp.start sp.end rs ≡ plus (ltb (at c.start lo) sp.start && ltb sp.end (at c.end lo)) 0
    middles_first =
        ap (middle_cuts sp.node sp.start sp.end) (ranges_seam c lo n some)
        ∙ middles_skip sp.node sp.start sp.end (ranges c 0 lo) _ (misses_before lo f.before)
        ∙ middles_cons sp.node sp.start sp.end (range_at c lo) (ranges c (lo + 1) (n - (lo + 1))) (f.there some)
        (middles_none sp.node sp.start sp.end _ (all-places (λ r. middle_cut sp.node sp.start sp.end r ≡ false) c (lo + 1) (n - (lo + 1)) (λ k l u. no_middle k (omega arith) (omega arith))))
