-- What the loops and the stores of a removal come to, over variables: each overlapped record gives way to the pieces that are left of it, so that the
-- records done and those still to come are the definition's list.
use mathlib.Core.Path.{◌≡◌, refl, sym, ap, subst, ◌∙◌}
use mathlib.Core.Bool.{Bool, true, false, ◌&&◌, true≢false, false≢true}
use mathlib.Core.List.{List, [], ◌∷◌, ◌++◌, append_assoc, append-nil}
use Prim.Native.Nat.{ℕ, zero, suc, ◌+◌, ◌-◌, ◌*◌, ◌≤◌, ◌<◌, min, max}
use native.Mathlib.Omega.{arith}
use lib.ListN.{length, set, take, drop, length-append, length-set}
use Rattle.std.proofs.lemmas.List.{get_or-drop, get_or-take, length-drop, length-take}
use lib.Dec.{ltb}
use borrow.Author.Tests.{lt-ltb, le-ltb, ltb-true}
use Rattle.model.specs.declared.Span.{Span}
use Rattle.model.specs.Words.{Each}
use Rattle.model.specs.State.{Ranges, Range, at, range_at}
use Rattle.model.specs.Store.{Store, ranges, lay_ranges, meets, unmark, part, put, plus}
use Rattle.model.specs.Touch.{overlapped}
use Rattle.model.specs.Remove.{middle_cut, tail_id, remains, cut_out, middle_cuts, listed, writes, gone_blocks, remove_hits, remove}
use Rattle.model.specs.Calls.{front}
use Rattle.theory_sound.specs.Facts.{All}
use Rattle.theory_touch.proofs.Bools.{and_true}
use Rattle.theory_touch.proofs.Recut.{met}
use Rattle.theory_lay.proofs.Rows.{ranges_length}
use Rattle.pool_range.specs.Part.{Sized, cut_range}
use Rattle.pool_out.proofs.Laws.{front-more}
use Rattle.rule_overlap.specs.Overlap.{Ordered, First, Overlap, Cuttable, at_place, halves}
use Rattle.rule_overlap.proofs.Laid.{back, sized-laid, laid-at, laid-read, then_wide, then_narrow, edited}
use Rattle.rule_overlap.proofs.Lists.{Miss, out_skip, middles_none, at_seam}
use Rattle.rule_overlap.proofs.Places.{all-places, ranges_cut0, ranges_cons, ranges-none, ranges_seam, misses_before, misses_after, hits-are, no_middle, middles_first}
use Rattle.rule_overlap.proofs.Laws.{at_here, same_here, end-here, start-here, cut-here}
use Rattle.rule_remove.specs.Remove.{left_of, both_ends, CutTo, Freed}

-- ---- the blocks that go

gone_cons : (a z : ℕ) (r : Range) (rs : List Range) → gone_blocks a z (r ∷ rs) ≡ (min z r.end - max a r.start) + gone_blocks a z rs
unfolding gone_blocks
gone_cons a z r rs = refl

gone_nil : (a z : ℕ) → gone_blocks a z [] ≡ 0
unfolding gone_blocks
gone_nil a z = refl

-- the blocks so far, and those to come
pub record Counting (c : Ranges) (sp : Span) (lo hi sum i : ℕ) : Type 0 where
  pub small : sum ≤ 1024 * i
  pub todo : sum + gone_blocks sp.start sp.end (ranges c i (hi - i)) ≡ gone_blocks sp.start sp.end (ranges c lo (hi - lo))

pub count_turn : (c : Ranges) (sp : Span) (lo hi sum i b : ℕ) → Counting c sp lo hi sum i → i < hi
    → b ≡ min sp.end (at c.end i) - max sp.start (at c.start i) → b ≤ 1024 → Counting c sp lo hi (sum + b) (i + 1)
count_turn c sp lo hi sum i b s h e u =
    record {
      small = omega (arith, s.small);
      todo =
          omega (
            arith,
            e,
            s.todo,
            ap (gone_blocks sp.start sp.end) (ranges_cons c i hi h) ∙ gone_cons sp.start sp.end (range_at c i) (ranges c (i + 1) (hi - (i + 1))),
          );
    }

pub count-end : (c : Ranges) (sp : Span) (lo hi sum i : ℕ) → Counting c sp lo hi sum i → hi ≤ i
    → sum ≡ gone_blocks sp.start sp.end (ranges c lo (hi - lo))
count-end c sp lo hi sum i s h = omega (arith, s.todo, ap (gone_blocks sp.start sp.end) (ranges-none c i hi h) ∙ gone_nil sp.start sp.end)

-- ---- the writes

writes_cons : (r : Range) (rs : List Range) → writes (r ∷ rs) ≡ listed r.write (writes rs)
unfolding writes
writes_cons r rs = refl

writes_nil : writes [] ≡ []
unfolding writes
writes_nil = refl

listed-some : (w : ℕ) (ws : List ℕ) → (w ≡ 0 → ⊥) → listed w ws ≡ w ∷ ws
listed-some zero ws h = absurd (h refl)
listed-some (suc w) ws h = refl

listed-none : (w : ℕ) (ws : List ℕ) → w ≡ 0 → listed w ws ≡ ws
listed-none zero ws h = refl
listed-none (suc w) ws h = absurd (omega arith)

-- the writes listed so far, and those to come
pub record Listing (c : Ranges) (l₀ l : List ℕ) (lo hi k i : ℕ) : Type 0 where
  pub few : k + lo ≤ i
  pub done : List ℕ
  pub long : length done ≡ k
  pub same : length l ≡ length l₀
  pub list : l ≡ front done l₀
  pub todo : done ++ writes (ranges c i (hi - i)) ≡ writes (ranges c lo (hi - lo))

module _ (c : Ranges) (l₀ l : List ℕ) (lo hi k i : ℕ) (s : Listing c l₀ l lo hi k i) (h : i < hi) where
  next-write : writes (ranges c i (hi - i)) ≡ listed (at c.write i) (writes (ranges c (i + 1) (hi - (i + 1))))
  next-write = ap writes (ranges_cons c i hi h) ∙ writes_cons (range_at c i) (ranges c (i + 1) (hi - (i + 1)))

  list-some : (at c.write i ≡ 0 → ⊥) → hi ≤ length l₀ → Listing c l₀ (set l k (at c.write i)) lo hi (k + 1) (i + 1)
  list-some d room =
      record {
        few = omega (arith, s.few);
        done = s.done ++ (at c.write i ∷ []);
        long = length-append s.done (at c.write i ∷ []) ∙ ap (λ t. t + 1) s.long;
        same = length-set l k (at c.write i) ∙ s.same;
        list =
            ap (λ t. set t k (at c.write i)) s.list ∙ ap (λ t. set (front s.done l₀) t (at c.write i)) (sym s.long)
            ∙ front-more s.done (at c.write i) l₀ (omega (arith, s.few, s.long));
        todo =
            append_assoc s.done (at c.write i ∷ []) (writes (ranges c (i + 1) (hi - (i + 1))))
            ∙ ap (λ t. s.done ++ t) (sym (next-write ∙ listed-some (at c.write i) (writes (ranges c (i + 1) (hi - (i + 1)))) d)) ∙ s.todo;
      }

  list-none : at c.write i ≡ 0 → Listing c l₀ l lo hi k (i + 1)
  list-none e =
      record {
        few = omega (arith, s.few);
        done = s.done;
        long = s.long;
        same = s.same;
        list = s.list;
        todo = ap (λ t. s.done ++ t) (sym (next-write ∙ listed-none (at c.write i) (writes (ranges c (i + 1) (hi - (i + 1)))) e)) ∙ s.todo;
      }

  -- where the ways join, at a write w and the next place j
  pub some_to : (l' : List ℕ) (k' w j : ℕ) → hi ≤ length l₀ → at c.write i ≡ w → j ≡ i + 1 → (w ≡ 0 → ⊥) → l' ≡ set l k w → k' ≡ k + 1
      → Listing c l₀ l' lo hi k' j
  some_to l' k' w j room is next d p q = rw (p, q, next, ← is) (list-some (λ e. d (sym is ∙ e)) room)

  pub none_to : (l' : List ℕ) (k' w j : ℕ) → at c.write i ≡ w → j ≡ i + 1 → w ≡ 0 → l' ≡ l → k' ≡ k → Listing c l₀ l' lo hi k' j
  none_to l' k' w j is next e p q = rw (p, q, next) (list-none (is ∙ e))

pub list-end : (c : Ranges) (l₀ l : List ℕ) (lo hi k i : ℕ) → Listing c l₀ l lo hi k i → hi ≤ i
    → (l ≡ front (writes (ranges c lo (hi - lo))) l₀) × (k ≡ length (writes (ranges c lo (hi - lo))))
list-end c l₀ l lo hi k i s h =
    let e : s.done ≡ writes (ranges c lo (hi - lo)) =
    sym (append-nil s.done) ∙ ap (λ t. s.done ++ t) (sym (ap writes (ranges-none c i hi h) ∙ writes_nil)) ∙ s.todo in
    (s.list ∙ ap (λ t. front t l₀) e, sym s.long ∙ ap length e)

-- a part of a column, read at place j
pub part_at : (l : List ℕ) (lo hi j : ℕ) → j < length (take (hi - lo) (drop lo l)) → (lo + j < hi) × (at l (lo + j) ≡ at (take (hi - lo) (drop lo l)) j)
part_at l lo hi j h =
    let k : j < hi - lo = omega (arith, h, length-take (hi - lo) (drop lo l)) in
    (omega (arith, k), sym (get_or-take (hi - lo) (drop lo l) j 0 k ∙ get_or-drop lo l j 0))

pub part_end : (l : List ℕ) (lo hi j : ℕ) → hi ≤ length l → length (take (hi - lo) (drop lo l)) ≤ j → hi ≤ lo + j
part_end l lo hi j h e = omega (arith, h, e, length-take (hi - lo) (drop lo l), length-drop lo l)

-- ---- one record

module _ (c : Ranges) (s : Sized 128 c) (i n : ℕ) (h : i < n) (g : n ≤ 128) (a z : ℕ) where
  not_both : (p q : Bool) → (p && q) ≡ false → p ≡ true → q ≡ false
  not_both true q e f = e
  not_both false q e f = absurd (false≢true f)

  pub trim-head : (ltb (at c.start i) a && ltb z (at c.end i)) ≡ false → at c.start i < a
      → edited c c.start (set c.end i a) c.stamp c.touched ≡ lay_ranges 0 n (at_place i (left_of a z) (ranges c 0 n)) c
  trim-head b l =
      let e = lt-ltb (at c.start i) a l in
      end-here c s i n h g a
      ∙ same_here c s i n h n (λ r rs. part r r.node r.start a r.id ∷ rs) (left_of a z) (rw (e, not_both (ltb (at c.start i) a) (ltb z (at c.end i)) b e))

  pub trim-tail : a ≤ at c.start i → z < at c.end i
      → edited c (set c.start i z) c.end c.stamp c.touched ≡ lay_ranges 0 n (at_place i (left_of a z) (ranges c 0 n)) c
  trim-tail l u =
      start-here c s i n h g z
      ∙ same_here c s i n h n (λ r rs. part r r.node z r.end r.id ∷ rs) (left_of a z) (rw (le-ltb (at c.start i) a l, lt-ltb z (at c.end i) u))

  pub trim-all : a ≤ at c.start i → at c.end i ≤ z → (c' : Ranges) → c' ≡ cut_range i n c → c' ≡ lay_ranges 0 n (at_place i (left_of a z) (ranges c 0 n)) c
  trim-all l u c' e =
      e ∙ cut-here c s i n h g
      ∙ same_here c s i n h n (λ r rs. rs) (left_of a z) (rw (le-ltb (at c.start i) a l, le-ltb z (at c.end i) u))

module _ (c : Ranges) (s : Sized 128 c) (i n : ℕ) (h : i < n) (g : n < 128) (a z next : ℕ) (d : Ranges)
    (e : d ≡ lay_ranges 0 (n + 1) (at_place i (halves z next) (ranges c 0 n)) c) where
  middle-long : length (at_place i (halves z next) (ranges c 0 n)) ≡ n + 1
  middle-long =
      ap length (at_here c s i n h (halves z next))
      ∙ omega (
        arith,
        length-append (ranges c 0 i) (halves z next (range_at c i) (ranges c (i + 1) (n - (i + 1)))),
        ranges_length c 0 i,
        ranges_length c (i + 1) (n - (i + 1)),
      )

  pub middle_sized : Sized 128 d
  middle_sized = rw e (sized-laid c s (n + 1) (at_place i (halves z next) (ranges c 0 n)) (omega (arith, middle-long)) (omega arith))

  pub middle-is : edited d d.start (set d.end i a) d.stamp d.touched ≡ lay_ranges 0 (n + 1) (at_place i (both_ends a z next) (ranges c 0 n)) c
  middle-is =
      let xs = ranges c 0 i in
      let F : List Range → List Range = at_place i (λ q rs. part q q.node q.start a q.id ∷ rs) in
      then_wide c s F (n + 1) (n + 1) (at_place i (halves z next) (ranges c 0 n)) d _ e middle-long (omega arith) (omega arith)
      (end-here d middle_sized i (n + 1) (omega arith) (omega arith) a)
      ∙ ap (λ t. lay_ranges 0 (n + 1) t c)
      (ap F (at_here c s i n h (halves z next)) ∙ at_seam (λ q rs. part q q.node q.start a q.id ∷ rs) i xs _ _ (ranges_length c 0 i)
      ∙ sym (at_here c s i n h (both_ends a z next)))

-- ---- the span cut out of a list

cut_cons : (v a z next : ℕ) (r : Range) (rs : List Range) → meets v a z r ≡ true → (ltb r.start a && ltb z r.end) ≡ false
    → cut_out v a z next (r ∷ rs) ≡ left_of a z r (cut_out v a z next rs)
unfolding cut_out
cut_cons v a z next r rs e f =
    subst (λ b. remains b v a z next r (cut_out v a z (plus (middle_cut v a z r) next) rs) ≡ left_of a z r (cut_out v a z next rs)) (sym e)
    (go (meets v a z r) (ltb r.start a) (ltb z r.end) e f)
  where
    go : (m h g : Bool) → m ≡ true → (h && g) ≡ false
        → put (m && h) (part r r.node r.start a r.id)
        (put (m && g) (part r r.node z r.end (tail_id ((m && h) && (m && g)) next r)) (cut_out v a z (plus ((m && h) && (m && g)) next) rs))
        ≡ put h (part r r.node r.start a r.id) (put g (part r r.node z r.end r.id) (cut_out v a z next rs))
    go false h g e f = absurd (false≢true e)
    go true true true e f = absurd (true≢false f)
    go true true false e f = refl
    go true false true e f = refl
    go true false false e f = refl

cut-both : (v a z next : ℕ) (r : Range) (rs : List Range) → meets v a z r ≡ true → ltb r.start a ≡ true → ltb z r.end ≡ true
    → cut_out v a z next (r ∷ rs) ≡ both_ends a z next r (cut_out v a z (suc next) rs)
unfolding cut_out
cut-both v a z next r rs e f g =
    subst (λ b. remains b v a z next r (cut_out v a z (plus (middle_cut v a z r) next) rs) ≡ both_ends a z next r (cut_out v a z (suc next) rs)) (sym e)
    (go (meets v a z r) (ltb r.start a) (ltb z r.end) e f g)
  where
    go : (m h g : Bool) → m ≡ true → h ≡ true → g ≡ true
        → put (m && h) (part r r.node r.start a r.id)
        (put (m && g) (part r r.node z r.end (tail_id ((m && h) && (m && g)) next r)) (cut_out v a z (plus ((m && h) && (m && g)) next) rs))
        ≡ both_ends a z next r (cut_out v a z (suc next) rs)
    go false h g e f k = absurd (false≢true e)
    go true false g e f k = absurd (false≢true f)
    go true true false e f k = absurd (false≢true k)
    go true true true e f k = refl

cut_nil : (v a z next : ℕ) → cut_out v a z next [] ≡ []
unfolding cut_out
cut_nil v a z next = refl

cut_miss : (v a z next : ℕ) (rs : List Range) → All (Miss v a z) rs → cut_out v a z next rs ≡ rs
cut_miss v a z next rs k =
    ap (cut_out v a z next) (sym (append-nil rs)) ∙ out_skip v a z next rs [] k ∙ ap (λ t. rs ++ t) (cut_nil v a z next) ∙ append-nil rs

left-pieces : (a z : ℕ) (r : Range) (rs : List Range) → left_of a z r rs ≡ left_of a z r [] ++ rs
left-pieces a z r rs = go (ltb r.start a) (ltb z r.end)
  where
    go : (h g : Bool) → put h (part r r.node r.start a r.id) (put g (part r r.node z r.end r.id) rs)
        ≡ put h (part r r.node r.start a r.id) (put g (part r r.node z r.end r.id) []) ++ rs
    go true true = refl
    go true false = refl
    go false true = refl
    go false false = refl

left-long : (a z : ℕ) (r : Range) → length (left_of a z r []) ≡ plus (ltb r.start a) (plus (ltb z r.end) 0)
left-long a z r = go (ltb r.start a) (ltb z r.end)
  where
    go : (h g : Bool) → length (put h (part r r.node r.start a r.id) (put g (part r r.node z r.end r.id) [])) ≡ plus h (plus g 0)
    go true true = refl
    go true false = refl
    go false true = refl
    go false false = refl

few-left : (h g : Bool) → (h && g) ≡ false → plus h (plus g 0) ≤ 1
few-left true true e = absurd (true≢false e)
few-left true false e = omega arith
few-left false true e = omega arith
few-left false false e = omega arith

-- ---- the loop: the pieces that stand so far, and the records to come

pub record Cutting (c₀ c : Ranges) (n lo hi : ℕ) (sp : Span) (i j : ℕ) : Type 0 where
  pub low : lo ≤ j
  pub high : j ≤ hi
  pub few : i ≤ j
  pub done : List Range
  pub long : length done ≡ i
  pub columns : c ≡ lay_ranges 0 n (done ++ ranges c₀ j (n - j)) c₀
  pub todo :
      (next : ℕ) → cut_out sp.node sp.start sp.end next (ranges c₀ 0 n) ≡ done ++ cut_out sp.node sp.start sp.end next (ranges c₀ j (n - j))

pub cutting_start : (c : Ranges) (n lo hi : ℕ) (sp : Span) → Cuttable c n lo hi sp → Cutting c c n lo hi sp lo lo
cutting_start c n lo hi sp w =
    let o = w.over in
    let e = ranges_cut0 c lo n (omega (arith, o.order, o.high)) in
    record {
      low = omega arith;
      high = o.order;
      few = omega arith;
      done = ranges c 0 lo;
      long = ranges_length c 0 lo;
      columns = sym (ap (λ t. lay_ranges 0 n t c) (sym e) ∙ back n c w.sized w.few);
      todo =
          λ next.
          ap (cut_out sp.node sp.start sp.end next) e
          ∙ out_skip sp.node sp.start sp.end next (ranges c 0 lo) (ranges c lo (n - lo)) (misses_before c n sp lo o.before);
    }

module _ (c₀ c : Ranges) (n lo hi : ℕ) (sp : Span) (i j : ℕ) (w : Cuttable c₀ n lo hi sp) (s : Cutting c₀ c n lo hi sp i j) where
  pub cutting_sized : Sized 128 c
  cutting_sized =
      rw s.columns
      (sized-laid c₀ w.sized n (s.done ++ ranges c₀ j (n - j))
      (omega (arith, length-append s.done (ranges c₀ j (n - j)), ranges_length c₀ j (n - j), s.long, s.few, s.high, w.over.high)) w.few)

  module _ (h : j < hi) where
    abbrev r : Range
    r = range_at c₀ j

    abbrev rest : List Range
    rest = ranges c₀ (j + 1) (n - (j + 1))

    inside : j < n
    inside = omega (arith, w.over.high)

    at_hand : c ≡ lay_ranges 0 n (s.done ++ (r ∷ rest)) c₀
    at_hand = s.columns ∙ ap (λ t. lay_ranges 0 n (s.done ++ t) c₀) (ranges_cons c₀ j n inside)

    as_long : length (s.done ++ (r ∷ rest)) ≡ i + (n - j)
    as_long = omega (arith, inside, length-append s.done (r ∷ rest), ranges_length c₀ (j + 1) (n - (j + 1)), s.long)

    pub cutting_at : range_at c i ≡ range_at c₀ j
    cutting_at = ap (λ t. range_at t i) at_hand ∙ laid-at c₀ w.sized n i s.done r rest s.long (omega (arith, as_long, s.few, inside)) w.few

    module _ (b : (ltb (at c₀.start j) sp.start && ltb sp.end (at c₀.end j)) ≡ false) where
      pub cutting_both : (ltb (at c.start i) sp.start && ltb sp.end (at c.end i)) ≡ false
      cutting_both = ap (λ q. ltb q.start sp.start && ltb sp.end q.end) cutting_at ∙ b

      pub cutting_turn : (c' : Ranges) (k : ℕ) → c' ≡ lay_ranges 0 (i + (n - j)) (at_place i (left_of sp.start sp.end) (ranges c 0 (i + (n - j)))) c
          → k ≡ plus (ltb (at c.start i) sp.start) (plus (ltb sp.end (at c.end i)) 0) → Cutting c₀ c' n lo hi sp (i + k) (j + 1)
      cutting_turn c' k e q =
          let a = sp.start in
          let z = sp.end in
          let pieces = left_of a z r [] in
          let count : k ≡ length pieces = q ∙ ap (λ t. plus (ltb t.start a) (plus (ltb z t.end) 0)) cutting_at ∙ sym (left-long a z r) in
          let most : length pieces ≤ 1 = rw (left-long a z r) (few-left (ltb r.start a) (ltb z r.end) b) in
          let list : at_place i (left_of a z) (s.done ++ (r ∷ rest)) ≡ (s.done ++ pieces) ++ rest =
          at_seam (left_of a z) i s.done r rest s.long ∙ ap (λ t. s.done ++ t) (left-pieces a z r rest) ∙ sym (append_assoc s.done pieces rest) in
          let size : length (at_place i (left_of a z) (s.done ++ (r ∷ rest))) ≤ i + (n - j) =
          rw list (omega (arith, inside, length-append (s.done ++ pieces) rest, length-append s.done pieces, ranges_length c₀ (j + 1) (n - (j + 1)), s.long, most)) in
          record {
            low = omega (arith, s.low);
            high = omega arith;
            few = omega (arith, s.few, count, most);
            done = s.done ++ pieces;
            long = omega (arith, length-append s.done pieces, s.long, count);
            columns =
                then_narrow c₀ w.sized (at_place i (left_of a z)) (i + (n - j)) n (s.done ++ (r ∷ rest)) c c' at_hand as_long (omega (arith, inside, s.few)) w.few size e
                ∙ ap (λ t. lay_ranges 0 n t c₀) list;
            todo =
                λ next.
                s.todo next
                ∙ ap (λ t. s.done ++ t)
                (ap (cut_out sp.node a z next) (ranges_cons c₀ j n inside) ∙ cut_cons sp.node a z next r rest (w.over.hits j s.low h) b
                ∙ left-pieces a z r (cut_out sp.node a z next rest))
                ∙ sym (append_assoc s.done pieces (cut_out sp.node a z next rest));
          }

  no_cuts : Each lo hi (λ k. (ltb (at c₀.start k) sp.start && ltb sp.end (at c₀.end k)) ≡ false) → middle_cuts sp.node sp.start sp.end (ranges c₀ 0 n) ≡ 0
  no_cuts b = middles_none sp.node sp.start sp.end (ranges c₀ 0 n) (all-places (λ q. middle_cut sp.node sp.start sp.end q ≡ false) c₀ 0 n (λ k l u. go k (omega arith) (meets sp.node sp.start sp.end (range_at c₀ k)) refl))
    where
      go : (k : ℕ) → k < n → (m : Bool) → meets sp.node sp.start sp.end (range_at c₀ k) ≡ m → middle_cut sp.node sp.start sp.end (range_at c₀ k) ≡ false
      go k u false e = rw e
      go k u true e = rw e (b k (within_low k e) (within-high k u e))
        where
          within_low : (k : ℕ) → meets sp.node sp.start sp.end (range_at c₀ k) ≡ true → lo ≤ k
          within_low k e = elim (native.Mathlib.Decide.dec_le lo k) [ yes l ↦ l | no l ↦ absurd (true≢false (sym e ∙ w.over.before k (omega arith) (omega (arith, l)))) ]

          within-high : (k : ℕ) → k < n → meets sp.node sp.start sp.end (range_at c₀ k) ≡ true → k < hi
          within-high k u e = elim (native.Mathlib.Decide.dec_le hi k) [ yes l ↦ absurd (true≢false (sym e ∙ w.over.after k l u)) | no l ↦ omega (arith, l) ]

  pub cutting_end : hi ≤ j → Each lo hi (λ k. (ltb (at c₀.start k) sp.start && ltb sp.end (at c₀.end k)) ≡ false) → (next : ℕ)
      → CutTo next 0 sp c₀ c n (i + (n - hi))
  cutting_end h b next =
      let e : j ≡ hi = omega (arith, s.high) in
      let z : n + 0 ≡ n = omega arith in
      let all : cut_out sp.node sp.start sp.end next (ranges c₀ 0 n) ≡ s.done ++ ranges c₀ j (n - j) =
      s.todo next
      ∙ ap (λ t. s.done ++ t)
      (ap (λ t. cut_out sp.node sp.start sp.end next (ranges c₀ t (n - t))) e
      ∙ cut_miss sp.node sp.start sp.end next (ranges c₀ hi (n - hi)) (misses_after c₀ n sp lo hi w.over)
      ∙ ap (λ t. ranges c₀ t (n - t)) (sym e)) in
      record {
        columns = s.columns ∙ ap (λ t. lay_ranges 0 n t c₀) (sym all) ∙ ap (λ t. lay_ranges 0 t (cut_out sp.node sp.start sp.end next (ranges c₀ 0 n)) c₀) (sym z);
        records = sym (ap length all ∙ omega (arith, length-append s.done (ranges c₀ j (n - j)), ranges_length c₀ j (n - j), s.long));
        few = omega (arith, s.few, w.over.high);
        needs = sym (no_cuts b);
      }

-- ---- a range that reaches past both ends is the only one that the span overlaps

pub past_both : {a b d e : ℕ} → a < b → d < e → (ltb a b && ltb d e) ≡ true
past_both {a} {b} {d} {e} h g = rw (lt-ltb a b h, lt-ltb d e g)

pub not_past : {p q : Bool} → p ≡ true → q ≡ false → (p && q) ≡ false
not_past h g = rw (h, g)

pub first_of : (c : Ranges) (n lo hi : ℕ) (sp : Span) → Overlap c.node c.start c.end n sp lo hi → lo < hi → First c.node c.start c.end n sp lo
first_of c n lo hi sp w h = record { within = omega (arith, w.high); before = w.before; there = λ l. w.hits lo (omega arith) h }

module _ (c : Ranges) (n lo hi : ℕ) (sp : Span) (some : lo < hi) (w : Cuttable c n lo hi sp) (o : Ordered c.node c.start c.end n) where
  abbrev first : First c.node c.start c.end n sp lo
  first = first_of c n lo hi sp w.over some

  inside-n : lo < n
  inside-n = omega (arith, w.over.high)

  -- none behind the first reaches past both ends
  pub none-past : (ltb (at c.start lo) sp.start && ltb sp.end (at c.end lo)) ≡ false
      → Each lo hi (λ k. (ltb (at c.start k) sp.start && ltb sp.end (at c.end k)) ≡ false)
  none-past e k l u = go (native.Mathlib.Decide.ℕ_discrete k lo)
    where
      go : Dec (k ≡ lo) → (ltb (at c.start k) sp.start && ltb sp.end (at c.end k)) ≡ false
      go (yes q) = ap (λ t. ltb (at c.start t) sp.start && ltb sp.end (at c.end t)) q ∙ e
      go (no d) = rw (w.over.hits k l u) at (no_middle c n sp lo first o inside-n k (omega (arith, d)) (omega (arith, w.over.high)))

  module _ (both : (ltb (at c.start lo) sp.start && ltb sp.end (at c.end lo)) ≡ true) where
    one-cut : middle_cuts sp.node sp.start sp.end (ranges c 0 n) ≡ 1
    one-cut = middles_first c n sp lo first o inside-n ∙ rw both

    pub room : n + middle_cuts sp.node sp.start sp.end (ranges c 0 n) ≤ 128 → n < 128
    room h = omega (arith, one-cut)

    behind : All (Miss sp.node sp.start sp.end) (ranges c (lo + 1) (n - (lo + 1)))
    behind = all-places (Miss sp.node sp.start sp.end) c (lo + 1) (n - (lo + 1)) (λ k l u. go k l (omega arith) (meets sp.node sp.start sp.end (range_at c k)) refl)
      where
        go : (k : ℕ) → lo + 1 ≤ k → k < n → (b : Bool) → meets sp.node sp.start sp.end (range_at c k) ≡ b → b ≡ false
        go k l u false e = refl
        go k l u true e =
            let x = met sp.node sp.start sp.end (range_at c lo) (w.over.hits lo (omega arith) some) in
            let y = met sp.node sp.start sp.end (range_at c k) e in
            let g : at c.end lo ≤ at c.start k = o.apart lo k (omega arith) u (x.node ∙ sym y.node) in
            absurd (omega (arith, ltb-true sp.end (at c.end lo) (and_true (ltb (at c.start lo) sp.start) (ltb sp.end (at c.end lo)) both).1))

    pub out-middle : (next : ℕ) (c' : Ranges) → c' ≡ lay_ranges 0 (n + 1) (at_place lo (both_ends sp.start sp.end next) (ranges c 0 n)) c → CutTo next 1 sp c c' n (n + 1)
    out-middle next c' e =
        let a = sp.start in
        let z = sp.end in
        let xs = ranges c 0 lo in
        let r = range_at c lo in
        let ys = ranges c (lo + 1) (n - (lo + 1)) in
        let t = and_true (ltb (at c.start lo) a) (ltb z (at c.end lo)) both in
        let list : cut_out sp.node a z next (ranges c 0 n) ≡ xs ++ both_ends a z next r ys =
        ap (cut_out sp.node a z next) (ranges_seam c lo n inside-n) ∙ out_skip sp.node a z next xs (r ∷ ys) (misses_before c n sp lo w.over.before)
        ∙ ap (λ t. xs ++ t)
        (cut-both sp.node a z next r ys (w.over.hits lo (omega arith) some) t.0 t.1
        ∙ ap (λ t. both_ends a z next r t) (cut_miss sp.node a z (suc next) ys behind)) in
        record {
          columns = e ∙ ap (λ t. lay_ranges 0 (n + 1) t c) (at_here c w.sized lo n inside-n (both_ends a z next) ∙ sym list);
          records = sym (ap length list ∙ omega (arith, inside-n, length-append xs (both_ends a z next r ys), ranges_length c 0 lo, ranges_length c (lo + 1) (n - (lo + 1))));
          few = omega arith;
          needs = sym one-cut;
        }

-- ---- the whole

remove-is : (hits : List Range) (x : Store) (next : ℕ) (sp : Span) → overlapped sp.node sp.start sp.end x.ranges ≡ hits → remove x next sp ≡ remove_hits hits x next sp
unfolding remove
remove-is hits x next sp e = ap (λ t. remove_hits t x next sp) e

module _ (c : Ranges) (n lo hi : ℕ) (sp : Span) (next : ℕ) (w : Cuttable c n lo hi sp) (x : Store) (same : x.ranges ≡ ranges c 0 n) where
  over-are : overlapped sp.node sp.start sp.end x.ranges ≡ ranges c lo (hi - lo)
  over-are = ap (overlapped sp.node sp.start sp.end) same ∙ hits-are c n sp lo hi w.over

  pub freed_none : lo ≡ hi → (ms ls : List ℕ) → x.marks ≡ ms → Freed (remove x next sp) c c ms ls ls n (record { n = n; need = 0; removed = 0; writes = 0 })
  freed_none e ms ls q =
      let z : n + 0 ≡ n = omega arith in
      subst (λ r. Freed r c c ms ls ls n (record { n = n; need = 0; removed = 0; writes = 0 })) (sym (remove-is [] x next sp (over-are ∙ ranges-none c lo hi (omega arith))))
      (record {
        columns = sym (back n c w.sized w.few) ∙ ap (λ t. lay_ranges 0 n t c) (sym same) ∙ ap (λ t. lay_ranges 0 t x.ranges c) (sym z);
        marks = sym q;
        list = refl;
        records = sym (ap length same ∙ ranges_length c 0 n);
        need = refl;
        writes = refl;
        blocks = refl;
      })

  pub freed_some : (lo ≡ hi → ⊥) → (c' : Ranges) (ms ms' ls ls' : List ℕ) (m need removed k : ℕ) → x.marks ≡ ms
      → removed ≡ gone_blocks sp.start sp.end (ranges c lo (hi - lo))
      → ls' ≡ front (writes (ranges c lo (hi - lo))) ls → k ≡ length (writes (ranges c lo (hi - lo)))
      → n + middle_cuts sp.node sp.start sp.end (ranges c 0 n) ≤ 128 → CutTo next need sp c c' n m → ms' ≡ unmark sp.node (ranges c' 0 m) ms
      → Freed (remove x next sp) c c' ms' ls ls' n (record { n = m; need = need; removed = removed; writes = k })
  freed_some d c' ms ms' ls ls' m need removed k q g l count room t u =
      let v = sp.node in
      let a = sp.start in
      let z = sp.end in
      let some : lo < hi = omega (arith, w.over.order, d) in
      let r = range_at c lo in
      let rest = ranges c (lo + 1) (hi - (lo + 1)) in
      let e : overlapped v a z x.ranges ≡ r ∷ rest = over-are ∙ ranges_cons c lo hi some in
      let out : cut_out v a z next (ranges c 0 n) ≡ cut_out v a z next x.ranges = ap (cut_out v a z next) (sym same) in
      let mids : middle_cuts v a z (ranges c 0 n) ≡ middle_cuts v a z x.ranges = ap (middle_cuts v a z) (sym same) in
      let read : ranges c' 0 m ≡ cut_out v a z next (ranges c 0 n) =
      ap (λ s. ranges s 0 m) t.columns ∙ laid-read c w.sized (n + need) m (cut_out v a z next (ranges c 0 n)) (sym t.records) t.few (omega (arith, t.needs)) in
      let lists : writes (ranges c lo (hi - lo)) ≡ writes (r ∷ rest) = ap writes (ranges_cons c lo hi some) in
      subst (λ s. Freed s c c' ms' ls ls' n (record { n = m; need = need; removed = removed; writes = k })) (sym (remove-is (r ∷ rest) x next sp e))
      (record {
        columns = t.columns ∙ ap (λ s. lay_ranges 0 (n + need) s c) out ∙ ap (λ s. lay_ranges 0 (n + s) (cut_out v a z next x.ranges) c) (t.needs ∙ mids);
        marks = u ∙ ap (λ s. unmark v s ms) (read ∙ out) ∙ ap (unmark v (cut_out v a z next x.ranges)) (sym q);
        list = l ∙ ap (λ s. front s ls) lists;
        records = t.records ∙ ap length out;
        need = t.needs ∙ mids;
        writes = count ∙ ap length lists;
        blocks = g ∙ ap (gone_blocks a z) (ranges_cons c lo hi some);
      })

pub cut_sized : (c c' : Ranges) (n m next need : ℕ) (sp : Span) → Sized 128 c → n + middle_cuts sp.node sp.start sp.end (ranges c 0 n) ≤ 128
    → CutTo next need sp c c' n m → Sized 128 c' × (m ≤ 128)
cut_sized c c' n m next need sp s room t =
    let few : n + need ≤ 128 = omega (arith, t.needs) in
    (rw t.columns (sized-laid c s (n + need) (cut_out sp.node sp.start sp.end next (ranges c 0 n)) (omega (arith, t.records, t.few)) few), omega (arith, t.few))
