-- What the loops and the stores come to, over variables: the sum of bytes so far and to come, the needs by the places, and the list of the records
-- after a store to the columns at one place.
use mathlib.Core.Path.{◌≡◌, refl, sym, ap, ◌∙◌}
use mathlib.Core.Bool.{Bool, true, false, ◌&&◌, true≢false}
use mathlib.Core.List.{List, [], ◌∷◌, ◌++◌}
use Prim.Native.Nat.{ℕ, ◌+◌, ◌-◌, ◌*◌, ◌≤◌, ◌<◌, min, max}
use native.Mathlib.Nat.{zero-add}
use native.Mathlib.Omega.{arith}
use lib.ListN.{length, set, length-append}
use lib.Dec.{ltb, eqb}
use lib.Ieee.{Float, nan}
use borrow.Author.Tests.{le-ltb, lt-ltb, leb-true}
use Rattle.model.specs.declared.Span.{Span}
use Rattle.model.specs.Sizes.{max_bytes, max_stamp}
use Rattle.model.specs.Words.{Each}
use Rattle.model.specs.State.{Tree, Ranges, Range, at, range_at, book_from}
use Rattle.model.specs.SetUp.{policy}
use Rattle.model.specs.Store.{Store, ranges, lay_ranges, meets, plus, part}
use Rattle.model.specs.Trim.{bytes_of}
use Rattle.model.specs.Touch.{overlapped, held_bytes, new_pieces, one_inside, renewed, mark_read, bytes_read, refresh, renew, split, touch_hits, touch}
use Rattle.model.specs.Remove.{middle_cuts, remove}
use Rattle.shape_state.specs.Lent.{ranges_of}
use Rattle.theory_lay.proofs.Rows.{ranges_length}
use Rattle.theory_touch.proofs.Bools.{and_true}
use Rattle.theory_touch.proofs.Recut.{met}
use Rattle.pool_range.specs.declared.RangesMut.{RangesMut}
use Rattle.pool_range.specs.Lent.{SameColumns}
use Rattle.pool_range.specs.Part.{Sized, put_range, cut_range}
use Rattle.pool_range.proofs.Records.{put-laid, cut-laid}
use Rattle.rule_resolve.specs.Span.{Priced, only_depth}
use Rattle.rule_overlap.specs.Overlap.{Ordered, First, Overlap, at_place, halves, TouchNeeds, RemoveNeeds, TouchFits, RemoveFits}
use Rattle.rule_overlap.proofs.Laid.{back, edited, end-laid, start-laid, stamp-laid}
use Rattle.rule_overlap.proofs.Lists.{at_seam, insert_seam, remove_seam}
use Rattle.rule_overlap.proofs.Places.{ranges_seam, ranges_cons, ranges-none, and_no, hits-are, first-hit, new-hits, new-ends, middles_first}

-- ---- columns that stay the same slices

pub same_start : {a : RangesMut} → SameColumns a a
same_start = record { node = refl; start = refl; end = refl; id = refl; stamp = refl; touched = refl; write = refl }

pub same_then : {a b c : RangesMut} → SameColumns a b → SameColumns b c → SameColumns a c
same_then p q =
    record {
      node = q.node ∙ p.node;
      start = q.start ∙ p.start;
      end = q.end ∙ p.end;
      id = q.id ∙ p.id;
      stamp = q.stamp ∙ p.stamp;
      touched = q.touched ∙ p.touched;
      write = q.write ∙ p.write;
    }

-- ---- bytes

-- the sum so far, and what is still to come
pub record Summing (c : Ranges) (depth bytes : List ℕ) (sp : Span) (lo hi sum i : ℕ) : Type 0 where
  pub small : sum ≤ max_bytes * i
  pub todo :
      sum + held_bytes (only_depth depth) bytes sp.node sp.start sp.end (ranges c i (hi - i))
      ≡ held_bytes (only_depth depth) bytes sp.node sp.start sp.end (ranges c lo (hi - lo))

pub sum-start : (c : Ranges) (depth bytes : List ℕ) (sp : Span) (lo hi : ℕ) → Summing c depth bytes sp lo hi 0 lo
sum-start c depth bytes sp lo hi = record { small = omega arith; todo = zero-add _ }

held_cons : (t : Tree) (table : List ℕ) (v a z : ℕ) (r : Range) (rs : List Range)
    → held_bytes t table v a z (r ∷ rs) ≡ bytes_of t table v (max a r.start) (min z r.end) + held_bytes t table v a z rs
unfolding held_bytes
held_cons t table v a z r rs = refl

held_nil : (t : Tree) (table : List ℕ) (v a z : ℕ) → held_bytes t table v a z [] ≡ 0
unfolding held_bytes
held_nil t table v a z = refl

pub bytes_small : (depth bytes : List ℕ) (sp : Span) (a z : ℕ) → Priced depth bytes sp → z ≤ sp.end
    → bytes_of (only_depth depth) bytes sp.node a z ≤ max_bytes
bytes_small depth bytes sp a z p h = let k = p.rising.small (at depth sp.node + z) (omega arith) (omega (arith, p.ends)) in omega arith

pub sum-turn : (c : Ranges) (depth bytes : List ℕ) (sp : Span) (lo hi sum i b : ℕ) → Summing c depth bytes sp lo hi sum i → i < hi
    → b ≡ bytes_of (only_depth depth) bytes sp.node (max sp.start (at c.start i)) (min sp.end (at c.end i)) → b ≤ max_bytes
    → Summing c depth bytes sp lo hi (sum + b) (i + 1)
sum-turn c depth bytes sp lo hi sum i b s h e l =
    let k = ap (held_bytes (only_depth depth) bytes sp.node sp.start sp.end) (ranges_cons c i hi h)
    ∙ held_cons (only_depth depth) bytes sp.node sp.start sp.end (range_at c i) (ranges c (i + 1) (hi - (i + 1))) in
    record { small = omega (arith, s.small); todo = omega (arith, k, e, s.todo) }

pub sum-end : (c : Ranges) (depth bytes : List ℕ) (sp : Span) (lo hi sum i : ℕ) → Summing c depth bytes sp lo hi sum i → hi ≤ i
    → sum ≡ held_bytes (only_depth depth) bytes sp.node sp.start sp.end (ranges c lo (hi - lo))
sum-end c depth bytes sp lo hi sum i s h =
    omega (arith, s.todo, ap (held_bytes (only_depth depth) bytes sp.node sp.start sp.end) (ranges-none c i hi h) ∙ held_nil (only_depth depth) bytes sp.node sp.start sp.end)

-- ---- needs

-- one range wholly inside has no pieces
pub one-new : (v a z : ℕ) (hits : List Range) → one_inside a z hits ≡ true → new_pieces v a z hits ≡ 0
unfolding new_pieces
one-new v a z [] e = refl
one-new v a z (r ∷ []) e =
    let y = and_true _ _ e in
    rw (le-ltb r.start a (leb-true _ _ y.0), le-ltb z r.end (leb-true _ _ y.1), and_no (meets v a z r))
one-new v a z (r ∷ q ∷ qs) e = let z : ◌≡◌ {A = ℕ} 0 1 = cc in absurd (omega arith)

module _ (t : Tree) (table : List ℕ) (x : Store) (next : ℕ) (sp : Span) (time : Float) (counted : Bool) where
  abbrev over : List Range
  over = overlapped sp.node sp.start sp.end x.ranges

  -- no overlap, or `Fifo`: nothing is needed
  pub touch-none : over ≡ [] → (0 ≡ (touch t table x next sp time counted).need) × (0 ≡ (touch t table x next sp time counted).stamps)
  unfolding touch
  touch-none e = rw e (refl, refl)

  pub touch-off : eqb x.book.policy 1 ≡ false → (0 ≡ (touch t table x next sp time counted).need) × (0 ≡ (touch t table x next sp time counted).stamps)
  unfolding touch
  touch-off e = go over
    where
      go : (hits : List Range) → (0 ≡ (touch_hits hits t table x next sp time counted).need) × (0 ≡ (touch_hits hits t table x next sp time counted).stamps)
      go [] = (refl, refl)
      go (r ∷ hits) = rw e (refl, refl)

  pub touch-on : eqb x.book.policy 1 ≡ true → (r : Range) (hits : List Range) → over ≡ r ∷ hits
      → (new_pieces sp.node sp.start sp.end x.ranges ≡ (touch t table x next sp time counted).need) × (1 ≡ (touch t table x next sp time counted).stamps)
  unfolding touch renew split
  touch-on e r hits h = rw h (go (eqb x.book.policy 1) (one_inside sp.start sp.end (r ∷ hits)) e refl)
    where
      go : (on b : Bool) → on ≡ true → one_inside sp.start sp.end (r ∷ hits) ≡ b
          → (new_pieces sp.node sp.start sp.end x.ranges ≡ (refresh on b x next sp time (mark_read counted sp x.marks) (bytes_read counted t table sp (r ∷ hits))).need)
          × (1 ≡ (refresh on b x next sp time (mark_read counted sp x.marks) (bytes_read counted t table sp (r ∷ hits))).stamps)
      go false b e p = absurd (true≢false (sym e))
      go true true e p = (new-hits sp.node sp.start sp.end x.ranges ∙ ap (new_pieces sp.node sp.start sp.end) h ∙ one-new sp.node sp.start sp.end (r ∷ hits) p, refl)
      go true false e p = (refl, refl)

module _ (x : Store) (next : ℕ) (sp : Span) where
  pub remove-none : overlapped sp.node sp.start sp.end x.ranges ≡ [] → 0 ≡ (remove x next sp).need
  unfolding remove
  remove-none e = rw e

  pub remove-some : (r : Range) (hits : List Range) → overlapped sp.node sp.start sp.end x.ranges ≡ r ∷ hits
      → middle_cuts sp.node sp.start sp.end x.ranges ≡ (remove x next sp).need
  unfolding remove
  remove-some r hits e = rw e

-- ---- a record in two

module _ (c : Ranges) (s : Sized 128 c) (i n : ℕ) (h : i < n) where
  -- the columns, with the list at place i
  pub seamed : n ≤ 128 → lay_ranges 0 n (ranges c 0 i ++ (range_at c i ∷ ranges c (i + 1) (n - (i + 1)))) c ≡ c
  seamed g = ap (λ t. lay_ranges 0 n t c) (sym (ranges_seam c i n h)) ∙ back n c s g

  seam_long : (r : Range) → length (ranges c 0 i ++ (r ∷ ranges c (i + 1) (n - (i + 1)))) ≡ n
  seam_long r =
      omega (arith, length-append (ranges c 0 i) (r ∷ ranges c (i + 1) (n - (i + 1))), ranges_length c 0 i, ranges_length c (i + 1) (n - (i + 1)))

  -- a list changed at place i
  pub at_here : (f : Range → List Range → List Range) → at_place i f (ranges c 0 n) ≡ ranges c 0 i ++ f (range_at c i) (ranges c (i + 1) (n - (i + 1)))
  at_here f = ap (at_place i f) (ranges_seam c i n h) ∙ at_seam f i (ranges c 0 i) (range_at c i) (ranges c (i + 1) (n - (i + 1))) (ranges_length c 0 i)

  pub same_here : (k : ℕ) (f g : Range → List Range → List Range)
      → f (range_at c i) (ranges c (i + 1) (n - (i + 1))) ≡ g (range_at c i) (ranges c (i + 1) (n - (i + 1)))
      → lay_ranges 0 k (at_place i f (ranges c 0 n)) c ≡ lay_ranges 0 k (at_place i g (ranges c 0 n)) c
  same_here k f g e = ap (λ t. lay_ranges 0 k t c) (at_here f ∙ ap (λ t. ranges c 0 i ++ t) e ∙ sym (at_here g))

  -- another end at place i, another start, another stamp and time; the record there taken out
  module _ (g : n ≤ 128) where
    pub end-here : (v : ℕ) → edited c c.start (set c.end i v) c.stamp c.touched
        ≡ lay_ranges 0 n (at_place i (λ r rs. part r r.node r.start v r.id ∷ rs) (ranges c 0 n)) c
    end-here v =
        ap (λ d. edited d d.start (set d.end i v) d.stamp d.touched) (sym (seamed g))
        ∙ end-laid n c i (ranges c 0 i) (range_at c i) (ranges c (i + 1) (n - (i + 1))) (ranges_length c 0 i) v
        ∙ ap (λ t. lay_ranges 0 n t c) (sym (at_here (λ r rs. part r r.node r.start v r.id ∷ rs)))

    pub start-here : (v : ℕ) → edited c (set c.start i v) c.end c.stamp c.touched
        ≡ lay_ranges 0 n (at_place i (λ r rs. part r r.node v r.end r.id ∷ rs) (ranges c 0 n)) c
    start-here v =
        ap (λ d. edited d (set d.start i v) d.end d.stamp d.touched) (sym (seamed g))
        ∙ start-laid n c i (ranges c 0 i) (range_at c i) (ranges c (i + 1) (n - (i + 1))) (ranges_length c 0 i) v
        ∙ ap (λ t. lay_ranges 0 n t c) (sym (at_here (λ r rs. part r r.node v r.end r.id ∷ rs)))

    pub stamp-here : (v : ℕ) (time : Float) → edited c c.start c.end (set c.stamp i v) (set c.touched i time)
        ≡ lay_ranges 0 n (at_place i (λ r rs. renewed r r.start r.end r.id v time ∷ rs) (ranges c 0 n)) c
    stamp-here v time =
        ap (λ d. edited d d.start d.end (set d.stamp i v) (set d.touched i time)) (sym (seamed g))
        ∙ stamp-laid n c i (ranges c 0 i) (range_at c i) (ranges c (i + 1) (n - (i + 1))) (ranges_length c 0 i) v time
        ∙ ap (λ t. lay_ranges 0 n t c) (sym (at_here (λ r rs. renewed r r.start r.end r.id v time ∷ rs)))

    pub cut-here : cut_range i n c ≡ lay_ranges 0 n (at_place i (λ r rs. rs) (ranges c 0 n)) c
    cut-here =
        let xs = ranges c 0 i in
        let r = range_at c i in
        let ys = ranges c (i + 1) (n - (i + 1)) in
        ap (cut_range i n) (sym (seamed g))
        ∙ cut-laid i n n (xs ++ (r ∷ ys)) c (seam_long r) (omega arith) h
        ∙ ap (λ t. lay_ranges 0 n t c) (remove_seam xs r ys i (ranges_length c 0 i) ∙ sym (at_here (λ r rs. rs)))

  pub split-is : n < 128 → (m new : ℕ) (c' : Ranges) (was : Range) → was ≡ range_at c i
      → c' ≡ put_range (i + 1) (part was was.node m was.end new) n (edited c c.start (set c.end i m) c.stamp c.touched)
      → c' ≡ lay_ranges 0 (n + 1) (at_place i (halves m new) (ranges c 0 n)) c
  split-is g m new c' was w e =
      let xs = ranges c 0 i in
      let r = range_at c i in
      let ys = ranges c (i + 1) (n - (i + 1)) in
      let p = part r r.node r.start m r.id in
      let q = part r r.node m r.end new in
      let k = ranges_length c 0 i in
      e
      ∙ ap (λ (o : Range). put_range (i + 1) (part o o.node m o.end new) n (edited c c.start (set c.end i m) c.stamp c.touched)) w
      ∙ ap (put_range (i + 1) q n) (end-here (omega arith) m ∙ ap (λ t. lay_ranges 0 n t c) (at_here (λ r rs. part r r.node r.start m r.id ∷ rs)))
      ∙ put-laid (i + 1) n q (xs ++ (p ∷ ys)) c (seam_long p) (omega arith)
      ∙ ap (λ t. lay_ranges 0 (n + 1) t c) (insert_seam xs p q ys i k ∙ sym (at_here (halves m new)))

-- ---- the needs, from the places

pub plus-sum : (h g : Bool) → plus h 0 + plus g 0 ≡ plus g (plus h 0)
plus-sum true true = refl
plus-sum true false = refl
plus-sum false true = refl
plus-sum false false = refl

module _ (node start end : List ℕ) (n : ℕ) (sp : Span) where
  pub need-none : (refreshes : Bool) (lo hi : ℕ) → Overlap node start end n sp lo hi → lo ≡ hi → TouchNeeds node start end n sp refreshes (record { records = 0; stamps = 0 })
  need-none refreshes lo hi w e id stamp write touched t table x next time counted p q =
      let c = ranges_of node start end id stamp touched write in
      touch-none t table x next sp time counted
      (ap (overlapped sp.node sp.start sp.end) p ∙ hits-are c n sp lo hi w ∙ ranges-none c lo hi (omega arith))

  pub need-off : (refreshes : Bool) → refreshes ≡ false → TouchNeeds node start end n sp refreshes (record { records = 0; stamps = 0 })
  need-off refreshes e id stamp write touched t table x next time counted p q = touch-off t table x next sp time counted (q ∙ e)

  pub need-on : (refreshes : Bool) (lo hi h g : ℕ) → Ordered node start end n → Overlap node start end n sp lo hi → (lo ≡ hi → ⊥) → refreshes ≡ true
      → h ≡ plus (ltb (at start lo) sp.start) 0 → g ≡ plus (ltb sp.end (at end (hi - 1))) 0
      → TouchNeeds node start end n sp refreshes (record { records = h + g; stamps = 1 })
  need-on refreshes lo hi h g o w d e k m id stamp write touched t table x next time counted p q =
      let c = ranges_of node start end id stamp touched write in
      let some : lo < hi = omega (arith, w.order, d) in
      let y = touch-on t table x next sp time counted (q ∙ e) (range_at c lo) (ranges c (lo + 1) (hi - (lo + 1)))
      (ap (overlapped sp.node sp.start sp.end) p ∙ hits-are c n sp lo hi w ∙ ranges_cons c lo hi some) in (
        rw (k, m) (plus-sum (ltb (at start lo) sp.start) (ltb sp.end (at end (hi - 1))))
            ∙ sym (ap (new_pieces sp.node sp.start sp.end) p ∙ new-ends c n sp lo hi w o some) ∙ y.0,
        y.1,
      )

  cut-none : (lo : ℕ) → First node start end n sp lo → lo ≡ n → RemoveNeeds node start end n sp 0
  cut-none lo f e id stamp write touched x next p =
      remove-none x next sp
      (ap (overlapped sp.node sp.start sp.end) p
      ∙ hits-are (ranges_of node start end id stamp touched write) n sp lo n
      (record { order = omega arith; high = omega arith; before = f.before; hits = λ k l u. absurd (omega arith); after = λ k l u. absurd (omega arith) })
      ∙ ranges-none (ranges_of node start end id stamp touched write) lo n (omega arith))

  cut-some : (lo r : ℕ) → Ordered node start end n → First node start end n sp lo → lo < n
      → r ≡ plus (ltb (at start lo) sp.start && ltb sp.end (at end lo)) 0 → RemoveNeeds node start end n sp r
  cut-some lo r o f some e id stamp write touched x next p =
      let c = ranges_of node start end id stamp touched write in
      e ∙ sym (ap (middle_cuts sp.node sp.start sp.end) p ∙ middles_first c n sp lo f o some)
      ∙ remove-some x next sp _ _ (ap (overlapped sp.node sp.start sp.end) p ∙ first-hit c n sp lo f some)

  -- the first overlapped record, if there is one, has both a head and a tail
  pub cut-both : (lo r : ℕ) (b : Bool) → Ordered node start end n → First node start end n sp lo
      → b ≡ (ltb lo n && ltb (at start lo) sp.start && ltb sp.end (at end lo)) → r ≡ plus b 0 → RemoveNeeds node start end n sp r
  cut-both lo r b o f d e = go (native.Mathlib.Decide.ℕ_discrete lo n)
    where
      go : Dec (lo ≡ n) → RemoveNeeds node start end n sp r
      go (yes q) =
          let none : b ≡ false = rw (le-ltb lo n (omega arith)) at d in
          rw (e ∙ ap (λ t. plus t 0) none) (cut-none lo f q)
      go (no q) =
          let some : lo < n = omega (arith, f.within, q) in
          cut-some lo r o f some (e ∙ ap (λ t. plus t 0) (rw (lt-ltb lo n some) at d))

-- `a && b`, by the test u of a and what comes of it
pub and-then : {a b u v : Bool} → u ≡ a → u ≡ true → v ≡ b → v ≡ (a && b)
and-then s e f = rw (← s, e) f

pub and-else : {a u v : Bool} (b : Bool) → u ≡ a → u ≡ false → v ≡ u → v ≡ (a && b)
and-else b s e f = rw (← s, e) (f ∙ e)

-- a test as a number
pub byte-plus : (b : Bool) → mir.Val.bool_byte b ≡ plus b 0
byte-plus true = refl
byte-plus false = refl

pub min_most : (a b : ℕ) → min a b ≤ a
min_most a b = omega arith

-- ---- each overlapped record has blocks of the span

pub shares : (c : Ranges) (n lo hi : ℕ) (sp : Span) → sp.start < sp.end → Overlap c.node c.start c.end n sp lo hi → Ordered c.node c.start c.end n
    → Each lo hi (λ i. max sp.start (at c.start i) < min sp.end (at c.end i))
shares c n lo hi sp az w o i l u =
    let m = met sp.node sp.start sp.end (range_at c i) (w.hits i l u) in
    let f = o.filled i (omega arith) (omega (arith, w.high)) in
    omega (arith, m.left, m.right)

-- ---- what fits by the needs fits by the pieces

-- a store of which only the ranges and the policy are looked at
abbrev bare : Bool → List Range → Store
bare refreshes rs = record { book = book_from (0 ∷ policy refreshes ∷ []); ranges = rs; pins = []; marks = [] }

policy-back : (b : Bool) → eqb (policy b) 1 ≡ b
policy-back true = refl
policy-back false = refl

module _ (c : Ranges) (n lo hi : ℕ) (sp : Span) (w : Overlap c.node c.start c.end n sp lo hi) (d : lo ≡ hi → ⊥) where
  over_cons : overlapped sp.node sp.start sp.end (ranges c 0 n) ≡ range_at c lo ∷ ranges c (lo + 1) (hi - (lo + 1))
  over_cons = hits-are c n sp lo hi w ∙ ranges_cons c lo hi (omega (arith, w.order, d))

  pub touch-fits : (refreshes : Bool) (top next : ℕ) → TouchFits c.node c.start c.end n sp refreshes top next → refreshes ≡ true
      → (top < max_stamp) × (next + new_pieces sp.node sp.start sp.end (ranges c 0 n) ≤ max_stamp)
      × (n + new_pieces sp.node sp.start sp.end (ranges c 0 n) ≤ 128)
  touch-fits refreshes top next f e =
      let x = bare refreshes (ranges c 0 n) in
      let t = only_depth [] in
      let a = f.are c.id c.stamp c.write c.touched t [] x 0 nan false refl (policy-back refreshes) in
      let b = touch-on t [] x 0 sp nan false (policy-back refreshes ∙ e) (range_at c lo) (ranges c (lo + 1) (hi - (lo + 1))) over_cons in
      (omega (arith, f.stamps, a.1, b.1), omega (arith, f.ids, a.0, b.0), omega (arith, f.records, a.0, b.0))

  pub remove-fits : RemoveFits c.node c.start c.end n sp → n + middle_cuts sp.node sp.start sp.end (ranges c 0 n) ≤ 128
  remove-fits f =
      let x = bare false (ranges c 0 n) in
      omega (arith, f.records, f.are c.id c.stamp c.write c.touched x 0 refl, remove-some x 0 sp (range_at c lo) (ranges c (lo + 1) (hi - (lo + 1))) over_cons)
