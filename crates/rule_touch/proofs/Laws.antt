-- What the loops and the stores of a touch come to, over variables: a range is cut by at most two splits, the pieces that stand so far and the records to
-- come are the definition's list, and joining goes on from what is joined so far.
use mathlib.Core.Path.{◌≡◌, refl, sym, ap, subst, ◌∙◌}
use mathlib.Core.Bool.{Bool, true, false, not, ◌&&◌, true≢false, false≢true}
use mathlib.Core.List.{List, [], ◌∷◌, ◌++◌, append_assoc, append-nil}
use Prim.Native.Nat.{ℕ, zero, suc, ◌+◌, ◌-◌, ◌≤◌, ◌<◌, min, max}
use native.Mathlib.Nat.{zero-add, add-zero}
use native.Mathlib.Numerals.{add-one}
use native.Mathlib.Omega.{arith}
use lib.ListN.{length, set, length-append}
use lib.Dec.{ltb, leb, eqb}
use lib.Ieee.{Float}
use borrow.Author.Tests.{ltb-true, ltb-false, le-leb, lt-leb}
use Rattle.model.specs.declared.Span.{Span}
use Rattle.model.specs.State.{Tree, Ranges, Range, at, range_at}
use Rattle.model.specs.Store.{Store, ranges, lay_ranges, meets, part, put, plus}
use Rattle.model.specs.Trim.{bytes_of}
use Rattle.model.specs.Touch.{overlapped, held_bytes, one_inside, renewed, restamp, middle, has_head, has_tail, pieces, recut, new_pieces, joins, join_from, join, mark_read, bytes_read, split, renew, refresh, touch_hits, touch}
use Rattle.theory_sound.specs.Facts.{All}
use Rattle.theory_touch.proofs.Recut.{Met, met}
use Rattle.theory_lay.proofs.Rows.{ranges_length}
use Rattle.pool_range.specs.Part.{Sized, cut_range}
use Rattle.rule_resolve.specs.Span.{only_depth}
use Rattle.rule_overlap.specs.Overlap.{Cuttable, at_place, halves}
use Rattle.rule_overlap.proofs.Laid.{back, sized-laid, laid-at, laid-read, then_wide, then_narrow, edited}
use Rattle.rule_overlap.proofs.Lists.{Miss, restamp_skip, recut_skip, new_skip, at_seam}
use Rattle.rule_overlap.proofs.Places.{ranges_cut0, ranges_cons, ranges-none, ranges_seam, misses_before, misses_after, hits-are, new-hits}
use Rattle.rule_overlap.proofs.Laws.{at_here, end-here, stamp-here, cut-here, one-new, plus-sum}
use Rattle.rule_touch.specs.Touch.{halves_if, merged, touched_ranges, Refreshed, Touching}

-- ---- one range inside

module _ (c : Ranges) (sp : Span) (lo hi : ℕ) (h : lo < hi) where
  two_outside : (r q : Range) (rs : List Range) → one_inside sp.start sp.end (r ∷ q ∷ rs) ≡ false
  two_outside r q rs = refl

  pub inside-many : (hi - lo ≡ 1 → ⊥) → false ≡ one_inside sp.start sp.end (ranges c lo (hi - lo))
  inside-many n =
      let l : lo + 1 < hi = omega (arith, n) in
      sym (ap (one_inside sp.start sp.end) (ranges_cons c lo hi h ∙ ap (λ t. range_at c lo ∷ t) (ranges_cons c (lo + 1) hi l))
      ∙ two_outside (range_at c lo) (range_at c (lo + 1)) (ranges c (lo + 1 + 1) (hi - (lo + 1 + 1))))

  module _ (one : hi - lo ≡ 1) where
    alone : ranges c lo (hi - lo) ≡ range_at c lo ∷ []
    alone = ranges_cons c lo hi h ∙ ap (λ t. range_at c lo ∷ t) (ranges-none c (lo + 1) hi (omega arith))

    pub inside-head : at c.start lo < sp.start → false ≡ one_inside sp.start sp.end (ranges c lo (hi - lo))
    inside-head l = sym (ap (one_inside sp.start sp.end) alone ∙ rw (lt-leb sp.start (at c.start lo) l))

    pub inside_one : sp.start ≤ at c.start lo → leb (at c.end lo) sp.end ≡ one_inside sp.start sp.end (ranges c lo (hi - lo))
    inside_one l = sym (ap (one_inside sp.start sp.end) alone ∙ rw (le-leb sp.start (at c.start lo) l))

-- ---- a split, or none

module _ (c : Ranges) (s : Sized 128 c) (i n : ℕ) (h : i < n) (on : Bool) (m new : ℕ) where
  pub split_off : on ≡ false → n ≤ 128 → (c ≡ lay_ranges 0 (n + 0) (at_place i (halves_if on m new) (ranges c 0 n)) c) × (0 ≡ plus on 0)
  split_off e g = go on e
    where
      as_was : lay_ranges 0 (n + 0) (at_place i (λ r rs. r ∷ rs) (ranges c 0 n)) c ≡ c
      as_was =
          ap (λ t. lay_ranges 0 t (at_place i (λ r rs. r ∷ rs) (ranges c 0 n)) c) (add-zero n)
          ∙ ap (λ t. lay_ranges 0 n t c) (at_here c s i n h (λ r rs. r ∷ rs) ∙ sym (ranges_seam c i n h)) ∙ back n c s g

      go : (b : Bool) → b ≡ false → (c ≡ lay_ranges 0 (n + 0) (at_place i (halves_if b m new) (ranges c 0 n)) c) × (0 ≡ plus b 0)
      go false e = (sym as_was, refl)
      go true e = absurd (true≢false e)

-- ---- head, middle and tail of one range

-- the pieces of an overlapped range
met_pieces : (v a z stamp : ℕ) (time : Float) (next : ℕ) (r : Range) (rs : List Range) → meets v a z r ≡ true
    → pieces v a z stamp time next r rs
    ≡ put (ltb r.start a) (part r r.node r.start a r.id)
    (middle true r a z (elim (ltb r.start a) [ true ↦ next | false ↦ r.id ]) stamp time
    ∷ put (ltb z r.end) (part r r.node z r.end (plus (ltb r.start a) next)) rs)
met_pieces v a z stamp time next r rs e = go (meets v a z r) e
  where
    go : (m : Bool) → m ≡ true
        → put (m && ltb r.start a) (part r r.node r.start a r.id)
        (middle m r a z (elim (m && ltb r.start a) [ true ↦ next | false ↦ r.id ]) stamp time
        ∷ put (m && ltb z r.end) (part r r.node z r.end (plus (m && ltb r.start a) next)) rs)
        ≡ put (ltb r.start a) (part r r.node r.start a r.id)
        (middle true r a z (elim (ltb r.start a) [ true ↦ next | false ↦ r.id ]) stamp time
        ∷ put (ltb z r.end) (part r r.node z r.end (plus (ltb r.start a) next)) rs)
    go true e = refl
    go false e = absurd (false≢true e)

-- two splits and a stamp, where the first leaves `front` before the range at hand
three_steps : (i k : ℕ) (xs : List Range) (r : Range) (ys : List Range) (f g h : Range → List Range → List Range) (front : List Range) (r₁ r₂ : Range) (back₂ : List Range)
    → length xs ≡ i → length front ≡ k → f r ys ≡ front ++ (r₁ ∷ ys) → g r₁ ys ≡ r₂ ∷ back₂
    → at_place (i + k) h (at_place (i + k) g (at_place i f (xs ++ (r ∷ ys)))) ≡ xs ++ (front ++ h r₂ back₂)
three_steps i k xs r ys f g h front r₁ r₂ back₂ e l p q =
    let m : length (xs ++ front) ≡ i + k = length-append xs front ∙ omega arith in
    ap (λ t. at_place (i + k) h (at_place (i + k) g t)) (at_seam f i xs r ys e ∙ ap (λ t. xs ++ t) p ∙ sym (append_assoc xs front (r₁ ∷ ys)))
    ∙ ap (at_place (i + k) h) (at_seam g (i + k) (xs ++ front) r₁ ys m ∙ ap (λ t. (xs ++ front) ++ t) q)
    ∙ at_seam h (i + k) (xs ++ front) r₂ back₂ m
    ∙ append_assoc xs front (h r₂ back₂)

abbrev stamped : ℕ → Float → Range → List Range → List Range
stamped stamp time r rs = renewed r r.start r.end r.id stamp time ∷ rs

module _ (v a z stamp : ℕ) (time : Float) (next : ℕ) (xs : List Range) (r : Range) (ys : List Range) (i : ℕ) (e : length xs ≡ i) (az : a < z) (hit : meets v a z r ≡ true) where
  cut_list : (k : ℕ) → k ≡ plus (ltb r.start a) 0
      → at_place (i + k) (stamped stamp time) (at_place (i + k) (halves_if (ltb z r.end) z (next + k)) (at_place i (halves_if (ltb r.start a) a next) (xs ++ (r ∷ ys))))
      ≡ xs ++ pieces v a z stamp time next r ys
  cut_list k p = go (ltb r.start a) (ltb z r.end) refl refl k p ∙ ap (λ t. xs ++ t) (sym (met_pieces v a z stamp time next r ys hit))
    where
      m : Met v a z r
      m = met v a z r hit

      go : (h g : Bool) → ltb r.start a ≡ h → ltb z r.end ≡ g → (k : ℕ) → k ≡ plus h 0
          → at_place (i + k) (stamped stamp time) (at_place (i + k) (halves_if g z (next + k)) (at_place i (halves_if h a next) (xs ++ (r ∷ ys))))
          ≡ xs ++ put h (part r r.node r.start a r.id)
          (middle true r a z (elim h [ true ↦ next | false ↦ r.id ]) stamp time ∷ put g (part r r.node z r.end (plus h next)) ys)
      go true true u w k p =
          let l = ltb-true r.start a u in
          let n = ltb-true z r.end w in
          let x : max a r.start ≡ a = omega (arith, m.left) in
          let y : min z r.end ≡ z = omega (arith, m.right) in
          let t : next + k ≡ suc next = omega arith in
          three_steps i k xs r ys (halves a next) (halves z (next + k)) (stamped stamp time) (part r r.node r.start a r.id ∷ [])
          (part r r.node a r.end next) (part r r.node a z next) (part r r.node z r.end (next + k) ∷ ys) e (omega arith) refl refl
          ∙ rw (x, y, t)
      go true false u w k p =
          let l = ltb-true r.start a u in
          let n = ltb-false z r.end w in
          let x : max a r.start ≡ a = omega (arith, m.left) in
          let y : min z r.end ≡ r.end = omega (arith, m.right) in
          three_steps i k xs r ys (halves a next) (λ r rs. r ∷ rs) (stamped stamp time) (part r r.node r.start a r.id ∷ [])
          (part r r.node a r.end next) (part r r.node a r.end next) ys e (omega arith) refl refl
          ∙ rw (x, y)
      go false true u w k p =
          let l = ltb-false r.start a u in
          let n = ltb-true z r.end w in
          let x : max a r.start ≡ r.start = omega (arith, m.left) in
          let y : min z r.end ≡ z = omega (arith, m.right) in
          let t : next + k ≡ next = omega arith in
          three_steps i k xs r ys (λ r rs. r ∷ rs) (halves z (next + k)) (stamped stamp time) [] r
          (part r r.node r.start z r.id) (part r r.node z r.end (next + k) ∷ ys) e (omega arith) refl refl
          ∙ rw (x, y, t)
      go false false u w k p =
          let l = ltb-false r.start a u in
          let n = ltb-false z r.end w in
          let x : max a r.start ≡ r.start = omega (arith, m.left) in
          let y : min z r.end ≡ r.end = omega (arith, m.right) in
          three_steps i k xs r ys (λ r rs. r ∷ rs) (λ r rs. r ∷ rs) (stamped stamp time) [] r r ys e (omega arith) refl refl
          ∙ rw (x, y)

-- how long the lists are
half-long : (b : Bool) (m new : ℕ) (r : Range) (rs : List Range) → length (halves_if b m new r rs) ≡ plus b 0 + suc (length rs)
half-long true m new r rs = omega arith
half-long false m new r rs = omega arith

at_long : (c : Ranges) (s : Sized 128 c) (i n : ℕ) → i < n → (b : Bool) (m new : ℕ) → length (at_place i (halves_if b m new) (ranges c 0 n)) ≡ n + plus b 0
at_long c s i n h b m new =
    ap length (at_here c s i n h (halves_if b m new))
    ∙ omega (
      arith,
      length-append (ranges c 0 i) (halves_if b m new (range_at c i) (ranges c (i + 1) (n - (i + 1)))),
      ranges_length c 0 i,
      half-long b m new (range_at c i) (ranges c (i + 1) (n - (i + 1))),
      ranges_length c (i + 1) (n - (i + 1)),
    )

module _ (c : Ranges) (s : Sized 128 c) (i n : ℕ) (h : i < n) (v a z stamp : ℕ) (time : Float) (next : ℕ) (az : a < z) (hit : meets v a z (range_at c i) ≡ true)
    (room : n + plus (ltb z (at c.end i)) (plus (ltb (at c.start i) a) 0) ≤ 128) where
  abbrev H : Bool
  H = ltb (at c.start i) a

  abbrev T : Bool
  T = ltb z (at c.end i)

  pub room-head : n + plus H 0 ≤ 128
  room-head = go T room
    where
      go : (b : Bool) → n + plus b (plus H 0) ≤ 128 → n + plus H 0 ≤ 128
      go true r = omega arith
      go false r = r

  module _ (c₁ : Ranges) (k : ℕ) (e₁ : c₁ ≡ lay_ranges 0 (n + k) (at_place i (halves_if H a next) (ranges c 0 n)) c) (k-is : k ≡ plus H 0) where
    abbrev rs₁ : List Range
    rs₁ = at_place i (halves_if H a next) (ranges c 0 n)

    long₁ : length rs₁ ≡ n + k
    long₁ = at_long c s i n h H a next ∙ ap (λ t. n + t) (sym k-is)

    few₁ : n + k ≤ 128
    few₁ = omega (arith, room-head)

    pub sized₁ : Sized 128 c₁
    sized₁ = rw e₁ (sized-laid c s (n + k) rs₁ (omega (arith, long₁)) few₁)

    pub room-tail : n + k + plus T 0 ≤ 128
    room-tail = omega (arith, plus-sum H T)

    pub place : i + k < 128
    place = omega (arith, few₁)

    module _ (c₂ : Ranges) (t : ℕ) (e₂ : c₂ ≡ lay_ranges 0 (n + k + t) (at_place (i + k) (halves_if T z (next + k)) (ranges c₁ 0 (n + k))) c₁) (t-is : t ≡ plus T 0) where
      most : n + k + t ≤ 128
      most = omega (arith, room-tail)

      e₂' : c₂ ≡ lay_ranges 0 (n + k + t) (at_place (i + k) (halves_if T z (next + k)) rs₁) c
      e₂' = then_wide c s (at_place (i + k) (halves_if T z (next + k))) (n + k) (n + k + t) rs₁ c₁ c₂ e₁ long₁ (omega arith) most e₂

      read : ranges c₁ 0 (n + k) ≡ rs₁
      read = ap (λ d. ranges d 0 (n + k)) e₁ ∙ laid-read c s (n + k) (n + k) rs₁ long₁ (omega arith) few₁

      long₂ : length (at_place (i + k) (halves_if T z (next + k)) rs₁) ≡ n + k + t
      long₂ =
          ap (λ l. length (at_place (i + k) (halves_if T z (next + k)) l)) (sym read)
          ∙ at_long c₁ sized₁ (i + k) (n + k) (omega arith) T z (next + k) ∙ ap (λ x. n + k + x) (sym t-is)

      pub sized₂ : Sized 128 c₂
      sized₂ = rw e₂' (sized-laid c s (n + k + t) (at_place (i + k) (halves_if T z (next + k)) rs₁) (omega (arith, long₂)) most)

      pub one-is : edited c₂ c₂.start c₂.end (set c₂.stamp (i + k) stamp) (set c₂.touched (i + k) time)
          ≡ lay_ranges 0 (n + (k + t)) (at_place i (pieces v a z stamp time next) (ranges c 0 n)) c
      one-is =
          let F = at_place (i + k) (halves_if T z (next + k)) in
          let G = at_place (i + k) (stamped stamp time) in
          let xs = ranges c 0 i in
          let r = range_at c i in
          let ys = ranges c (i + 1) (n - (i + 1)) in
          let list : G (F rs₁) ≡ at_place i (pieces v a z stamp time next) (ranges c 0 n) =
          ap (λ l. G (F (at_place i (halves_if H a next) l))) (ranges_seam c i n h)
          ∙ cut_list v a z stamp time next xs r ys i (ranges_length c 0 i) az hit k k-is ∙ sym (at_here c s i n h (pieces v a z stamp time next)) in
          let w : n + k + t ≡ n + (k + t) = omega arith in
          then_wide c s G (n + k + t) (n + k + t) (F rs₁) c₂ _ e₂' long₂ (omega arith) most (stamp-here c₂ sized₂ (i + k) (n + k + t) (omega arith) most stamp time)
          ∙ ap (λ l. lay_ranges 0 (n + k + t) l c) list ∙ ap (λ x. lay_ranges 0 x (at_place i (pieces v a z stamp time next) (ranges c 0 n)) c) w

-- ---- the loop that cuts: the pieces that stand so far, and the records to come

recut_cons : (v a z stamp : ℕ) (time : Float) (next : ℕ) (r : Range) (rs : List Range)
    → recut v a z stamp time next (r ∷ rs) ≡ pieces v a z stamp time next r (recut v a z stamp time (plus (has_tail v a z r) (plus (has_head v a z r) next)) rs)
unfolding recut
recut_cons v a z stamp time next r rs = refl

recut_nil : (v a z stamp : ℕ) (time : Float) (next : ℕ) → recut v a z stamp time next [] ≡ []
unfolding recut
recut_nil v a z stamp time next = refl

new_cons : (v a z : ℕ) (r : Range) (rs : List Range) → new_pieces v a z (r ∷ rs) ≡ plus (has_tail v a z r) (plus (has_head v a z r) (new_pieces v a z rs))
unfolding new_pieces
new_cons v a z r rs = refl

new_nil : (v a z : ℕ) → new_pieces v a z [] ≡ 0
unfolding new_pieces
new_nil v a z = refl

recut_miss : (v a z stamp : ℕ) (time : Float) (next : ℕ) (rs : List Range) → All (Miss v a z) rs → recut v a z stamp time next rs ≡ rs
recut_miss v a z stamp time next rs k =
    ap (recut v a z stamp time next) (sym (append-nil rs)) ∙ recut_skip v a z stamp time next rs [] k ∙ ap (λ t. rs ++ t) (recut_nil v a z stamp time next) ∙ append-nil rs

new_miss : (v a z : ℕ) (rs : List Range) → All (Miss v a z) rs → new_pieces v a z rs ≡ 0
new_miss v a z rs k = ap (new_pieces v a z) (sym (append-nil rs)) ∙ new_skip v a z rs [] k ∙ new_nil v a z

pieces-front : (v a z stamp : ℕ) (time : Float) (next : ℕ) (r : Range) (rs : List Range)
    → pieces v a z stamp time next r rs ≡ pieces v a z stamp time next r [] ++ rs
pieces-front v a z stamp time next r rs = go (has_head v a z r) (has_tail v a z r)
  where
    go : (h g : Bool)
        → put h (part r r.node r.start a r.id) (middle (meets v a z r) r a z (elim h [ true ↦ next | false ↦ r.id ]) stamp time ∷ put g (part r r.node z r.end (plus h next)) rs)
        ≡ put h (part r r.node r.start a r.id) (middle (meets v a z r) r a z (elim h [ true ↦ next | false ↦ r.id ]) stamp time ∷ put g (part r r.node z r.end (plus h next)) []) ++ rs
    go true true = refl
    go true false = refl
    go false true = refl
    go false false = refl

pieces-long : (v a z stamp : ℕ) (time : Float) (next : ℕ) (r : Range) → length (pieces v a z stamp time next r []) ≡ suc (plus (has_tail v a z r) (plus (has_head v a z r) 0))
pieces-long v a z stamp time next r = go (has_head v a z r) (has_tail v a z r)
  where
    go : (h g : Bool)
        → length (put h (part r r.node r.start a r.id) (middle (meets v a z r) r a z (elim h [ true ↦ next | false ↦ r.id ]) stamp time ∷ put g (part r r.node z r.end (plus h next)) []))
        ≡ suc (plus g (plus h 0))
    go true true = refl
    go true false = refl
    go false true = refl
    go false false = refl

plus-add : (h g : Bool) (n : ℕ) → plus g (plus h n) ≡ n + plus g (plus h 0)
plus-add true true n = omega arith
plus-add true false n = omega arith
plus-add false true n = omega arith
plus-add false false n = omega arith

hit-ends : (v a z : ℕ) (r : Range) → meets v a z r ≡ true → plus (ltb z r.end) (plus (ltb r.start a) 0) ≡ plus (has_tail v a z r) (plus (has_head v a z r) 0)
hit-ends v a z r e = go (meets v a z r) e
  where
    go : (m : Bool) → m ≡ true → plus (ltb z r.end) (plus (ltb r.start a) 0) ≡ plus (m && ltb z r.end) (plus (m && ltb r.start a) 0)
    go true e = refl
    go false e = absurd (false≢true e)

pub record Recutting (c₀ c : Ranges) (n lo hi : ℕ) (sp : Span) (stamp : ℕ) (time : Float) (next p j : ℕ) : Type 0 where
  pub low : lo ≤ j
  pub high : j ≤ hi
  pub done : List Range
  pub long : length done ≡ j + p
  pub columns : c ≡ lay_ranges 0 (n + p) (done ++ ranges c₀ j (n - j)) c₀
  pub todo :
      recut sp.node sp.start sp.end stamp time next (ranges c₀ 0 n)
      ≡ done ++ recut sp.node sp.start sp.end stamp time (next + p) (ranges c₀ j (n - j))
  pub count : p + new_pieces sp.node sp.start sp.end (ranges c₀ j (n - j)) ≡ new_pieces sp.node sp.start sp.end (ranges c₀ 0 n)

pub recutting_start : (c : Ranges) (n lo hi : ℕ) (sp : Span) (stamp : ℕ) (time : Float) (next : ℕ) → Cuttable c n lo hi sp → Recutting c c n lo hi sp stamp time next 0 lo
recutting_start c n lo hi sp stamp time next w =
    let o = w.over in
    let e = ranges_cut0 c lo n (omega (arith, o.order, o.high)) in
    let z : n + 0 ≡ n = omega arith in
    record {
      low = omega arith;
      high = o.order;
      done = ranges c 0 lo;
      long = ranges_length c 0 lo ∙ sym (add-zero lo);
      columns = sym (ap (λ t. lay_ranges 0 t (ranges c 0 lo ++ ranges c lo (n - lo)) c) z ∙ ap (λ t. lay_ranges 0 n t c) (sym e) ∙ back n c w.sized w.few);
      todo =
          ap (recut sp.node sp.start sp.end stamp time next) e
          ∙ recut_skip sp.node sp.start sp.end stamp time next (ranges c 0 lo) (ranges c lo (n - lo)) (misses_before c n sp lo o.before)
          ∙ ap (λ t. ranges c 0 lo ++ recut sp.node sp.start sp.end stamp time t (ranges c lo (n - lo))) (sym (add-zero next));
      count =
          zero-add (new_pieces sp.node sp.start sp.end (ranges c lo (n - lo)))
          ∙ sym (ap (new_pieces sp.node sp.start sp.end) e ∙ new_skip sp.node sp.start sp.end (ranges c 0 lo) (ranges c lo (n - lo)) (misses_before c n sp lo o.before));
    }

module _ (c₀ c : Ranges) (n lo hi : ℕ) (sp : Span) (stamp : ℕ) (time : Float) (next p j : ℕ) (w : Cuttable c₀ n lo hi sp)
    (room : n + new_pieces sp.node sp.start sp.end (ranges c₀ 0 n) ≤ 128) (s : Recutting c₀ c n lo hi sp stamp time next p j) where
  whole_long : length (s.done ++ ranges c₀ j (n - j)) ≡ n + p
  whole_long = omega (arith, length-append s.done (ranges c₀ j (n - j)), ranges_length c₀ j (n - j), s.long, s.high, w.over.high)

  pub recutting_few : n + p ≤ 128
  recutting_few = omega (arith, s.count)

  pub recutting_sized : Sized 128 c
  recutting_sized = rw s.columns (sized-laid c₀ w.sized (n + p) (s.done ++ ranges c₀ j (n - j)) (omega (arith, whole_long)) recutting_few)

  module _ (h : j < hi) where
    abbrev r : Range
    r = range_at c₀ j

    abbrev rest : List Range
    rest = ranges c₀ (j + 1) (n - (j + 1))

    inside : j < n
    inside = omega (arith, w.over.high)

    at_hand : c ≡ lay_ranges 0 (n + p) (s.done ++ (r ∷ rest)) c₀
    at_hand = s.columns ∙ ap (λ t. lay_ranges 0 (n + p) (s.done ++ t) c₀) (ranges_cons c₀ j n inside)

    as_long : length (s.done ++ (r ∷ rest)) ≡ n + p
    as_long = ap (λ t. length (s.done ++ t)) (sym (ranges_cons c₀ j n inside)) ∙ whole_long

    there : range_at c (j + p) ≡ range_at c₀ j
    there = ap (λ t. range_at t (j + p)) at_hand ∙ laid-at c₀ w.sized (n + p) (j + p) s.done r rest s.long (omega (arith, as_long)) recutting_few

    pub recutting_hit : meets sp.node sp.start sp.end (range_at c (j + p)) ≡ true
    recutting_hit = ap (meets sp.node sp.start sp.end) there ∙ w.over.hits j s.low h

    -- the pieces of the record at hand
    count-here : p + (plus (has_tail sp.node sp.start sp.end r) (plus (has_head sp.node sp.start sp.end r) 0)) + new_pieces sp.node sp.start sp.end rest
        ≡ new_pieces sp.node sp.start sp.end (ranges c₀ 0 n)
    count-here =
        omega (
          arith,
          s.count,
          ap (new_pieces sp.node sp.start sp.end) (ranges_cons c₀ j n inside) ∙ new_cons sp.node sp.start sp.end r rest
              ∙ plus-add (has_head sp.node sp.start sp.end r) (has_tail sp.node sp.start sp.end r) (new_pieces sp.node sp.start sp.end rest),
        )

    ends-are : plus (ltb sp.end (at c.end (j + p))) (plus (ltb (at c.start (j + p)) sp.start) 0)
        ≡ plus (has_tail sp.node sp.start sp.end r) (plus (has_head sp.node sp.start sp.end r) 0)
    ends-are =
        ap (λ q. plus (ltb sp.end q.end) (plus (ltb q.start sp.start) 0)) there ∙ hit-ends sp.node sp.start sp.end r (w.over.hits j s.low h)

    pub recutting_room : n + p + plus (ltb sp.end (at c.end (j + p))) (plus (ltb (at c.start (j + p)) sp.start) 0) ≤ 128
    recutting_room = omega (arith, ends-are, count-here)

    pub recutting_turn : (c' : Ranges) (k : ℕ)
        → c' ≡ lay_ranges 0 (n + p + k) (at_place (j + p) (pieces sp.node sp.start sp.end stamp time (next + p)) (ranges c 0 (n + p))) c
        → k ≡ plus (ltb sp.end (at c.end (j + p))) (plus (ltb (at c.start (j + p)) sp.start) 0)
        → Recutting c₀ c' n lo hi sp stamp time next (p + k) (j + 1)
    recutting_turn c' k e f =
        let v = sp.node in
        let a = sp.start in
        let z = sp.end in
        let ps = pieces v a z stamp time (next + p) r [] in
        let F = at_place (j + p) (pieces v a z stamp time (next + p)) in
        let k-is : k ≡ plus (has_tail v a z r) (plus (has_head v a z r) 0) = f ∙ ends-are in
        let m : n + p + k ≡ n + (p + k) = omega arith in
        let list : F (s.done ++ (r ∷ rest)) ≡ (s.done ++ ps) ++ rest =
        at_seam (pieces v a z stamp time (next + p)) (j + p) s.done r rest s.long ∙ ap (λ t. s.done ++ t) (pieces-front v a z stamp time (next + p) r rest)
        ∙ sym (append_assoc s.done ps rest) in
        record {
          low = omega (arith, s.low);
          high = omega arith;
          done = s.done ++ ps;
          long = omega (arith, length-append s.done ps, pieces-long v a z stamp time (next + p) r, s.long, k-is);
          columns =
              then_wide c₀ w.sized F (n + p) (n + p + k) (s.done ++ (r ∷ rest)) c c' at_hand as_long (omega arith) (omega (arith, count-here, k-is)) e
              ∙ ap (λ t. lay_ranges 0 (n + p + k) t c₀) list ∙ ap (λ t. lay_ranges 0 t ((s.done ++ ps) ++ rest) c₀) m;
          todo =
              s.todo
              ∙ ap (λ t. s.done ++ t)
              (ap (recut v a z stamp time (next + p)) (ranges_cons c₀ j n inside) ∙ recut_cons v a z stamp time (next + p) r rest
              ∙ ap (λ t. pieces v a z stamp time (next + p) r (recut v a z stamp time t rest)) (plus-add (has_head v a z r) (has_tail v a z r) (next + p) ∙ omega (arith, k-is))
              ∙ pieces-front v a z stamp time (next + p) r (recut v a z stamp time (next + (p + k)) rest))
              ∙ sym (append_assoc s.done ps (recut v a z stamp time (next + (p + k)) rest));
          count = omega (arith, count-here, k-is);
        }

  pub recutting_end : hi ≤ j → (c ≡ lay_ranges 0 (n + p) (recut sp.node sp.start sp.end stamp time next (ranges c₀ 0 n)) c₀)
      × (p ≡ new_pieces sp.node sp.start sp.end (ranges c₀ 0 n))
  recutting_end h =
      let e : j ≡ hi = omega (arith, s.high) in
      let miss : All (Miss sp.node sp.start sp.end) (ranges c₀ j (n - j)) =
      subst (λ t. All (Miss sp.node sp.start sp.end) (ranges c₀ t (n - t))) (sym e) (misses_after c₀ n sp lo hi w.over) in (
        s.columns ∙ ap (λ t. lay_ranges 0 (n + p) t c₀)
            (sym (s.todo ∙ ap (λ t. s.done ++ t) (recut_miss sp.node sp.start sp.end stamp time (next + p) (ranges c₀ j (n - j)) miss))),
        omega (arith, s.count, new_miss sp.node sp.start sp.end (ranges c₀ j (n - j)) miss),
      )

-- ---- two neighbours

pub merge_is : (c : Ranges) → Sized 128 c → (i n : ℕ) → i + 1 < n → n ≤ 128 → (c' : Ranges)
    → c' ≡ cut_range (i + 1) n (edited c c.start (set c.end i (at c.end (i + 1))) c.stamp c.touched)
    → c' ≡ lay_ranges 0 n (at_place i merged (ranges c 0 n)) c
merge_is c s i n h g c' e =
    let v = at c.end (i + 1) in
    let f : Range → List Range → List Range = λ r rs. part r r.node r.start v r.id ∷ rs in
    let c₁ = edited c c.start (set c.end i v) c.stamp c.touched in
    let l : i < n = omega arith in
    let xs = ranges c 0 i in
    let r = range_at c i in
    let q = range_at c (i + 1) in
    let ys = ranges c (i + 1 + 1) (n - (i + 1 + 1)) in
    let p = part r r.node r.start v r.id in
    let e₁ : c₁ ≡ lay_ranges 0 n (at_place i f (ranges c 0 n)) c = end-here c s i n l g v in
    let here : at_place i f (ranges c 0 n) ≡ xs ++ (p ∷ q ∷ ys) = at_here c s i n l f ∙ ap (λ t. xs ++ (p ∷ t)) (ranges_cons c (i + 1) n h) in
    let long : length (at_place i f (ranges c 0 n)) ≡ n =
    ap length here ∙ omega (arith, length-append xs (p ∷ q ∷ ys), ranges_length c 0 i, ranges_length c (i + 1 + 1) (n - (i + 1 + 1))) in
    let sized : Sized 128 c₁ = rw e₁ (sized-laid c s n (at_place i f (ranges c 0 n)) (omega (arith, long)) g) in
    let G = at_place (i + 1) (λ r rs. rs) in
    then_wide c s G n n (at_place i f (ranges c 0 n)) c₁ c' e₁ long (omega arith) g (e ∙ cut-here c₁ sized (i + 1) n h g)
    ∙ ap (λ t. lay_ranges 0 n t c)
    (ap G (here ∙ sym (append_assoc xs (p ∷ []) (q ∷ ys)))
    ∙ at_seam (λ r rs. rs) (i + 1) (xs ++ (p ∷ [])) q ys (length-append xs (p ∷ []) ∙ ap (λ t. t + 1) (ranges_length c 0 i))
    ∙ append_assoc xs (p ∷ []) ys ∙ sym (at_here c s i n l merged ∙ ap (λ t. xs ++ merged r t) (ranges_cons c (i + 1) n h)))

-- ---- the loop that joins: what stands so far, the range that is joined so far, and those to come

pub record Joining (c₀ c : Ranges) (n v m i : ℕ) : Type 0 where
  pub done : List Range
  pub first : Range
  pub rest : List Range
  pub long : length done ≡ i
  pub size : m ≡ i + suc (length rest)
  pub few : m ≤ n
  pub columns : c ≡ lay_ranges 0 n (done ++ (first ∷ rest)) c₀
  pub todo : join v (ranges c₀ 0 n) ≡ done ++ join_from v first rest

join_cons : (v : ℕ) (r : Range) (rs : List Range) → join v (r ∷ rs) ≡ join_from v r rs
unfolding join
join_cons v r rs = refl

from_nil : (v : ℕ) (r : Range) → join_from v r [] ≡ r ∷ []
unfolding join_from
from_nil v r = refl

from_yes : (v : ℕ) (r q : Range) (rs : List Range) → joins v r q ≡ true → join_from v r (q ∷ rs) ≡ join_from v (part r r.node r.start q.end r.id) rs
unfolding join_from
from_yes v r q rs e = go (joins v r q) e
  where
    go : (j : Bool) → j ≡ true
        → put (not j) r (join_from v (elim j [ true ↦ part r r.node r.start q.end r.id | false ↦ q ]) rs) ≡ join_from v (part r r.node r.start q.end r.id) rs
    go true e = refl
    go false e = absurd (false≢true e)

from_no : (v : ℕ) (r q : Range) (rs : List Range) → joins v r q ≡ false → join_from v r (q ∷ rs) ≡ r ∷ join_from v q rs
unfolding join_from
from_no v r q rs e = go (joins v r q) e
  where
    go : (j : Bool) → j ≡ false → put (not j) r (join_from v (elim j [ true ↦ part r r.node r.start q.end r.id | false ↦ q ]) rs) ≡ r ∷ join_from v q rs
    go true e = absurd (true≢false e)
    go false e = refl

next_of : (rest : List Range) → 1 ≤ length rest → (q : Range) × (qs : List Range) × (rest ≡ q ∷ qs)
next_of [] h = absurd (omega arith)
next_of (q ∷ qs) h = (q, qs, refl)

none_left : (rest : List Range) → length rest ≡ 0 → rest ≡ []
none_left [] h = refl
none_left (q ∷ qs) h = absurd (omega arith)

pub joining_start : (c : Ranges) (n v : ℕ) → Sized 128 c → 1 ≤ n → n ≤ 128 → Joining c c n v n 0
joining_start c n v s h g =
    let z : n ≡ n - 0 = omega arith in
    let e : ranges c 0 n ≡ range_at c 0 ∷ ranges c (0 + 1) (n - (0 + 1)) = ap (λ t. ranges c 0 t) z ∙ ranges_cons c 0 n h in
    record {
      done = [];
      first = range_at c 0;
      rest = ranges c (0 + 1) (n - (0 + 1));
      long = refl;
      size = omega (arith, ranges_length c (0 + 1) (n - (0 + 1)));
      few = omega arith;
      columns = sym (ap (λ t. lay_ranges 0 n t c) (sym e) ∙ back n c s g);
      todo = ap (join v) e ∙ join_cons v (range_at c 0) (ranges c (0 + 1) (n - (0 + 1)));
    }

module _ (c₀ c : Ranges) (n v m i : ℕ) (z : Sized 128 c₀) (g : n ≤ 128) (s : Joining c₀ c n v m i) where
  list-long : length (s.done ++ (s.first ∷ s.rest)) ≡ m
  list-long = omega (arith, length-append s.done (s.first ∷ s.rest), s.long, s.size)

  pub joining_sized : Sized 128 c
  joining_sized = rw s.columns (sized-laid c₀ z n (s.done ++ (s.first ∷ s.rest)) (omega (arith, list-long, s.few)) g)

  module _ (h : i + 1 < m) where
    abbrev found : (q : Range) × (qs : List Range) × (s.rest ≡ q ∷ qs)
    found = next_of s.rest (omega (arith, s.size))

    abbrev q : Range
    q = found.0

    abbrev qs : List Range
    qs = found.1

    now-list : c ≡ lay_ranges 0 n (s.done ++ (s.first ∷ q ∷ qs)) c₀
    now-list = s.columns ∙ ap (λ t. lay_ranges 0 n (s.done ++ (s.first ∷ t)) c₀) found.2

    now-long : length (s.done ++ (s.first ∷ q ∷ qs)) ≡ m
    now-long = ap (λ t. length (s.done ++ (s.first ∷ t))) (sym found.2) ∙ list-long

    rest-long : length s.rest ≡ suc (length qs)
    rest-long = ap length found.2

    first-at : range_at c i ≡ s.first
    first-at = ap (λ t. range_at t i) now-list ∙ laid-at c₀ z n i s.done s.first (q ∷ qs) s.long (omega (arith, now-long, s.few)) g

    second_at : range_at c (i + 1) ≡ q
    second_at =
        ap (λ t. range_at t (i + 1)) (now-list ∙ ap (λ t. lay_ranges 0 n t c₀) (sym (append_assoc s.done (s.first ∷ []) (q ∷ qs))))
        ∙ laid-at c₀ z n (i + 1) (s.done ++ (s.first ∷ [])) q qs (length-append s.done (s.first ∷ []) ∙ ap (λ t. t + 1) s.long)
        (omega (arith, ap length (append_assoc s.done (s.first ∷ []) (q ∷ qs)), now-long, s.few)) g

    joins-are : joins v (range_at c i) (range_at c (i + 1)) ≡ joins v s.first q
    joins-are = ap (λ t. joins v t (range_at c (i + 1))) first-at ∙ ap (joins v s.first) second_at

    pub joining_yes : true ≡ joins v (range_at c i) (range_at c (i + 1)) → (c' : Ranges) → c' ≡ lay_ranges 0 m (at_place i merged (ranges c 0 m)) c → Joining c₀ c' n v (m - 1) i
    joining_yes e c' w =
        let p = part s.first s.first.node s.first.start q.end s.first.id in
        let list : at_place i merged (s.done ++ (s.first ∷ q ∷ qs)) ≡ s.done ++ (p ∷ qs) = at_seam merged i s.done s.first (q ∷ qs) s.long in
        record {
          done = s.done;
          first = p;
          rest = qs;
          long = s.long;
          size = omega (arith, s.size, rest-long);
          few = omega (arith, s.few);
          columns =
              then_narrow c₀ z (at_place i merged) m n (s.done ++ (s.first ∷ q ∷ qs)) c c' now-list now-long s.few g
              (omega (arith, ap length list, length-append s.done (p ∷ qs), s.long, s.size, rest-long)) w
              ∙ ap (λ t. lay_ranges 0 n t c₀) list;
          todo = s.todo ∙ ap (λ t. s.done ++ t) (ap (join_from v s.first) found.2 ∙ from_yes v s.first q qs (sym (e ∙ joins-are)));
        }

    pub joining_no : false ≡ joins v (range_at c i) (range_at c (i + 1)) → Joining c₀ c n v m (i + 1)
    joining_no e =
        record {
          done = s.done ++ (s.first ∷ []);
          first = q;
          rest = qs;
          long = length-append s.done (s.first ∷ []) ∙ ap (λ t. t + 1) s.long;
          size = omega (arith, s.size, rest-long);
          few = s.few;
          columns = now-list ∙ ap (λ t. lay_ranges 0 n t c₀) (sym (append_assoc s.done (s.first ∷ []) (q ∷ qs)));
          todo =
              s.todo ∙ ap (λ t. s.done ++ t) (ap (join_from v s.first) found.2 ∙ from_no v s.first q qs (sym (e ∙ joins-are)))
              ∙ sym (append_assoc s.done (s.first ∷ []) (join_from v q qs));
        }

  pub joining_end : m ≤ i + 1 → (c ≡ lay_ranges 0 n (join v (ranges c₀ 0 n)) c₀) × (m ≡ length (join v (ranges c₀ 0 n))) × (m ≤ n)
  joining_end h =
      let e : s.rest ≡ [] = none_left s.rest (omega (arith, s.size)) in
      let list : join v (ranges c₀ 0 n) ≡ s.done ++ (s.first ∷ []) = s.todo ∙ ap (λ t. s.done ++ t) (ap (join_from v s.first) e ∙ from_nil v s.first) in (
        s.columns ∙ ap (λ t. lay_ranges 0 n t c₀) (ap (λ t. s.done ++ (s.first ∷ t)) e ∙ sym list),
        sym (ap length (list ∙ ap (λ t. s.done ++ (s.first ∷ t)) (sym e)) ∙ list-long),
        s.few,
      )

-- ---- the whole

recut-long : (v a z stamp : ℕ) (time : Float) (next : ℕ) (rs : List Range) → length (recut v a z stamp time next rs) ≡ length rs + new_pieces v a z rs
unfolding recut new_pieces
recut-long v a z stamp time next [] = refl
recut-long v a z stamp time next (r ∷ rs) =
    let i = plus (has_tail v a z r) (plus (has_head v a z r) next) in
    let qs = recut v a z stamp time i rs in
    ap length (pieces-front v a z stamp time next r qs)
    ∙ omega (
      arith,
      length-append (pieces v a z stamp time next r []) qs,
      pieces-long v a z stamp time next r,
      recut-long v a z stamp time i rs,
      plus-add (has_head v a z r) (has_tail v a z r) (new_pieces v a z rs),
    )

restamp-hit : (v a z stamp : ℕ) (time : Float) (r : Range) (rs : List Range) → meets v a z r ≡ true
    → restamp v a z stamp time (r ∷ rs) ≡ renewed r r.start r.end r.id stamp time ∷ restamp v a z stamp time rs
unfolding restamp
restamp-hit v a z stamp time r rs e = rw e

restamp_nil : (v a z stamp : ℕ) (time : Float) → restamp v a z stamp time [] ≡ []
unfolding restamp
restamp_nil v a z stamp time = refl

restamp_miss : (v a z stamp : ℕ) (time : Float) (rs : List Range) → All (Miss v a z) rs → restamp v a z stamp time rs ≡ rs
restamp_miss v a z stamp time rs k =
    ap (restamp v a z stamp time) (sym (append-nil rs)) ∙ restamp_skip v a z stamp time rs [] k ∙ ap (λ t. rs ++ t) (restamp_nil v a z stamp time) ∙ append-nil rs

module _ (c : Ranges) (n lo hi : ℕ) (sp : Span) (top : ℕ) (time : Float) (next : ℕ) (some : lo < hi) (w : Cuttable c n lo hi sp) (one : Bool)
    (told : one ≡ one_inside sp.start sp.end (ranges c lo (hi - lo))) where
  in_n : lo < n
  in_n = omega (arith, w.over.high)

  pub refreshed_one : one ≡ true
      → Refreshed sp (suc top) time next c (edited c c.start c.end (set c.stamp lo (top + 1)) (set c.touched lo time)) n lo (hi - lo) n 0
  refreshed_one e =
      let v = sp.node in
      let a = sp.start in
      let z = sp.end in
      let xs = ranges c 0 lo in
      let r = range_at c lo in
      let ys = ranges c (lo + 1) (n - (lo + 1)) in
      let last : lo + 1 ≡ hi = only (native.Mathlib.Decide.ℕ_discrete (hi - lo) 1) in
      let behind : All (Miss v a z) ys = subst (λ t. All (Miss v a z) (ranges c t (n - t))) (sym last) (misses_after c n sp lo hi w.over) in
      let list : restamp v a z (suc top) time (ranges c 0 n) ≡ xs ++ (renewed r r.start r.end r.id (suc top) time ∷ ys) =
      ap (restamp v a z (suc top) time) (ranges_seam c lo n in_n)
      ∙ restamp_skip v a z (suc top) time xs (r ∷ ys) (misses_before c n sp lo w.over.before)
      ∙ ap (λ t. xs ++ t)
      (restamp-hit v a z (suc top) time r ys (w.over.hits lo (omega arith) some)
      ∙ ap (λ t. renewed r r.start r.end r.id (suc top) time ∷ t) (restamp_miss v a z (suc top) time ys behind)) in
      let same : touched_ranges (one_inside a z (ranges c lo (hi - lo))) sp (suc top) time next (ranges c 0 n) ≡ restamp v a z (suc top) time (ranges c 0 n) =
      ap (λ t. touched_ranges t sp (suc top) time next (ranges c 0 n)) (sym told ∙ e) in
      record {
        columns =
            stamp-here c w.sized lo n in_n w.few (top + 1) time
            ∙ ap (λ t. lay_ranges 0 n (at_place lo (λ r rs. renewed r r.start r.end r.id t time ∷ rs) (ranges c 0 n)) c) (add-one top)
            ∙ ap (λ t. lay_ranges 0 n t c) (at_here c w.sized lo n in_n (λ r rs. renewed r r.start r.end r.id (suc top) time ∷ rs) ∙ sym (same ∙ list))
            ∙ ap (λ t. lay_ranges 0 t (touched_ranges (one_inside a z (ranges c lo (hi - lo))) sp (suc top) time next (ranges c 0 n)) c) (sym (add-zero n));
        records = sym (ap length (same ∙ list) ∙ omega (arith, in_n, length-append xs (renewed r r.start r.end r.id (suc top) time ∷ ys), ranges_length c 0 lo, ranges_length c (lo + 1) (n - (lo + 1))));
        needs = sym (new-hits v a z (ranges c 0 n) ∙ ap (new_pieces v a z) (hits-are c n sp lo hi w.over) ∙ one-new v a z (ranges c lo (hi - lo)) (sym told ∙ e));
      }
    where
      only : Dec (hi - lo ≡ 1) → lo + 1 ≡ hi
      only (yes l) = omega arith
      only (no l) = absurd (false≢true (inside-many c sp lo hi some l ∙ sym told ∙ e))

  module _ (room : n + new_pieces sp.node sp.start sp.end (ranges c 0 n) ≤ 128) (c₁ : Ranges) (p : ℕ)
      (cut : c₁ ≡ lay_ranges 0 (n + p) (recut sp.node sp.start sp.end (top + 1) time next (ranges c 0 n)) c)
      (new : p ≡ new_pieces sp.node sp.start sp.end (ranges c 0 n)) where
    abbrev now_cut : List Range
    now_cut = recut sp.node sp.start sp.end (top + 1) time next (ranges c 0 n)

    few : n + p ≤ 128
    few = omega (arith, new)

    long : length now_cut ≡ n + p
    long = omega (arith, recut-long sp.node sp.start sp.end (top + 1) time next (ranges c 0 n), ranges_length c 0 n, new)

    pub recut_sized : Sized 128 c₁
    recut_sized = rw cut (sized-laid c w.sized (n + p) now_cut (omega (arith, long)) few)

    pub refreshed_cut : one ≡ false → (c₂ : Ranges) (m : ℕ)
        → c₂ ≡ lay_ranges 0 (n + p) (join sp.node (ranges c₁ 0 (n + p))) c₁ → m ≡ length (join sp.node (ranges c₁ 0 (n + p)))
        → Refreshed sp (suc top) time next c c₂ n lo (hi - lo) m p
    refreshed_cut e c₂ m joined count =
        let v = sp.node in
        let a = sp.start in
        let z = sp.end in
        let read : ranges c₁ 0 (n + p) ≡ now_cut = ap (λ t. ranges t 0 (n + p)) cut ∙ laid-read c w.sized (n + p) (n + p) now_cut long (omega arith) few in
        let same : touched_ranges (one_inside a z (ranges c lo (hi - lo))) sp (suc top) time next (ranges c 0 n) ≡ join v now_cut =
        ap (λ t. touched_ranges t sp (suc top) time next (ranges c 0 n)) (sym told ∙ e) ∙ ap (λ t. join v (recut v a z t time next (ranges c 0 n))) (sym (add-one top)) in
        record {
          columns =
              then_wide c w.sized (join v) (n + p) (n + p) now_cut c₁ c₂ cut long (omega arith) few joined ∙ ap (λ t. lay_ranges 0 (n + p) t c) (sym same);
          records = count ∙ ap (λ t. length (join v t)) read ∙ ap length (sym same);
          needs = new;
        }

-- bytes look at the depths of a tree, and at starts and ends
held_same : (t : Tree) (depth table : List ℕ) (v a z : ℕ) (c : Ranges) → t.depth ≡ depth → (i m : ℕ)
    → held_bytes (only_depth depth) table v a z (ranges c i m) ≡ held_bytes t table v a z (ranges c i m)
unfolding held_bytes ranges
held_same t depth table v a z c e i zero = refl
held_same t depth table v a z c e i (suc m) =
    ap (λ k. bytes_of (only_depth depth) table v (max a (at c.start i)) (min z (at c.end i)) + k) (held_same t depth table v a z c e (suc i) m)
    ∙ ap (λ d. (at table (at d v + min z (at c.end i)) - at table (at d v + max a (at c.start i))) + held_bytes t table v a z (ranges c (suc i) m)) (sym e)

read_same : (counted : Bool) (t : Tree) (depth table : List ℕ) (sp : Span) (c : Ranges) → t.depth ≡ depth → (i m : ℕ)
    → bytes_read counted (only_depth depth) table sp (ranges c i m) ≡ bytes_read counted t table sp (ranges c i m)
read_same true t depth table sp c e i m = held_same t depth table sp.node sp.start sp.end c e i m
read_same false t depth table sp c e i m = refl

touch_is : (hits : List Range) (t : Tree) (table : List ℕ) (x : Store) (next : ℕ) (sp : Span) (time : Float) (counted : Bool)
    → overlapped sp.node sp.start sp.end x.ranges ≡ hits → touch t table x next sp time counted ≡ touch_hits hits t table x next sp time counted
unfolding touch
touch_is hits t table x next sp time counted e = ap (λ l. touch_hits l t table x next sp time counted) e

module _ (c : Ranges) (n lo hi : ℕ) (sp : Span) (next : ℕ) (time : Float) (counted : Bool) (w : Cuttable c n lo hi sp) (t : Tree) (table : List ℕ) (x : Store)
    (same : x.ranges ≡ ranges c 0 n) where
  over-are : overlapped sp.node sp.start sp.end x.ranges ≡ ranges c lo (hi - lo)
  over-are = ap (overlapped sp.node sp.start sp.end) same ∙ hits-are c n sp lo hi w.over

  as_it_was : c ≡ lay_ranges 0 (n + 0) x.ranges c
  as_it_was = sym (ap (λ k. lay_ranges 0 k x.ranges c) (add-zero n) ∙ ap (λ l. lay_ranges 0 n l c) same ∙ back n c w.sized w.few)

  as_many : n ≡ length x.ranges
  as_many = sym (ap length same ∙ ranges_length c 0 n)

  pub touching_none : lo ≡ hi → (ms : List ℕ) → x.marks ≡ ms → Touching (touch t table x next sp time counted) c c ms n (record { n = n; need = 0; stamps = 0; bytes = 0 })
  touching_none e ms q =
      subst (λ r. Touching r c c ms n (record { n = n; need = 0; stamps = 0; bytes = 0 }))
      (sym (touch_is [] t table x next sp time counted (over-are ∙ ranges-none c lo hi (omega arith))))
      (record { columns = as_it_was; marks = sym q; records = as_many; need = refl; stamps = refl; bytes = refl })

  module _ (d : lo ≡ hi → ⊥) (depth : List ℕ) (deep : t.depth ≡ depth) (read : ℕ)
      (read_is : read ≡ bytes_read counted (only_depth depth) table sp (ranges c lo (hi - lo)))
      (ms ms' : List ℕ) (q : x.marks ≡ ms) (marked : ms' ≡ mark_read counted sp ms) where
    abbrev r₀ : Range
    r₀ = range_at c lo

    abbrev rest₀ : List Range
    rest₀ = ranges c (lo + 1) (hi - (lo + 1))

    cons : ranges c lo (hi - lo) ≡ r₀ ∷ rest₀
    cons = ranges_cons c lo hi (omega (arith, w.over.order, d))

    abbrev rd : ℕ
    rd = bytes_read counted t table sp (r₀ ∷ rest₀)

    abbrev mk : List ℕ
    mk = mark_read counted sp x.marks

    bytes-are : read ≡ rd
    bytes-are = read_is ∙ read_same counted t depth table sp c deep lo (hi - lo) ∙ ap (bytes_read counted t table sp) cons

    marks-are : ms' ≡ mk
    marks-are = marked ∙ ap (mark_read counted sp) (sym q)

    is : touch t table x next sp time counted ≡ refresh (eqb x.book.policy 1) (one_inside sp.start sp.end (r₀ ∷ rest₀)) x next sp time mk rd
    is = touch_is (r₀ ∷ rest₀) t table x next sp time counted (over-are ∙ cons)

    pub touching_off : eqb x.book.policy 1 ≡ false → Touching (touch t table x next sp time counted) c c ms' n (record { n = n; need = 0; stamps = 0; bytes = read })
    touching_off off =
        subst (λ k. Touching k c c ms' n (record { n = n; need = 0; stamps = 0; bytes = read }))
        (sym (is ∙ ap (λ b. refresh b (one_inside sp.start sp.end (r₀ ∷ rest₀)) x next sp time mk rd) off))
        (record { columns = as_it_was; marks = marks-are; records = as_many; need = refl; stamps = refl; bytes = bytes-are })

    pub touching_on : eqb x.book.policy 1 ≡ true → (top : ℕ) → x.book.stamp ≡ top → (c' : Ranges) (m need : ℕ) → Refreshed sp (suc top) time next c c' n lo (hi - lo) m need
        → Touching (touch t table x next sp time counted) c c' ms' n (record { n = m; need = need; stamps = 1; bytes = read })
    unfolding renew split
    touching_on on top high c' m need f =
        subst (λ k. Touching k c c' ms' n (record { n = m; need = need; stamps = 1; bytes = read }))
        (sym (is ∙ ap (λ b. refresh b (one_inside sp.start sp.end (r₀ ∷ rest₀)) x next sp time mk rd) on))
        (go (one_inside sp.start sp.end (r₀ ∷ rest₀)) refl)
      where
        list : (b : Bool) → one_inside sp.start sp.end (r₀ ∷ rest₀) ≡ b
            → touched_ranges (one_inside sp.start sp.end (ranges c lo (hi - lo))) sp (suc top) time next (ranges c 0 n) ≡ touched_ranges b sp (suc x.book.stamp) time next x.ranges
        list b e =
            ap (λ k. touched_ranges k sp (suc top) time next (ranges c 0 n)) (ap (one_inside sp.start sp.end) cons ∙ e)
            ∙ ap (λ k. touched_ranges b sp (suc k) time next (ranges c 0 n)) (sym high) ∙ ap (touched_ranges b sp (suc x.book.stamp) time next) (sym same)

        none : one_inside sp.start sp.end (r₀ ∷ rest₀) ≡ true → need ≡ 0
        none e =
            f.needs ∙ new-hits sp.node sp.start sp.end (ranges c 0 n) ∙ ap (new_pieces sp.node sp.start sp.end) (hits-are c n sp lo hi w.over ∙ cons)
            ∙ one-new sp.node sp.start sp.end (r₀ ∷ rest₀) e

        as_needed : need ≡ new_pieces sp.node sp.start sp.end x.ranges
        as_needed = f.needs ∙ ap (new_pieces sp.node sp.start sp.end) (sym same)

        go : (b : Bool) → one_inside sp.start sp.end (r₀ ∷ rest₀) ≡ b
            → Touching (refresh true b x next sp time mk rd) c c' ms' n (record { n = m; need = need; stamps = 1; bytes = read })
        go true e =
            record {
              columns = f.columns ∙ ap (λ l. lay_ranges 0 (n + need) l c) (list true e) ∙ ap (λ k. lay_ranges 0 (n + k) (touched_ranges true sp (suc x.book.stamp) time next x.ranges) c) (none e);
              marks = marks-are;
              records = f.records ∙ ap length (list true e);
              need = none e;
              stamps = refl;
              bytes = bytes-are;
            }
        go false e =
            record {
              columns = f.columns ∙ ap (λ l. lay_ranges 0 (n + need) l c) (list false e) ∙ ap (λ k. lay_ranges 0 (n + k) (touched_ranges false sp (suc x.book.stamp) time next x.ranges) c) as_needed;
              marks = marks-are;
              records = f.records ∙ ap length (list false e);
              need = as_needed;
              stamps = refl;
              bytes = bytes-are;
            }

-- ---- room for a test's record

pub room-off : (on : Bool) (n : ℕ) → n + plus on 0 ≤ 128 → n ≤ 128
room-off true n h = omega arith
room-off false n h = omega arith
